pub mod EveryIndex
mod Counts
mod Links
mod Growth
mod Bits
mod Walking
