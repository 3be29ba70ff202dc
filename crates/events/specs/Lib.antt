pub mod Scalar
pub mod Parts
pub mod WellFormed
pub mod Orders
pub mod Refusals
pub mod Made
pub mod Same
pub mod Pairs
