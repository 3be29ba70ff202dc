pub mod Places
pub mod Refusals
pub mod Asked
mod Rises
mod Sets
