pub mod Entries
pub mod Questions
pub mod Changes
pub mod Laws
pub mod Flat
