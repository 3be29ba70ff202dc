pub mod Versions
pub mod Marks
pub mod Searches
pub mod Held
pub mod Difference
pub mod Questions
pub mod Named
