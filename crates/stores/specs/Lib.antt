pub mod Questions
pub mod Laws
pub mod Append
pub mod Same
pub mod Records
pub mod Together
pub mod Memory
