pub mod Numbers
pub mod Walks
pub mod Ends
pub mod Names
pub mod Laws
