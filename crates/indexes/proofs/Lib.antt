pub mod Counts
pub mod Finds
pub mod Apart
pub mod Edits
pub mod Chains
pub mod Places
