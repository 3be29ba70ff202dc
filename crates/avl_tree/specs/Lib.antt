pub mod Tree
pub mod Turns
pub mod Changes
pub mod Nodes
pub mod Climb
pub mod Builds
pub mod Shape
