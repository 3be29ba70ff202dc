-- What the contracts cite, in reading order.
pub mod Archived
pub mod Times
pub mod Parts
pub mod Waiting
pub mod Calls
