-- What the contracts of the queue cite, in reading order.
pub mod Orders
pub mod Heaps
pub mod Drains
pub mod Sifts
