-- Lemmas on orders and on lists in heap order.
pub mod Orders
pub mod Heaps
mod Sifts
mod Calls
mod Drains
