pub mod Avl
