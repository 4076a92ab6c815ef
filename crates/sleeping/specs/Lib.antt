-- What the functions of this crate promise: Rows for the leaves, Promised for the operations.
pub mod Rows
pub mod Promised
