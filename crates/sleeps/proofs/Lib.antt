-- The laws of sleeping, over any list of operations: Promises has the theorems.
pub mod Lists
pub mod Inserts
pub mod Kept
pub mod Refusals
pub mod Counts
pub mod Moments
pub mod Once
pub mod Order
pub mod Promises
