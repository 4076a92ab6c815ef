-- Laws that the proofs of several functions cite, and the uniqueness of what is promised.
pub mod Arrays
pub mod Fronts
pub mod Steps
pub mod Unique
