-- Laws that the proofs of several functions cite.
pub mod Numbers
pub mod Passing
pub mod Spelling
