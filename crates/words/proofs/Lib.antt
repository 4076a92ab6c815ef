-- A turn of each loop of this crate, and what callers use of its definitions.
pub mod Runs
pub mod Sums
pub mod Limits
pub mod Says
pub mod Places
