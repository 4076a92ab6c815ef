-- Why the rule holds, and the laws.
pub mod Happens
pub mod Matches
pub mod Ruled
pub mod Promises
