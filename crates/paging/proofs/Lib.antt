-- Why the code does what the rule book says.
pub mod Pages
pub mod Refusals
pub mod Unique
