-- Worked rows, by computing.
pub mod Full
