-- Laws that no single function's proof owns.
-- For the functions:
pub mod Kept
pub mod Blocks
-- Of the program, for its readers:
pub mod Unique
pub mod Remains
pub mod Whole
-- Document 01's whole example and other whole logs, proved by computing:
pub mod Examples
