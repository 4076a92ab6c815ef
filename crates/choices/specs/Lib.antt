-- Whose line is whose.
pub mod Lines
