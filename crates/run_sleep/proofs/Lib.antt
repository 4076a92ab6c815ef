-- Laws that no single function's proof owns.
pub mod Telling
pub mod Verdicts
