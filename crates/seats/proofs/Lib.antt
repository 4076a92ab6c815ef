-- Laws that no single function's proof owns.
pub mod Tabled
pub mod Leave
pub mod Told
