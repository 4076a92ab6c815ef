-- Laws that no single function's proof owns.
pub mod Fits
pub mod Acts
pub mod Fronts
pub mod Telling
pub mod Finding
