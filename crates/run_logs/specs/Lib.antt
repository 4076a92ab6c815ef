-- How one log of many is read and answered.
pub mod Framed
