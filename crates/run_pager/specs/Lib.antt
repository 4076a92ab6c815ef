-- What the program does with a line, and what it writes of a text.
pub mod Acts
pub mod Told
pub mod Said
