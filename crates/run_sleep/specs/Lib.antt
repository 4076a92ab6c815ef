-- What the program writes of a text.
pub mod Said
