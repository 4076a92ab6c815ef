-- What the program writes of a log. To be believed, read in this order:
pub mod Text
pub mod Turns
pub mod Promised
pub mod Walks
