-- The lines that the program writes. To be believed, read in this order:
pub mod Text
pub mod Buffer
