-- Laws of the choice, by how many are in each line.
pub mod Turns
