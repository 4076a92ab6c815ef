-- Demand 3, of the desk's code.
pub mod Demands
