-- Seats in arrays.
pub mod Seats
