-- Laws over tables alone: who sits where, and what each change leaves.
pub mod Coding
pub mod Away
pub mod Seats
pub mod Lining
pub mod Moves
pub mod Choosing
pub mod Waking
pub mod Ticking
pub mod Doomed
pub mod Endings
pub mod Billing
pub mod Trials
pub mod Begins
pub mod Turning
pub mod Unique
