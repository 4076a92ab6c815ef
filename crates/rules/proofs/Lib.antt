-- What is proved of the rule book.
-- Worked examples, by computing:
pub mod Examples
pub mod Edges
pub mod Numbered
pub mod Several
pub mod Alarms
-- That every event keeps the tables' rule, and what it is proved by:
pub mod Tables
pub mod Cases
pub mod Sums
pub mod Lines
pub mod Free
pub mod Living
pub mod Walk
pub mod Sound
pub mod Kin
pub mod Descent
pub mod Places
pub mod Lined
pub mod Laws
pub mod Standing
-- Several processors: a seat is taken and taken back; an event at any processor; the mask of processors:
pub mod Turns
pub mod Arrivals
pub mod Named
-- How long one waits in a ready line, 02, (vii):
pub mod Waits
