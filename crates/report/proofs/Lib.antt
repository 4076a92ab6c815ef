-- Laws that the proofs of several functions cite:
pub mod Laws
pub mod Known
-- What follows of the lines, for their readers:
pub mod Decimal
pub mod Lengths
pub mod Tells
pub mod Promised
-- Worked lines, proved by computing:
pub mod Examples
