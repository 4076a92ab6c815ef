-- Why a stream replayed comes to the checksum of the rule book's answers.
pub mod Replays
pub mod Numbers
