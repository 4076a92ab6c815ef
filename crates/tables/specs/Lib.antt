-- How the tables stand for a machine of the rule book, and what each part promises.
pub mod Codes
pub mod View
pub mod Promised
