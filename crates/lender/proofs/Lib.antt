-- Why the rows that the lender has back are the rule book's.
pub mod Lends
pub mod Tables
