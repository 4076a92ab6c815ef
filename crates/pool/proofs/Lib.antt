-- Laws of rows, over plain lists.
pub mod Search
pub mod Ends
