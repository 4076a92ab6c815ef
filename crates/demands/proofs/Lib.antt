-- What rests on the code's own outcome.
pub mod Next
