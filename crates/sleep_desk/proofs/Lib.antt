-- The cases of the rule: Heard. What the functions leave to show: Steps. One result, and refused events: Unique. The laws over any list of what
-- happens: Promises, by Apart and Timing; of whoever calls the code: Callers. A day, by computing: Examples.
pub mod Heard
pub mod Steps
pub mod Unique
pub mod Apart
pub mod Timing
pub mod Promises
pub mod Callers
pub mod Examples
