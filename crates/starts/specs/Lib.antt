-- What the test of a start answers.
pub mod Verdict
