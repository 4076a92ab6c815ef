-- What a replayed stream comes to. To be read in this order:
pub mod Sums
pub mod Streams
