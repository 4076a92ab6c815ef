pub mod Eventful
pub mod Arriving
pub mod Ends
