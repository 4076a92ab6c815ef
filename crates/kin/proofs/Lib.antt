pub mod Climbs
pub mod Ceilings
