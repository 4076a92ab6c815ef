-- One processor gives the old answers.
pub mod Same
