-- What the functions of this crate promise.
pub mod Texts
pub mod Figures
pub mod Complaints
pub mod Examples
