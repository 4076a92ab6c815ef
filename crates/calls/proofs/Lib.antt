-- What each call comes to, over tables alone.
pub mod Newborns
pub mod Creating
pub mod Serving
pub mod Telling
pub mod Naming
pub mod Numbered
