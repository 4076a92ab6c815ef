-- The rules of one processor: as they stood before 02, (xiii), with alarms first, (vi).
pub mod Former
pub mod Grown
