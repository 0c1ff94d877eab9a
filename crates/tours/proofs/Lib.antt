pub mod Adding
pub mod Spared
pub mod Rows
pub mod Damages
pub mod Ticks
pub mod Marking
