pub mod Lists
pub mod Damage
pub mod Ticks
pub mod Marks
