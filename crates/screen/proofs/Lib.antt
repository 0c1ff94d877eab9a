pub mod Images
pub mod Sures
pub mod Screens
