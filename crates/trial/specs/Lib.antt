pub mod Stands
pub mod Tells
pub mod Lawful
pub mod Record
