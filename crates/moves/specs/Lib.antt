pub mod Tied
pub mod Moves
pub mod Marking
pub mod Written
