pub mod Numbers
pub mod Cells
pub mod Parsing
pub mod Back
pub mod Again
