pub mod Filling
pub mod Cells
pub mod Numbers
