pub mod Links
pub mod Leaves
pub mod Begins
pub mod Fills
pub mod Examines
pub mod Finishes
