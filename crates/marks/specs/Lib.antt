pub mod Marks
pub mod Laws
