pub mod Image
pub mod Screen
