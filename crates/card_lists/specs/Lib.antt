pub mod Lined
pub mod Ready
