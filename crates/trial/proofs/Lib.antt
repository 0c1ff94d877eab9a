pub mod Telling
pub mod Living
