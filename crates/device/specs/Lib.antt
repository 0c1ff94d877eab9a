pub mod Model
pub mod Answers
pub mod Effect
pub mod Plain
pub mod Failing
