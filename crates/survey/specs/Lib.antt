pub mod Known
pub mod Survey
