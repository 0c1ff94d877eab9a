pub mod Buffered
pub mod Steps
pub mod Inner
pub mod Laws
pub mod Card
