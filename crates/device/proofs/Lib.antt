mod Plains
pub mod Effects
