pub mod Format
pub mod Sizes
pub mod Head
pub mod View
pub mod Entries
pub mod Identities
pub mod Owners
pub mod Laws
