-- What the contracts of this crate cite.
pub mod Walk
pub mod Loads
