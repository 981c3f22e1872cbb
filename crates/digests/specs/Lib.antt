-- What the contracts of this crate cite.
pub mod Stamps
pub mod Left
