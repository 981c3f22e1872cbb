-- The laws that proofs of this crate cite.
pub mod Pieces
pub mod Back
pub mod Parts
