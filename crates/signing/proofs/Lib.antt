-- The laws that proofs of this crate cite.
pub mod Counts
pub mod Refusals
pub mod Ends
pub mod Later
