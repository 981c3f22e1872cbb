-- The laws that proofs of this crate and of those above cite.
pub mod Laws
pub mod Ends
