-- The laws that proofs of this crate cite.
pub mod Laws
pub mod DataLaws
pub mod Walking
pub mod Verdicts
