-- What the contracts of this crate and of those above cite.
pub mod Bare
pub mod Numbers
pub mod Words
