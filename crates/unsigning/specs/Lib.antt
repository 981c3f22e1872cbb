pub mod Unsigning
