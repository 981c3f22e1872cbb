pub mod Back
pub mod Removing
