pub mod Laws
pub mod Joins
pub mod Answers
