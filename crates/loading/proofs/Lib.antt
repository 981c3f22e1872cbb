pub mod Walked
pub mod Laws
pub mod Ends
