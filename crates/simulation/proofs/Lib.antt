pub mod Work
pub mod Parts
pub mod Ends
pub mod Laws
pub mod Compared
