pub mod Prefix
pub mod Shifts
pub mod Laws
pub mod Kept
