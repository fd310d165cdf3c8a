pub mod Order
pub mod Visits
pub mod Turns
pub mod Least
