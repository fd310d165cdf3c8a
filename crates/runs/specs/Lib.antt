pub mod Lists
pub mod State
pub mod Calls
pub mod Runs
pub mod Safe
pub mod Laws
pub mod Sample
pub mod Equal
