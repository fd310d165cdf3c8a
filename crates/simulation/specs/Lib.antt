pub mod Calls
pub mod Journals
pub mod Laws
pub mod Performed
pub mod Compared
