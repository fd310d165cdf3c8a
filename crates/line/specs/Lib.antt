pub mod Lists
pub mod Plan
pub mod Paths
pub mod Rules
pub mod Times
pub mod Names
pub mod Numbers
