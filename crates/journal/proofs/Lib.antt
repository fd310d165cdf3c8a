pub mod Compared
pub mod Numbers
pub mod Search
pub mod Events
pub mod Law
