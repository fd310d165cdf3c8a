pub mod Reading
pub mod Signs
pub mod Splitting
pub mod Telling
