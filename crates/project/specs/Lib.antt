pub mod Tables
pub mod Waits
pub mod Flawed
pub mod Lines
pub mod Project
pub mod Fresh
pub mod Lookups
pub mod RecordsLemmas
