pub mod Numbers
pub mod Kinds
pub mod States
pub mod Project
pub mod Holding
pub mod Laws
