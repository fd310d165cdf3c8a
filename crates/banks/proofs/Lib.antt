pub mod Alikes
