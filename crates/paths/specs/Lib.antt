pub mod Laws
pub mod Paths
pub mod Spans
pub mod Least
pub mod SpansLemmas
