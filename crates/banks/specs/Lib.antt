pub mod Meaning
pub mod Firing
pub mod Pairing
pub mod Silence
pub mod Laws
