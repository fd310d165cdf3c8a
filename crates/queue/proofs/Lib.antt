pub mod Place
pub mod Order
