pub mod Calls
pub mod Order
