pub mod Saves
pub mod Steps
pub mod Stores
