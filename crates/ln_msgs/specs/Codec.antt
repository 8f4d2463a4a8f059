pub mod Field
pub mod Pieces
pub mod Checking
pub mod Writing
pub mod Steps
