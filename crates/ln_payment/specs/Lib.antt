pub mod Parts
pub mod Rebuild
pub mod Moves
pub mod Promises
pub mod Recovery
