mod Maps
pub mod Asked
pub mod Formats
pub mod Laws
pub mod Loops
pub mod Removing
mod Appends
mod Records
