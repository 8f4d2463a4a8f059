mod Placed
pub mod Obeyed
pub mod Seated
mod Entered
