pub mod MessageText
pub mod Shown
