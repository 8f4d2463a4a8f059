pub mod Said
pub mod Sent
pub mod Heard
pub mod Few
pub mod Other
pub mod Failures
pub mod Kept
pub mod Turns
pub mod UpdateForms
pub mod ItemForms
pub mod SoundForms
pub mod ToldForms
pub mod Forms
pub mod Course
pub mod Loaded
pub mod Led
pub mod Toy
mod LiveHtlcs
mod Records
