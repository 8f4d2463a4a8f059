mod Maps
pub mod Texts
pub mod Keeping
pub mod Queries
pub mod Reading
pub mod Shown
pub mod Meaning
pub mod Within
pub mod Beginning
pub mod Passing
pub mod Sent
