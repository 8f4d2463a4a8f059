pub mod Filling
pub mod Turns
pub mod Stages
pub mod Links
pub mod Unasked
pub mod Courses
pub mod Saved
pub mod Known
