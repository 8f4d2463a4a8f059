pub mod Same
pub mod Reading
pub mod Numbers
pub mod Records
pub mod Streams
pub mod Zeros
pub mod Checks
pub mod ShortIds
