pub mod Messages
pub mod Codec
pub mod Frames
pub mod Pings
