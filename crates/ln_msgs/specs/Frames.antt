pub mod Frame
pub mod Framer
