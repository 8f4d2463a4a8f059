pub mod Htlc
pub mod Summary
