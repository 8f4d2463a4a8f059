pub mod Joined
pub mod Packets
pub mod Opening
pub mod ToyPartners
