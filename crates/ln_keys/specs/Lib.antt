pub mod Role
pub mod Hash
pub mod Signer
pub mod Partners
pub mod Toy
pub mod Onion
pub mod Services
pub mod ToyOnion
