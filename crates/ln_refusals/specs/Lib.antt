pub mod Refusal
pub mod PeerRule
pub mod RefusalText
