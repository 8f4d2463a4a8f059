pub mod Renewing
pub mod Numbering
pub mod Readings
pub mod Loading
pub mod Sent
