mod Changed
pub mod Leading
