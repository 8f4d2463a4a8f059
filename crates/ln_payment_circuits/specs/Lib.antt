pub mod Snapshot
pub mod Shift
pub mod Happens
pub mod Circuit
