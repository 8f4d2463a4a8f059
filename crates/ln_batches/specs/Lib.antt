pub mod Queues
pub mod Calls
