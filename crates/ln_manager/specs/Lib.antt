pub mod Batches
pub mod Events
pub mod Leads
pub mod Managed
