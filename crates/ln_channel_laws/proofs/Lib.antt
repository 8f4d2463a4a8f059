-- Crates above cite Offered.antt and no other proof: the folders are the crate's own.
pub mod Offered
mod All
mod Tests
mod Flight
mod Readiness
mod Closing
mod Fees
mod Ends
mod Machine
mod Events
mod Bases
mod Records
