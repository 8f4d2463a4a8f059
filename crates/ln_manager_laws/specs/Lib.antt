pub mod Calls
pub mod Manager
pub mod Steps
pub mod Runs
pub use Rattle.ln_payment_circuits.specs.Snapshot
