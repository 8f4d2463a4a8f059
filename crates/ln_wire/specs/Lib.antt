pub mod Forms
pub mod Setup
pub mod Commands
pub mod Events
pub mod Questions
pub mod Items
pub mod Summary
pub use Rattle.ln_store.specs.Format
