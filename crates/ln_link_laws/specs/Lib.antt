pub mod Handed
pub mod Course
pub mod Records
pub use Rattle.ln_channel_laws.specs.Widths
pub use Rattle.ln_link.specs.Calls
pub use Rattle.ln_link.specs.Saving
