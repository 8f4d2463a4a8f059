pub use Rattle.ln_manager_channels.specs.Calls
pub mod Standing
pub mod Lives
