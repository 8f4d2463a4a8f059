pub mod Alike
pub mod Right
pub mod Filled
pub mod Known
pub mod Course
pub use Rattle.ln_host.specs.Keys
pub use Rattle.ln_host.specs.Question
pub use Rattle.ln_host.specs.Blank
