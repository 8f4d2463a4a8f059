pub mod Firsts
pub mod Each
pub mod Passing
pub mod Keyed
pub mod Named
pub mod InSlots
pub mod Filled
pub mod Told
