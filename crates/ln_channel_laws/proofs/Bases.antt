-- How far the base of an end moves as it is saved, and that it may.
pub mod BaseStands
pub mod HowFar
pub mod PaidAsItCame
pub mod LongestBase
