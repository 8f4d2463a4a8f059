-- The events of the moves: an end tells each, decides it once, and tells none after its close.
pub mod EventLists
pub mod Decisions
pub mod Undecided
pub mod EventsOverRuns
pub mod CloseIsLast
