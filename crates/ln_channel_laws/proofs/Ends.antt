-- Both ends as a whole: what each act, each turn, each lost connection and so each list of steps keeps, and what it
-- promises.
pub mod Acts
pub mod Turns
pub mod Breaks
pub mod Cuts
pub mod JustOpened
pub mod Runs
pub mod StoppedActs
pub mod OnceMet
pub mod Promised
pub mod Numbers
pub mod LostData
pub mod Signatures
