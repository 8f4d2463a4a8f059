-- What of an end goes into its record: its numbers and counts fit together, and all of it is as wide as in code.
pub mod RecordFits
pub mod RecordContents
pub mod CountsOverTurns
pub mod CountsOverRuns
pub mod WidthsOverDecisions
pub mod WidthsOverTurns
pub mod WidthsOverRuns
