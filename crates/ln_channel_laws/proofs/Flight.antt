-- What is in flight between two ends, for one direction at a time: the peer's updates, signatures and revocations, each
-- as it is due, through every act and over lost connections.
pub mod Sides
pub mod Images
pub mod Walk
pub mod Reading
pub mod DueRows
pub mod WalkOverActs
pub mod WalkOverBreaks
pub mod SentAgain
