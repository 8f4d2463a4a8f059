-- Where closing has begun: nothing moves any more, each closing_signed is taken but for its fee, and closing ends.
pub mod NothingMoves
pub mod ClosingInFlight
pub mod ClosingTaken
pub mod ClosingEnds
