-- Two ends are the channel's abstract machine, and do what its moves allow.
pub mod OneMove
pub mod TurnMoves
pub mod RunMoves
pub mod DoneExactly
