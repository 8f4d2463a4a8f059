pub mod Answers
pub mod Holding
pub mod NodeHolding
pub mod NodeObject
pub mod Object
pub mod Owned
