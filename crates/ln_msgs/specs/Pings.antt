pub mod Answer
pub mod Answered
pub mod Served
pub mod Counted
pub mod CountedView
pub mod Outgoing
pub mod Written
