pub mod Merge
pub mod History
pub mod Position
pub mod Rule
pub mod Seats
pub mod WaitSeats
pub mod Memory
