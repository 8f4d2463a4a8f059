-- ---- one link
pub mod Turns  -- what a call makes of its end, and of the id that it has agreed on
pub mod Seats  -- what holds of it over every list of calls
-- ---- a manager
pub mod Apart  -- no two of its links have one id
pub mod Snapshots  -- what a change of one link makes of the circuits of its payments
pub mod Hosted  -- what a call for a peer or a user leaves of a link
pub mod Orderly  -- what is kept of it
pub mod Calling  -- what peers, users and hosts make of it
pub mod Losing  -- what lost connections, halts, new channels and settings do
pub mod Hearing  -- what its book is told
pub mod Answering  -- what a link answers to a command, and what the book makes of that
pub mod Obeying  -- what commands about HTLCs do
pub mod Deciding  -- what decisions do
pub mod Resuming  -- and of what is held
pub mod Stepping  -- whatever step it takes
pub mod Loading  -- what is loaded of its records
pub mod Running  -- every list of steps, batches and loads
