-- ---- words
mod Places  -- what stands at a place of a list, and beside it
mod Numbered  -- the number of an id
mod Pending  -- which commands of a book are out after what was entered
mod Due  -- which command of it comes first
-- ---- one link
mod Answering  -- what a call leaves of it
mod Certain  -- by which refusals it answers a command
mod Seating  -- what is known of its seat then
-- ---- a manager that stands for links, numbers and a book
mod Kept  -- what is kept of it
mod Recording  -- what a call leaves in its records
mod Knowing  -- how its links are found by their ids
mod Steps  -- the steps by which it goes on
-- ---- a call
mod Hosting  -- of a user, a host or a connection
mod Losing  -- a lost connection, or a channel more
mod Messaging  -- a message
mod Hearing  -- what the book is told
mod Obeying  -- what it commands
mod Deciding  -- what a host decides
mod Listing  -- whichever it is
-- ---- lives
mod Reading  -- what a book reads off an end that was loaded
mod Lives  -- each moment
mod Loading  -- a load of what is saved
