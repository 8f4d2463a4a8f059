-- ---- words
pub mod Lists  -- what a test picks of a list that changes
pub mod Updates  -- what becomes of one HTLC, by the beginnings of two lists of updates
pub mod Rising  -- numbers that rise
-- ---- one end of a channel
pub mod Parts  -- what it has of a payment: the course of an own add, the removal of an HTLC that came in
pub mod Logs  -- what each change of its updates makes of those
pub mod Removals  -- each HTLC is removed once
pub mod Calls  -- each message and command is a shift
pub mod Waiting  -- what it has decided, and what waits to be
pub mod Results  -- what became of own HTLCs that forward others
pub mod Held  -- what it holds
pub mod Tidy  -- what holds of its ledger, whatever it takes
pub mod Naming  -- which HTLCs its adds say that they forward
pub mod Fitting  -- it stays fit, whatever its peer sends
pub mod Preimages  -- fulfilments that it proposes carry their preimages
pub mod Heard  -- what it tells of is so
-- ---- all ends of a node
pub mod Links  -- what they have of a payment, and what updates make of that
pub mod Losses  -- what lost connections, halts and a restart make of it
pub mod Ledgers  -- what decisions, forgotten results and a moved base make of it
pub mod Shifts  -- what a shift makes of it
pub mod Examples
-- ---- the book
pub mod Entries  -- what it has of a payment, and what each entry makes of that
pub mod Removing  -- which command of it removes an HTLC, and which update that is
pub mod Due  -- what it asks for is what the machine asks for
pub mod Marking  -- what is decided of an HTLC that a peer offers is something
pub mod Offering  -- and the event that waits first tells of it
pub mod Kept  -- what an end answers of the removals that it has kept
pub mod Told  -- what it tells the book once its connection is lost
-- ---- the book as it is read off the ends
pub mod Legs  -- off one end, of an HTLC that goes out
pub mod OutgoingLegs  -- where an HTLC goes out, over all ends
pub mod IncomingLegs  -- off the end by which it came in
pub mod Rebuilt  -- of one HTLC
pub mod AllEnds  -- over all ends
pub mod Withheld  -- what was removed while it was held goes nowhere
pub mod Reading  -- it came in by a channel, and no event tells of it
-- ---- links and book together
pub mod Holding  -- a payment that the book holds is held by its link
pub mod Scenes  -- what a book's commands, lost connections, restarts and what it hears leave of a payment
pub mod Answers  -- what decisions, forgotten results and refusals do
pub mod Resumed  -- what is resumed
pub mod Agrees  -- book and ledgers hold an HTLC by the same number
pub mod Halts  -- a link that halts
pub mod Past  -- what went out of it: its end has that add, or none of that id yet
-- ---- a node from moment to moment
pub mod Moments  -- as its payments see it
pub mod Alike  -- where a payment's parts are the same; a channel opens
pub mod Proposed  -- what a channel proposes where it does what a book asks
pub mod Promise  -- one payment out, where payments are the machine's
pub mod Law  -- they are, whatever happens
pub mod Covering  -- what is covered stays covered
