-- Which commands an end of a node takes of its book alone: so the book knows what is offered for a payment, and by what
-- that is fulfilled or failed (BOLT 2, "Forwarding HTLCs").
use Rattle.std.specs.Prelude.{Bool, true, false, Some, None}
use Rattle.ln_channel.specs.declared.command.Command.{Command}
use Rattle.ln_channel.specs.declared.command.Command.TheVariants as command

-- each that removes an HTLC, and an add that says which HTLC it forwards
abbrev pub is_books : Command → Bool
is_books (command.Confirm id) = false
is_books (command.Add amount hash expiry onion None) = false
is_books (command.Add amount hash expiry onion (Some origin)) = true
is_books (command.Fulfil id preimage) = true
is_books (command.Fail id reason) = true
is_books (command.Malformed id sha code) = true
is_books (command.Fee feerate) = false
is_books command.Sign = false
is_books (command.Shutdown script) = false
is_books (command.Decide event mark) = false
is_books (command.Forget id) = false
is_books (command.Resume event mark) = false
