-- The message of a channel that its host has, to fill what is blank in it or to send it.
use Rattle.std.specs.Prelude.{ℕ, List, Option, Some, None, slice_get}
use Rattle.ln_host_node.specs.declared.seat.Seat.{Seat}
use Rattle.ln_host_node.specs.declared.seat.Shown.{Shown}
use Rattle.ln_host_node.specs.declared.seat.Shown.TheVariants as shown

abbrev pub shown_in : Option Seat → Shown
shown_in None = shown.Nothing
shown_in (Some s) = s.shown

abbrev pub shown_at : ℕ → List Seat → Shown
shown_at channel seats = shown_in (slice_get seats channel)
