-- What is done about an event.
use Rattle.std.specs.Prelude.{ℕ, Bool, true, false, ◌==◌}
use Rattle.ln_log.specs.declared.mark.Mark.{Mark}
use Rattle.ln_log.specs.declared.mark.Mark.TheVariants as mark

-- an HTLC is held
abbrev pub is_held : Mark → Bool
is_held (mark.Held n) = true
is_held m = false

-- it is held, and the event of this number told of it
abbrev pub is_held_by : ℕ → Mark → Bool
is_held_by event (mark.Held n) = event == n
is_held_by event m = false
