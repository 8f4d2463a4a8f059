-- What a `Counted` holds.
use Rattle.std.specs.Prelude.{ℕ}
use Rattle.ln_msgs.specs.declared.pings.counted.Counted.{Counted}

-- the reader or writer that it wraps
abbrev pub inner_of : {T : Type 0} → Counted T → T
inner_of c = c.inner

-- how many of its calls have failed
abbrev pub failures_of : {T : Type 0} → Counted T → ℕ
failures_of c = c.failures

-- how many calls were made
abbrev pub calls_of : {T : Type 0} → Counted T → ℕ
calls_of c = c.calls
