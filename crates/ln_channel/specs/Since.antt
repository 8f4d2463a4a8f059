-- What a side newly holds as irrevocably committed (BOLT 2, "Normal Operation").
use Rattle.std.specs.Prelude.{ℕ, List}
use Rattle.ln_log.specs.declared.update.Update.{Update}
use Rattle.ln_log.specs.Log.{Log, between}

-- a side's own updates that it holds, from this one on
abbrev pub own_since : ℕ → Log → List Update
own_since before l = between before l.current.own l.own

-- the peer's
abbrev pub peer_since : ℕ → Log → List Update
peer_since before l = between before l.acknowledged.peer l.received
