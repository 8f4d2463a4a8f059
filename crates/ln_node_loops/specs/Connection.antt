-- What is written to a connection.
use Rattle.std.specs.Prelude.{◌≡◌, ℕ, List, Option, Result, Ok, Err, Bool, true, false}
use Rattle.std.specs.Io.KnownBytes.{Appends}
use Rattle.ln_msgs.specs.declared.pings.counted.Counted.{Counted}
use Rattle.ln_refusals.specs.declared.refusal.Refusal.{Refusal}
use Rattle.ln_refusals.specs.declared.refusal.Refusal.TheVariants as refusal
use Rattle.ln_msgs.specs.Pings.Counted.{HasRisen}
use Rattle.ln_msgs.specs.Pings.CountedView.{inner_of, failures_of}
use Rattle.ln_msgs.specs.Pings.Written.{IsPartlyWritten}

-- the bytes that the writer of a connection holds, where they are known, and how many of its calls have failed
pub record Connection : Type 0 where
  pub bytes : Option (List ℕ)
  pub failed : ℕ

abbrev pub connection_of : {W : Type 0} → (W → Option (List ℕ)) → Counted W → Connection
connection_of contents writer = record { bytes = contents (inner_of writer); failed = failures_of writer }

-- the latest connection of a worker: there was none yet, it is open, or it was closed
pub data Latest : Type 0 where
  NoneYet : Latest
  Open : Connection → Latest
  Closed : Latest

abbrev pub is_open : Latest → Bool
is_open NoneYet = false
is_open (Open l) = true
is_open Closed = false

-- one that is open is closed
abbrev pub closed : Latest → Latest
closed NoneYet = NoneYet
closed (Open l) = Closed
closed Closed = Closed

-- all of these bytes were written; where none is open nothing is, and it stays so
abbrev pub Wrote : Latest → Latest → List ℕ → Type 0
Wrote NoneYet after bytes = after ≡ NoneYet
Wrote (Open l) NoneYet bytes = ⊥
Wrote (Open l) (Open l') bytes = Appends l.bytes l'.bytes bytes
Wrote (Open l) Closed bytes = ⊥
Wrote Closed after bytes = after ≡ Closed

-- a call of the writer failed, and a prefix of these bytes was written
abbrev pub Broke : Latest → Latest → List ℕ → Type 0
Broke NoneYet after bytes = ⊥
Broke (Open l) NoneYet bytes = ⊥
Broke (Open l) (Open l') bytes = HasRisen l.failed l'.failed × IsPartlyWritten l.bytes l'.bytes bytes
Broke (Open l) Closed bytes = ⊥
Broke Closed after bytes = ⊥

-- bytes that are handed to a connection: the only error is 63
abbrev pub Delivers : List ℕ → Result (Unit {0}) Refusal → Latest → Latest → Type 0
Delivers bytes (Ok u) before after = Wrote before after bytes
Delivers bytes (Err r) before after = (r ≡ refusal.Io) × Broke before after bytes
