-- One link, whether it is saved or not: one end of a channel from its opening to its close, with the connection that it
-- has (BOLT 2).
use Rattle.std.specs.Prelude.{◌≡◌, ℕ, List, Bool, true, false, Option, Some, None, if◌then◌else◌}
use Rattle.ln_refusals.specs.declared.refusal.Refusal.{Refusal}
use Rattle.ln_dance.specs.declared.dance.Numbers.{Numbers}
use Rattle.ln_channel.specs.declared.machine.ConnectionState.{ConnectionState}
use Rattle.ln_channel.specs.declared.machine.ConnectionState.TheVariants as connection
use Rattle.ln_channel.specs.declared.machine.Stage.{Stage}
use Rattle.ln_channel.specs.declared.machine.Stage.TheVariants as stage
use Rattle.ln_channel.specs.Failing.{fails}
use Rattle.ln_channel.specs.End.{end_dropped}

pub record State (K : Type 0) : Type 0 where
  pub keys : K
  pub connection : ConnectionState
  pub halted : Bool
  pub failure : Option Refusal
  pub stage : Stage

-- what is kept stands for this stage: today it has its end whole
abbrev pub StageStands : Stage → Stage → Type 0
StageStands kept s = kept ≡ s

-- what is kept stands for this link: today it has all of it whole
abbrev pub StandsFor : {K : Type 0} → State K → State K → Type 0
StandsFor kept l = kept ≡ l

-- ---- how a link begins: it has no connection yet

abbrev pub begun : {K : Type 0} → K → Stage → State K
begun keys s = record { keys = keys; connection = connection.Down; halted = false; failure = None; stage = s }

-- ---- where it stands

abbrev pub is_down : ConnectionState → Bool
is_down connection.Down = true
is_down connection.AwaitingReestablish = false
is_down connection.Connected = false

abbrev pub is_connected : ConnectionState → Bool
is_connected connection.Down = false
is_connected connection.AwaitingReestablish = false
is_connected connection.Connected = true

-- the opening is signed by both, and kept
abbrev pub is_saved : Stage → Bool
is_saved (stage.Funded e) = true
is_saved s = false

-- the channel of an end that is kept
abbrev pub kept_channel : Stage → Option (List ℕ)
kept_channel (stage.Funded e) = Some e.dance.channel
kept_channel s = None

-- where there was such an end, there still is one, of the same channel
abbrev pub KeepsChannel : Stage → Stage → Type 0
KeepsChannel s s' = (channel : List ℕ) → kept_channel s ≡ Some channel → kept_channel s' ≡ Some channel

-- ---- a channel that fails

-- an opening that isn't signed is gone
abbrev pub lost : Stage → Stage
lost s = if is_saved s then s else stage.Gone

-- the refusal is kept, and answered from then on
abbrev pub failed : {K : Type 0} → Refusal → State K → State K
failed r l = record l { failure = Some r; stage = lost l.stage }

-- a link that had halted or failed before stays as it is
abbrev pub fails_by : {K : Type 0} → Refusal → State K → State K
fails_by r l = if fails r then failed r l else l

abbrev pub unless_failed : {K : Type 0} → Option Refusal → State K → State K → State K
unless_failed None l fresh = fresh
unless_failed (Some r) l fresh = l

abbrev pub refused : {K : Type 0} → Refusal → State K → State K
refused r l = if l.halted then l else unless_failed l.failure l (fails_by r l)

-- ---- a connection that is lost (BOLT 2, "Message Retransmission")

-- updates that no signature covers are gone, and so is an opening that isn't signed by both
abbrev pub cut : Stage → Stage
cut (stage.Funded e) = stage.Funded (end_dropped e)
cut s = stage.Gone

abbrev pub drops : {K : Type 0} → State K → State K
drops l = if is_down l.connection then l else record l { connection = connection.Down; stage = cut l.stage }

-- it answers nothing any more
abbrev pub halts : {K : Type 0} → State K → State K
halts l = record (drops l) { halted = true }

-- a connection that was there still is
abbrev pub StaysUp : ConnectionState → ConnectionState → Type 0
StaysUp l new = is_down l ≡ false → is_down new ≡ false

-- what of a link stays until its connection is lost, whatever becomes of its end
pub record IsSameLink {K : Type 0} (l new : State K) : Type 0 where
  pub keys : new.keys ≡ l.keys
  pub failure : new.failure ≡ l.failure
  pub connection : StaysUp l.connection new.connection

-- what want of memory leaves: the link halts, wherever it was with what it was to do
pub record IsHalted {K : Type 0} (l new : State K) : Type 0 where
  pub reached : State K
  pub same : IsSameLink l reached
  pub halts : (m : State K) → StandsFor reached m → StandsFor new (halts m)
  pub halted : new.halted ≡ true

-- ---- what is told of it

-- the numbers of an end's commitments; none before an opening is agreed to
abbrev pub no_numbers : Numbers
no_numbers = record { commitment = 0; signed = 0; revoked = 0 }

abbrev pub numbers_of : Stage → Numbers
numbers_of (stage.AwaitsSigned e) = e.dance.numbers
numbers_of (stage.Funded e) = e.dance.numbers
numbers_of s = no_numbers
