-- As an end is saved, the base of its updates moves on: what it holds as irrevocably committed, and whose events are
-- decided, needn't be kept one by one any more (BOLT 2, "Normal Operation").
use Rattle.std.specs.Prelude.{ℕ, List, [], ◌∷◌, filter, Bool, nat_lt, Option, Some, None, if◌then◌else◌}
use Rattle.ln_log.specs.declared.update.Update.{Update}
use Rattle.ln_log.specs.declared.mark.Decision.{Decision}
use Rattle.ln_log.specs.declared.mark.EventRef.{EventRef}
use Rattle.ln_log.specs.declared.mark.EventRef.TheVariants as ref
use Rattle.ln_log.specs.Updates.{outcome, is_live}
use Rattle.ln_log.specs.Log.{Counts, between}
use Rattle.ln_log.specs.Window.{moved_base}
use Rattle.ln_dance.specs.Dance.{with_log}
use Rattle.ln_channel.specs.declared.machine.Stage.{Stage}
use Rattle.ln_channel.specs.declared.machine.Stage.TheVariants as stage
use Rattle.ln_channel.specs.Ledger.{Ledger}
use Rattle.ln_channel.specs.End.{End}
use Rattle.ln_channel.specs.State.{State}

-- ---- no undecided event is passed

-- the number of the own update that an event tells of
abbrev pub own_number : EventRef → Option ℕ
own_number (ref.Own n) = Some n
own_number (ref.Peer n) = None
own_number ref.Close = None

-- of the peer's
abbrev pub peer_number : EventRef → Option ℕ
peer_number (ref.Own n) = None
peer_number (ref.Peer n) = Some n
peer_number ref.Close = None

abbrev pub lesser : Option ℕ → ℕ → ℕ
lesser None n = n
lesser (Some m) n = if nat_lt m n then m else n

-- the least of a count and of the own updates that these events tell of. Where they stand in their order, that is the
-- first of them
abbrev pub least_own : ℕ → List EventRef → ℕ
least_own n [] = n
least_own n (r ∷ rs) = least_own (lesser (own_number r) n) rs

abbrev pub least_peer : ℕ → List EventRef → ℕ
least_peer n [] = n
least_peer n (r ∷ rs) = least_peer (lesser (peer_number r) n) rs

-- ---- how far the base may move: what the end holds as irrevocably committed, up to the first undecided event

abbrev pub allowed : End → Counts
allowed e = record {
  own = least_own e.dance.log.current.own e.ledger.undecided;
  peer = least_peer e.dance.log.acknowledged.peer e.ledger.undecided;
}

-- where the base stands then: moved so far, where it may
abbrev pub next_base : End → Counts
next_base e = moved_base (allowed e) e.dance.log

-- ---- what goes with it

-- the own updates that enter the base
abbrev pub entering : End → List Update
entering e = between e.dance.log.first.own (next_base e).own e.dance.log.own

-- these updates don't remove the HTLC of the peer's that a decision is about
abbrev pub is_open : List Update → Decision → Bool
is_open us d = is_live (outcome d.id us)

-- the decisions on HTLCs that these updates remove are left out
abbrev pub without_removed : List Update → Ledger → Ledger
without_removed us l = record l { decisions = filter (is_open us) l.decisions }

-- ---- as it is saved

abbrev pub based : End → End
based e = record e {
  dance = with_log (record e.dance.log { first = next_base e }) e.dance;
  ledger = without_removed (entering e) e.ledger;
}

-- once both have signed the opening
abbrev pub based_stage : Stage → Stage
based_stage (stage.Funded e) = stage.Funded (based e)
based_stage s = s

abbrev pub based_link : {K : Type 0} → State K → State K
based_link l = record l { stage = based_stage l.stage }
