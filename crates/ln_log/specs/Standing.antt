-- How a standing moves, update by update. That it moves as the lists do is proved, and is what a log keeps.
use Rattle.std.specs.Prelude.{◌+◌, ◌-◌, ◌≤◌, ◌<◌, ◌^◌, List, [], ◌∷◌, Option, Some, None, if◌then◌else◌}
use Rattle.ln_log.specs.declared.standing.Standing.{Standing}
use Rattle.ln_log.specs.declared.update.Add.{Add}
use Rattle.ln_log.specs.declared.update.Removal.{Removal}
use Rattle.ln_log.specs.declared.update.Update.{Update}
use Rattle.ln_log.specs.declared.update.Update.TheVariants as update
use Rattle.ln_log.specs.declared.outcome.Outcome.{Outcome}
use Rattle.ln_log.specs.Updates.{removed, add_with, is_failed}

-- an add is live, and its amount is gone from the balance
abbrev pub with_add : Standing → Add → Standing
with_add s a = record {
  next_id = s.next_id + 1;
  live = s.live + 1;
  in_flight = s.in_flight + a.amount;
  balance = s.balance - a.amount;
}

-- the HTLC that a side fulfils pays it
abbrev pub paid_by : Standing → Option Add → Standing
paid_by s None = s
paid_by s (Some a) = record s { balance = s.balance + a.amount }

-- a side proposes an update
abbrev pub with_own : Standing → List Update → Update → Standing
with_own s seen (update.Add a) = with_add s a
with_own s seen (update.Fulfil f) = paid_by s (add_with f.id seen)
with_own s seen (update.Fail f) = s
with_own s seen (update.Malformed m) = s
with_own s seen (update.Fee f) = s

-- its HTLC is removed, and what failed comes back
abbrev pub without : Standing → Outcome → Option Add → Standing
without s how None = s
without s how (Some a) = record {
  next_id = s.next_id;
  live = s.live - 1;
  in_flight = s.in_flight - a.amount;
  balance = s.balance + (if is_failed how then a.amount else 0);
}

abbrev pub with_removal : Standing → List Update → Option Removal → Standing
with_removal s own None = s
with_removal s own (Some r) = without s r.outcome (add_with r.id own)

-- its commitment covers an update of the other side's
abbrev pub with_peer : Standing → List Update → Update → Standing
with_peer s own u = with_removal s own (removed u)

-- and several
abbrev pub with_all : Standing → List Update → List Update → Standing
with_all s own [] = s
with_all s own (u ∷ us) = with_all (with_peer s own u) own us

-- ---- no number passes its bounds

abbrev pub PaidFits : Standing → Option Add → Type 0
PaidFits s None = Unit {0}
PaidFits s (Some a) = s.balance + a.amount < 2 ^ 64

pub record AddFits (s : Standing) (a : Add) : Type 0 where
  pub next_id : s.next_id + 1 < 2 ^ 64
  pub live : s.live + 1 < 2 ^ 64
  pub in_flight : s.in_flight + a.amount < 2 ^ 64
  pub paid : a.amount ≤ s.balance

abbrev pub OwnFits : Standing → List Update → Update → Type 0
OwnFits s seen (update.Add a) = AddFits s a
OwnFits s seen (update.Fulfil f) = PaidFits s (add_with f.id seen)
OwnFits s seen (update.Fail f) = Unit {0}
OwnFits s seen (update.Malformed m) = Unit {0}
OwnFits s seen (update.Fee f) = Unit {0}

pub record WithoutFits (s : Standing) (how : Outcome) (a : Add) : Type 0 where
  pub live : 1 ≤ s.live
  pub in_flight : a.amount ≤ s.in_flight
  pub balance : s.balance + (if is_failed how then a.amount else 0) < 2 ^ 64

abbrev pub FoundFits : Standing → Outcome → Option Add → Type 0
FoundFits s how None = Unit {0}
FoundFits s how (Some a) = WithoutFits s how a

abbrev pub RemovalFits : Standing → List Update → Option Removal → Type 0
RemovalFits s own None = Unit {0}
RemovalFits s own (Some r) = FoundFits s r.outcome (add_with r.id own)

abbrev pub PeerFits : Standing → List Update → Update → Type 0
PeerFits s own u = RemovalFits s own (removed u)

abbrev pub AllFit : Standing → List Update → List Update → Type 0
AllFit s own [] = Unit {0}
AllFit s own (u ∷ us) = PeerFits s own u × AllFit (with_peer s own u) own us
