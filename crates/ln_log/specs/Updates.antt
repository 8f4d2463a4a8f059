-- Updates, and what becomes of an HTLC (BOLT 2, "Normal Operation"), over whole lists.
use Rattle.std.specs.Prelude.{ℕ, List, [], ◌∷◌, map, count_by, sum_by, Bool, true, false, ◌==◌, Option, Some, None}
use Rattle.std.specs.Prelude.{if◌then◌else◌}
use Rattle.ln_log.specs.declared.update.Add.{Add}
use Rattle.ln_log.specs.declared.update.Removal.{Removal}
use Rattle.ln_log.specs.declared.update.Update.{Update}
use Rattle.ln_log.specs.declared.update.Update.TheVariants as update
use Rattle.ln_log.specs.declared.outcome.Outcome.{Outcome}
use Rattle.ln_log.specs.declared.outcome.Outcome.TheVariants.{Live, Fulfilled, Failed}

-- BOLT 2, "Adding an HTLC": the HTLC that an update offers
abbrev pub offered : Update → Option Add
offered (update.Add a) = Some a
offered (update.Fulfil f) = None
offered (update.Fail f) = None
offered (update.Malformed m) = None
offered (update.Fee f) = None

-- BOLT 2, "Removing an HTLC": the HTLC that an update removes, and what becomes of it
abbrev pub removed : Update → Option Removal
removed (update.Add a) = None
removed (update.Fulfil f) = Some (record { id = f.id; outcome = Fulfilled })
removed (update.Fail f) = Some (record { id = f.id; outcome = Failed })
removed (update.Malformed m) = Some (record { id = m.id; outcome = Failed })
removed (update.Fee f) = None

-- an update as it is sent: where an add came from stays with its sender
abbrev pub as_sent : Update → Update
as_sent (update.Add a) = update.Add (record a { origin = None })
as_sent (update.Fulfil f) = update.Fulfil f
as_sent (update.Fail f) = update.Fail f
as_sent (update.Malformed m) = update.Malformed m
as_sent (update.Fee f) = update.Fee f

abbrev pub all_sent : List Update → List Update
all_sent us = map as_sent us

abbrev pub is_some : {A : Type 0} → Option A → Bool
is_some None = false
is_some (Some x) = true

abbrev pub is_add : Update → Bool
is_add u = is_some (offered u)

-- BOLT 2, "Adding an HTLC": ids begin at 0 and rise by one with each HTLC that the side offers
abbrev pub next_id : List Update → ℕ
next_id own = count_by is_add own

abbrev pub found_or : ℕ → Option Add → Option Add → Option Add
found_or id None rest = rest
found_or id (Some a) rest = if a.id == id then Some a else rest

-- the HTLC of this id among those that a side has offered
abbrev pub add_with : ℕ → List Update → Option Add
add_with id [] = None
add_with id (u ∷ us) = found_or id (offered u) (add_with id us)

abbrev pub outcome_by : ℕ → Option Removal → Outcome → Outcome
outcome_by id None rest = rest
outcome_by id (Some r) rest = if r.id == id then r.outcome else rest

-- BOLT 2, "Removing an HTLC": what the other side's updates make of the HTLC of this id, by the first of
-- them that removes it
abbrev pub outcome : ℕ → List Update → Outcome
outcome id [] = Live
outcome id (u ∷ us) = outcome_by id (removed u) (outcome id us)

abbrev pub is_live : Outcome → Bool
is_live Live = true
is_live Fulfilled = false
is_live Failed = false

abbrev pub is_fulfilled : Outcome → Bool
is_fulfilled Live = false
is_fulfilled Fulfilled = true
is_fulfilled Failed = false

abbrev pub is_failed : Outcome → Bool
is_failed Live = false
is_failed Fulfilled = false
is_failed Failed = true

abbrev pub is_any : Outcome → Bool
is_any o = true

abbrev pub share_of : (Outcome → Bool) → List Update → Option Add → ℕ
share_of test removals None = 0
share_of test removals (Some a) = if test (outcome a.id removals) then a.amount else 0

-- the amount of an add whose outcome passes the test
abbrev pub share : (Outcome → Bool) → List Update → Update → ℕ
share test removals u = share_of test removals (offered u)

-- the amounts of all adds whose outcome passes the test, by the other side's updates
abbrev pub total : (Outcome → Bool) → List Update → List Update → ℕ
total test adds removals = sum_by (share test removals) adds

abbrev pub rate_after : ℕ → Update → ℕ
rate_after rate (update.Add a) = rate
rate_after rate (update.Fulfil f) = rate
rate_after rate (update.Fail f) = rate
rate_after rate (update.Malformed m) = rate
rate_after rate (update.Fee f) = f.feerate

-- BOLT 2, "Updating Fees": the last feerate that the funder proposed, else that of the opening
abbrev pub last_feerate : ℕ → List Update → ℕ
last_feerate rate [] = rate
last_feerate rate (u ∷ us) = last_feerate (rate_after rate u) us
