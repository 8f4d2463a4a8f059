-- What becomes of many HTLCs.
use Rattle.std.specs.Prelude.{◌≡◌, ℕ, Bool, not, List, count_by, Option, Some, None, if◌then◌else◌}
use Rattle.std.specs.Ordering.{nat_cmp}
use Rattle.std.specs.BTreeMap.{BTreeMap, get}
use Rattle.std.specs.BTreeSet.{BTreeSet, contains}
use Rattle.ln_log.specs.declared.removal_check.OfferedHtlcs.{OfferedHtlcs}
use Rattle.ln_log.specs.declared.update.Update.{Update}
use Rattle.ln_log.specs.declared.outcome.Outcome.{Outcome}
use Rattle.ln_log.specs.Updates.{removed, is_some, is_live, add_with, outcome}

abbrev pub is_removal : Update → Bool
is_removal u = is_some (removed u)

-- how many HTLCs a list removes
abbrev pub removals_in : List Update → ℕ
removals_in us = count_by is_removal us

-- as what becomes of an HTLC is noted: not at all, where it is live
abbrev pub noted_as : Outcome → Option Outcome
noted_as o = if is_live o then None else Some o

-- of each HTLC it is noted what these updates make of it
abbrev pub Tells : BTreeMap ℕ Outcome → List Update → Type 0
Tells noted us = (id : ℕ) → get nat_cmp noted id ≡ noted_as (outcome id us)

-- these are the ids of the HTLCs that the updates remove
abbrev pub AreRemoved : BTreeSet ℕ → List Update → Type 0
AreRemoved ids us = (id : ℕ) → contains nat_cmp ids id ≡ not (is_live (outcome id us))

-- what is told of the HTLC of an id, if one was offered
abbrev pub fate : OfferedHtlcs → ℕ → Option Outcome
fate f id = get nat_cmp f.by_id id

-- of the HTLCs that a list offers, what these updates make of each
abbrev pub fate_of : ℕ → List Update → List Update → Option Outcome
fate_of id adds us = if is_some (add_with id adds) then Some (outcome id us) else None

-- that is told of all of them, and nothing of others
abbrev pub TellsAll : OfferedHtlcs → List Update → List Update → Type 0
TellsAll f adds us = (id : ℕ) → fate f id ≡ fate_of id adds us
