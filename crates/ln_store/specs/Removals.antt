-- Which removals a record may tell (BOLT 2, "Removing an HTLC"): each of an HTLC that is there, once.
use Rattle.std.specs.Prelude.{◌≡◌, ℕ, List, [], ◌∷◌, ◌++◌, Bool, true, false, not, ◌==◌, ◌&&◌, ◌||◌, Option, Some, None}
use Rattle.std.specs.List.{list_any}
use Rattle.std.specs.Ordering.{nat_cmp}
use Rattle.std.specs.BTreeSet.{BTreeSet, contains}
use Rattle.ln_keys.specs.declared.role.Role.{Role}
use Rattle.ln_keys.specs.declared.role.Role.TheVariants.{Funder, Fundee}
use Rattle.ln_log.specs.declared.update.Removal.{Removal}
use Rattle.ln_log.specs.declared.update.Update.{Update}
use Rattle.ln_log.specs.Updates.{removed, add_with, outcome, is_live, is_some}
use Rattle.ln_store.specs.declared.record.LiveHtlc.{LiveHtlc}

-- ---- the HTLCs that are there

abbrev pub are_one_side : Role → Role → Bool
are_one_side Funder Funder = true
are_one_side Funder Fundee = false
are_one_side Fundee Funder = false
are_one_side Fundee Fundee = true

abbrev pub is_htlc : Role → ℕ → LiveHtlc → Bool
is_htlc side id h = are_one_side side h.offerer && (h.add.id == id)

-- a side's HTLC of this id: one that its window adds, or a live one of the base
abbrev pub is_there : Role → List LiveHtlc → List Update → ℕ → Bool
is_there side live window id = is_some (add_with id window) || list_any (is_htlc side id) live

-- ---- their removals

-- an update removes nothing, or an HTLC that is there and that none before it removes
abbrev pub removes_there : (ℕ → Bool) → List Update → Option Removal → Bool
removes_there there before None = true
removes_there there before (Some r) = there r.id && is_live (outcome r.id before)

-- and so does each of these, after those before
abbrev pub are_removals : (ℕ → Bool) → List Update → List Update → Bool
are_removals there before [] = true
are_removals there before (u ∷ us) =
    removes_there there before (removed u) && are_removals there (before ++ u ∷ []) us

-- these are the ids of the HTLCs that the updates remove
abbrev pub AreRemoved : BTreeSet ℕ → List Update → Type 0
AreRemoved ids us = (id : ℕ) → contains nat_cmp ids id ≡ not (is_live (outcome id us))
