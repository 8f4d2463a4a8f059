-- Which views a record may tell (BOLT 2, "Normal Operation"; BOLT 3, "Commitment Transaction Outputs"): in each of them
-- a removal stands with its HTLC, and no side has spent more than it had.
use Rattle.std.specs.Prelude.{ℕ, ◌+◌, ◌-◌, List, [], ◌∷◌, ◌++◌, take, Bool, true, ◌&&◌, nat_le, Option, Some, None}
use Rattle.std.specs.Prelude.{if◌then◌else◌}
use Rattle.std.specs.List.{list_all}
use Rattle.ln_keys.specs.declared.role.Role.{Role}
use Rattle.ln_keys.specs.Role.{other_role}
use Rattle.ln_log.specs.declared.update.Removal.{Removal}
use Rattle.ln_log.specs.declared.update.Update.{Update}
use Rattle.ln_log.specs.declared.update.Update.TheVariants as update
use Rattle.ln_log.specs.Updates.{removed, total, is_any, is_failed, is_fulfilled}
use Rattle.ln_store.specs.declared.record.Covered.{Covered}
use Rattle.ln_store.specs.declared.record.LiveHtlc.{LiveHtlc}
use Rattle.ln_store.specs.declared.record.Base.{Base}
use Rattle.ln_store.specs.declared.record.Updates.{Updates}
use Rattle.ln_store.specs.Sides.{count_of, window_of}
use Rattle.ln_store.specs.Removals.{are_one_side, is_there}

-- ---- one view

-- the live HTLCs of a side, as the updates that offered them
abbrev pub live_htlcs_of : Role → List LiveHtlc → List Update
live_htlcs_of side [] = []
live_htlcs_of side (h ∷ hs) =
    if are_one_side side h.offerer then update.Add h.add ∷ live_htlcs_of side hs else live_htlcs_of side hs

abbrev pub names_one : (ℕ → Bool) → Option Removal → Bool
names_one there None = true
names_one there (Some r) = there r.id

-- each of these that removes an HTLC removes one that is there
abbrev pub stand : (ℕ → Bool) → List Update → Bool
stand there us = list_all (λ u. names_one there (removed u)) us

-- a side can pay what it offers in a view by what it had in the base, what came back to it and what it was paid since
abbrev pub pays : ℕ → List Update → List Update → List Update → List Update → Bool
pays had live_htlcs_own own live_htlcs_peer peer = nat_le (total is_any own peer)
    (had + total is_failed (live_htlcs_own ++ own) peer + total is_fulfilled (live_htlcs_peer ++ peer) own)

-- what a side's updates of a view are, beside the other side's
abbrev pub is_side_lawful : Role → Base → List Update → List Update → Bool
is_side_lawful side b own peer = stand (is_there (other_role side) b.live peer) own
    && pays (count_of side b.balances) (live_htlcs_of side b.live) own (live_htlcs_of (other_role side) b.live) peer

-- ---- the views of a record

-- the updates of a side's window in a view that covers so many from the opening on
abbrev pub covered_of : Role → Updates → ℕ → List Update
covered_of side u n = take (n - count_of side u.base.updates) (window_of side u.window)

abbrev pub is_lawful : Role → Updates → Covered → Bool
is_lawful own u c =
    is_side_lawful own u.base (covered_of own u c.own) (covered_of (other_role own) u c.peer)
    && is_side_lawful (other_role own) u.base (covered_of (other_role own) u c.peer) (covered_of own u c.own)

-- the views of the commitment signed last, of the peer's and of the own one, that of the next signature and that of the
-- next one taken
abbrev pub views_fit : Role → Updates → Bool
views_fit own u =
    is_lawful own u u.pairs.signed && is_lawful own u u.pairs.acknowledged && is_lawful own u u.pairs.current
    && is_lawful own u (record { own = u.pairs.signed.own; peer = u.pairs.current.peer })
    && is_lawful own u (record { own = u.pairs.acknowledged.own; peer = u.pairs.current.peer })
