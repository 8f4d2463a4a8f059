-- Which updates a record may tell: what the first ones came to, and those after them one by one.
use Rattle.std.specs.Prelude.{ℕ, ◌+◌, ◌*◌, ◌^◌, List, [], ◌∷◌, length, sum_by, Bool, true, ◌==◌, ◌&&◌, nat_le}
use Rattle.std.specs.Prelude.{Option, Some, None}
use Rattle.ln_keys.specs.declared.role.Role.{Role}
use Rattle.ln_keys.specs.declared.role.Role.TheVariants.{Funder, Fundee}
use Rattle.ln_keys.specs.Role.{other_role}
use Rattle.ln_log.specs.declared.update.Add.{Add}
use Rattle.ln_log.specs.declared.update.Update.{Update}
use Rattle.ln_log.specs.Updates.{offered}
use Rattle.ln_log.specs.Log.{number_after}
use Rattle.ln_store.specs.declared.record.LiveHtlc.{LiveHtlc}
use Rattle.ln_store.specs.declared.record.Base.{Base}
use Rattle.ln_store.specs.declared.record.Updates.{Updates}
use Rattle.ln_store.specs.Sides.{count_of, window_of}
use Rattle.ln_store.specs.Removals.{is_there, are_removals}
use Rattle.ln_store.specs.Views.{views_fit}

-- ---- the counts of the three pairs (BOLT 2, "Normal Operation")

-- no count is less than the one before it
abbrev pub rise : ℕ → ℕ → ℕ → ℕ → Bool
rise a b c d = nat_le a b && nat_le b c && nat_le c d

-- the own updates: those in the base, in the own commitment, in the peer's, and signed
abbrev pub own_counts_rise : Role → Updates → Bool
own_counts_rise own u =
    rise (count_of own u.base.updates) u.pairs.current.own u.pairs.acknowledged.own u.pairs.signed.own

-- the peer's: those in the base, in its own commitment, signed, and in this side's commitment
abbrev pub peer_counts_rise : Role → Updates → Bool
peer_counts_rise own u =
    rise (count_of (other_role own) u.base.updates) u.pairs.acknowledged.peer u.pairs.signed.peer u.pairs.current.peer

-- so many are a side's updates in the base and the window, and 2^62 at most
abbrev pub covers_all : Role → Updates → ℕ → Bool
covers_all side u n =
    (n == count_of side u.base.updates + length (window_of side u.window)) && nat_le n (2 ^ 62)

-- the counts rise, and the last ones are of all updates
abbrev pub counts_fit : Role → Updates → Bool
counts_fit own u =
    own_counts_rise own u && peer_counts_rise own u
    && covers_all own u u.pairs.signed.own && covers_all (other_role own) u u.pairs.current.peer

-- ---- ids (BOLT 2, "Adding an HTLC")

abbrev pub has_id : ℕ → Option Add → Bool
has_id n None = true
has_id n (Some a) = a.id == n

-- the HTLCs that these offer have the ids n, n + 1 and so on
abbrev pub are_numbered : ℕ → List Update → Bool
are_numbered n [] = true
are_numbered n (u ∷ us) = has_id n (offered u) && are_numbered (number_after n (offered u)) us

-- in the base a side offered no more HTLCs than it has updates there, and its ids go on in the window
abbrev pub ids_fit : Role → Updates → Bool
ids_fit side u =
    nat_le (count_of side u.base.next_ids) (count_of side u.base.updates)
    && are_numbered (count_of side u.base.next_ids) (window_of side u.window)

-- ---- removals (BOLT 2, "Removing an HTLC")

-- each removal of a side's window names an HTLC of the other side that is there, and no two name the same
abbrev pub removals_fit : Role → Updates → Bool
removals_fit side u =
    are_removals (is_there (other_role side) u.base.live (window_of (other_role side) u.window)) []
    (window_of side u.window)

-- ---- sums (BOLT 3, "Commitment Transaction Outputs")

abbrev pub live_amount : LiveHtlc → ℕ
live_amount h = h.add.amount

-- the balances and the live HTLCs of the base, in millisatoshi
abbrev pub funds_in : Base → ℕ
funds_in b = b.balances.funder + b.balances.fundee + sum_by live_amount b.live

-- ---- all conditions

-- the updates of a side with this role, in a channel of so many satoshi
abbrev pub updates_fit : Role → ℕ → Updates → Bool
updates_fit own satoshis u =
    counts_fit own u && ids_fit Funder u && ids_fit Fundee u && (funds_in u.base == 1000 * satoshis)
    && removals_fit Funder u && removals_fit Fundee u && views_fit own u
