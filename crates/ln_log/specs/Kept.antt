-- What a log keeps (its window), and which lists that is a window of: of the first updates of both sides (the base) it
-- has what they are worth and the HTLCs that are live there, and the updates after them one by one. Whole lists are
-- what every other definition speaks of.
use Rattle.std.specs.Prelude.{◌≡◌, ℕ, ◌+◌, ◌-◌, ◌*◌, ◌≤◌, List, ◌++◌, length, take, drop}
use Rattle.ln_history.specs.History.{History}
use Rattle.ln_keys.specs.declared.role.Role.{Role}
use Rattle.ln_log.specs.declared.opening.Opening.{Opening}
use Rattle.ln_log.specs.declared.log.Pair.{Pair}
use Rattle.ln_log.specs.declared.log.Pair.TheVariants as pair
use Rattle.ln_log.specs.declared.log.Side.{Side}
use Rattle.ln_log.specs.declared.log.Side.TheVariants as side
use Rattle.ln_log.specs.declared.standing.Standing.{Standing}
use Rattle.ln_log.specs.declared.record_form.Origin.{Origin}
use Rattle.ln_log.specs.declared.update.Update.{Update}
use Rattle.ln_log.specs.Opening.{HasFunds}
use Rattle.ln_log.specs.Limits.{most_updates}
use Rattle.ln_log.specs.Log.{Log, Counts, none, opened, AllCounts, AreWithin, IsKept}
use Rattle.ln_log.specs.Window.{Balances, live_htlcs, balances_of, IsClosed}
use Rattle.ln_log.specs.Explained.{led_own, led_peer}

pub record Kept : Type 0 where
  pub opening : Opening
  pub role : Role
  pub first : Counts  -- how many updates of either side are in the base
  pub live : Counts  -- how many HTLCs are live there: they stand first in the lists, as the updates that offered them
  pub balances : Balances  -- what the base is worth beside them
  pub own : List Update
  pub received : List Update
  pub signed : Counts
  pub acknowledged : Counts
  pub current : Counts
  pub own_standing : Standing
  pub own_signed : Standing
  pub peer_standing : Standing
  pub peer_current : Standing

-- ---- counts

-- how many updates of a side there are
abbrev pub kept_count : Side → Kept → ℕ
kept_count side.Own k = k.first.own + (length k.own - k.live.own)
kept_count side.Peer k = k.first.peer + (length k.received - k.live.peer)

-- the number of the first update that is had one by one
abbrev pub kept_first : Side → Kept → ℕ
kept_first side.Own k = k.first.own
kept_first side.Peer k = k.first.peer

-- how many updates of either side a pair covers
abbrev pub pair_counts : Pair → Kept → Counts
pair_counts (pair.Current side.Own) k = k.current
pair_counts (pair.Current side.Peer) k = k.acknowledged
pair_counts pair.Signed k = k.signed
pair_counts pair.ToSign k = record { own = kept_count side.Own k; peer = k.current.peer }
pair_counts pair.ToAccept k = record { own = k.acknowledged.own; peer = kept_count side.Peer k }

abbrev pub kept_counts : Kept → AllCounts
kept_counts k = record { first = k.first; signed = k.signed; acknowledged = k.acknowledged; current = k.current }

-- from the first update that is had one by one up to the last
pub record IsKeptInRange (kept : Kept) (c : Counts) : Type 0 where
  pub own_first : kept.first.own ≤ c.own
  pub own_last : c.own ≤ kept_count side.Own kept
  pub peer_first : kept.first.peer ≤ c.peer
  pub peer_last : c.peer ≤ kept_count side.Peer kept

-- the log that it was at the opening
abbrev pub kept_opening : Kept → Log
kept_opening k = opened k.opening k.role

-- what holds of every log by what it keeps alone, whatever lists it stands for: what isn't had one by one any more is
-- held as irrevocably committed, the counts lie within one another and within what there is, the live HTLCs of the base
-- within the lists, and no HTLC is of more than all funds
pub record IsKeptInOrder (kept : Kept) : Type 0 where
  pub funds : HasFunds kept.opening
  pub own_first : kept.first.own ≤ kept.current.own
  pub own_current : kept.current.own ≤ kept.acknowledged.own
  pub own_acknowledged : kept.acknowledged.own ≤ kept.signed.own
  pub own_signed : kept.signed.own ≤ kept_count side.Own kept
  pub own_last : kept_count side.Own kept ≤ most_updates
  pub own_live : kept.live.own ≤ length kept.own
  pub peer_first : kept.first.peer ≤ kept.acknowledged.peer
  pub peer_acknowledged : kept.acknowledged.peer ≤ kept.signed.peer
  pub peer_signed : kept.signed.peer ≤ kept.current.peer
  pub peer_current : kept.current.peer ≤ kept_count side.Peer kept
  pub peer_last : kept_count side.Peer kept ≤ most_updates
  pub peer_live : kept.live.peer ≤ length kept.received
  pub own_amounts : AreWithin (1000 * kept.opening.satoshis) kept.own
  pub peer_amounts : AreWithin (1000 * kept.opening.satoshis) kept.received

-- ---- lists

-- of lists that a log may stand for, the updates of the base
abbrev pub own_base : Kept → Log → List Update
own_base k l = take k.first.own l.own

abbrev pub peer_base : Kept → Log → List Update
peer_base k l = take k.first.peer l.received

-- of a side
abbrev pub base_of : Side → Kept → Log → List Update
base_of side.Own k l = own_base k l
base_of side.Peer k l = peer_base k l

-- the HTLCs of a side that are live in the base
abbrev pub live_base : Side → Kept → Log → List Update
live_base side.Own k l = live_htlcs (own_base k l) (peer_base k l)
live_base side.Peer k l = live_htlcs (peer_base k l) (own_base k l)

-- the live HTLCs of the base, and the updates after it up to so many
abbrev pub front_of : Side → Kept → Log → ℕ → List Update
front_of side.Own k l n = live_htlcs (own_base k l) (peer_base k l) ++ drop k.first.own (take n l.own)
front_of side.Peer k l n = live_htlcs (peer_base k l) (own_base k l) ++ drop k.first.peer (take n l.received)

-- What is kept is a window of these lists and counts: the base is what beginnings of the lists are worth, that can be
-- one and are held as irrevocably committed; the rest of the lists is there one by one; and each side stands as the
-- lists say.
pub record IsWindowOf (kept : Kept) (l : Log) : Type 0 where
  pub opening : kept.opening ≡ l.opening
  pub role : kept.role ≡ l.role
  pub own : kept.own ≡ live_htlcs (own_base kept l) (peer_base kept l) ++ drop kept.first.own l.own
  pub received : kept.received ≡ live_htlcs (peer_base kept l) (own_base kept l) ++ drop kept.first.peer l.received
  pub live_own : kept.live.own ≡ length (live_htlcs (own_base kept l) (peer_base kept l))
  pub live_peer : kept.live.peer ≡ length (live_htlcs (peer_base kept l) (own_base kept l))
  pub balances : kept.balances ≡ balances_of l.opening l.role (own_base kept l) (peer_base kept l)
  pub closed : IsClosed l.opening l.role (own_base kept l) (peer_base kept l)
  pub signed : kept.signed ≡ l.signed
  pub acknowledged : kept.acknowledged ≡ l.acknowledged
  pub current : kept.current ≡ l.current
  pub first_own : kept.first.own ≤ l.current.own
  pub first_peer : kept.first.peer ≤ l.acknowledged.peer
  pub whole : l.first ≡ none
  pub is_kept : IsKept l kept.own_standing kept.own_signed kept.peer_standing kept.peer_current

-- ---- the log

-- all updates of a side that aren't had one by one any more: those that a base leaves out with which the lists began,
-- and those that have left the window since
abbrev pub own_before : History Origin Update → List Update
own_before h = led_own h.start.opening h.start.role h.start.base.updates h.start.base.balances h.start.base.own.items
    h.start.base.peer.items ++ h.entries

abbrev pub peer_before : History Origin Update → List Update
peer_before h = led_peer h.start.opening h.start.role h.start.base.updates h.start.base.balances h.start.base.own.items
    h.start.base.peer.items ++ h.entries

-- the log of which this is kept, where these were the updates that aren't had one by one any more
abbrev pub whole : Kept → List Update → List Update → Log
whole k own peer = record {
  opening = k.opening;
  role = k.role;
  own = own ++ drop k.live.own k.own;
  received = peer ++ drop k.live.peer k.received;
  first = k.first;
  signed = k.signed;
  acknowledged = k.acknowledged;
  current = k.current;
}

-- what is kept is a window of all lists, those updates with it
pub record IsWhole (k : Kept) (own peer : List Update) : Type 0 where
  pub window : IsWindowOf k (record (whole k own peer) { first = none })
  pub own_count : length own ≡ k.first.own
  pub peer_count : length peer ≡ k.first.peer
