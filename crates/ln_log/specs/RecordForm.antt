-- What the record of a channel tells of its updates where it has a base and the updates after it, and which of these
-- a log can be restored from. The updates are those that signatures cover (BOLT 2, "Message Retransmission").
use Rattle.std.specs.Prelude.{◌≡◌, ℕ, ◌+◌, ◌-◌, ◌*◌, ◌≤◌, ◌<◌, ◌^◌, List, [], ◌++◌, length, map, take, drop}
use Rattle.ln_keys.specs.declared.role.Role.{Role}
use Rattle.ln_log.specs.declared.opening.Opening.{Opening}
use Rattle.ln_log.specs.declared.loading.Coverage.{Coverage}
use Rattle.ln_log.specs.declared.standing.Standing.{Standing}
use Rattle.ln_log.specs.declared.record_form.BaseState.{BaseState}
use Rattle.ln_log.specs.declared.update.Add.{Add}
use Rattle.ln_log.specs.declared.update.Update.{Update}
use Rattle.ln_log.specs.declared.update.Update.TheVariants as update
use Rattle.ln_log.specs.Opening.{HasFunds}
use Rattle.ln_log.specs.Updates.{next_id, total, is_live}
use Rattle.ln_log.specs.View.{live_adds}
use Rattle.ln_log.specs.Limits.{most_updates}
use Rattle.ln_log.specs.Log.{Log, Counts, none, AreNumbered, AreRemovals, AreWithin}
use Rattle.ln_log.specs.Window.{Balances, balances_of, balance_behind, PaysBehind, BothPayBehind, HasBalances}
use Rattle.ln_log.specs.Kept.{Kept}
use Rattle.ln_log.specs.Explained.{MayBeLedTo, led_own, led_peer}

pub record RecordForm : Type 0 where
  pub opening : Opening
  pub role : Role
  pub first : Counts  -- how many updates are in the base
  pub balances : Balances
  pub own_live_htlcs : List Add  -- the HTLCs that are live there, by id
  pub peer_live_htlcs : List Add
  pub own : List Update  -- the updates after it
  pub received : List Update
  pub signed : Counts
  pub acknowledged : Counts
  pub current : Counts

-- by a base, the updates after it and what each commitment covers
abbrev pub record_form : Opening → Role → BaseState → List Update → List Update → Coverage → RecordForm
record_form o x b own received c = record {
  opening = o;
  role = x;
  first = b.updates;
  balances = b.balances;
  own_live_htlcs = b.own.items;
  peer_live_htlcs = b.peer.items;
  own = own;
  received = received;
  signed = c.signed;
  acknowledged = c.acknowledged;
  current = c.current;
}

-- a base with no updates
pub record IsAtOpening (o : Opening) (x : Role) (b : BaseState) : Type 0 where
  pub updates : b.updates ≡ none
  pub balances : b.balances ≡ balances_of o x [] []
  pub own : b.own.items ≡ []
  pub peer : b.peer.items ≡ []

-- HTLCs as the updates that offered them
abbrev pub as_offered : List Add → List Update
as_offered adds = map (λ a. update.Add a) adds

-- how a side stands after a base: by its next id and its balance there, the HTLCs of both sides that are live there,
-- and the updates after it
abbrev pub standing_after : ℕ → ℕ → List Update → List Update → List Update → List Update → Standing
standing_after next b live_htlcs own live_htlcs_peer peer = record {
  next_id = next + next_id own;
  live = length (live_adds (live_htlcs ++ own) peer);
  in_flight = total is_live (live_htlcs ++ own) peer;
  balance = balance_behind b live_htlcs own live_htlcs_peer peer;
}

abbrev pub standing_behind : ℕ → ℕ → List Add → List Update → List Add → List Update → Standing
standing_behind next b live_htlcs own live_htlcs_peer peer = standing_after next b (as_offered live_htlcs) own
    (as_offered live_htlcs_peer)
    peer

-- the side can pay, and its numbers are of 64 bits
pub record StandingFits (next b : ℕ) (live_htlcs own live_htlcs_peer peer : List Update) : Type 0 where
  pub next_id : next + next_id own < 2 ^ 64
  pub paid : PaysBehind b live_htlcs own live_htlcs_peer peer
  pub in_flight : total is_live (live_htlcs ++ own) peer < 2 ^ 64
  pub balance : balance_behind b live_htlcs own live_htlcs_peer peer < 2 ^ 64

abbrev pub own_told : RecordForm → Standing
own_told t = standing_behind t.balances.next_own t.balances.own t.own_live_htlcs t.own t.peer_live_htlcs t.received

-- the peer stands by what of the own updates it has acknowledged
abbrev pub peer_told : RecordForm → Standing
peer_told t = standing_behind t.balances.next_peer t.balances.peer t.peer_live_htlcs t.received t.own_live_htlcs
    (take (t.acknowledged.own - t.first.own) t.own)

-- what a log keeps that is restored from it
abbrev pub kept_of : RecordForm → Kept
kept_of t = record {
  opening = t.opening;
  role = t.role;
  first = t.first;
  live = record { own = length t.own_live_htlcs; peer = length t.peer_live_htlcs };
  balances = t.balances;
  own = as_offered t.own_live_htlcs ++ t.own;
  received = as_offered t.peer_live_htlcs ++ t.received;
  signed = t.signed;
  acknowledged = t.acknowledged;
  current = t.current;
  own_standing = own_told t;
  own_signed = own_told t;
  peer_standing = peer_told t;
  peer_current = peer_told t;
}

-- what a record tells of whole lists that signatures cover, with so many of the first updates in the base
abbrev pub record_form_of : Counts → Log → RecordForm
record_form_of n l = record {
  opening = l.opening;
  role = l.role;
  first = n;
  balances = balances_of l.opening l.role (take n.own l.own) (take n.peer l.received);
  own_live_htlcs = live_adds (take n.own l.own) (take n.peer l.received);
  peer_live_htlcs = live_adds (take n.peer l.received) (take n.own l.own);
  own = drop n.own l.own;
  received = drop n.peer l.received;
  signed = l.signed;
  acknowledged = l.acknowledged;
  current = l.current;
}

-- of the lists that it may stand for those that are written down
abbrev pub written : RecordForm → Log
written t = record {
  opening = t.opening;
  role = t.role;
  own = led_own t.opening t.role t.first t.balances t.own_live_htlcs t.peer_live_htlcs ++ t.own;
  received = led_peer t.opening t.role t.first t.balances t.own_live_htlcs t.peer_live_htlcs ++ t.received;
  first = none;
  signed = t.signed;
  acknowledged = t.acknowledged;
  current = t.current;
}

-- the first updates, so many, are held as irrevocably committed, the counts lie within one another, and the last
-- signatures of both sides cover all updates: after the first ones so many of either side
pub record AreCounted (first signed acknowledged current : Counts) (own peer : ℕ) : Type 0 where
  pub own_first : first.own ≤ current.own
  pub own_current : current.own ≤ acknowledged.own
  pub own_acknowledged : acknowledged.own ≤ signed.own
  pub own_signed : signed.own ≡ first.own + own
  pub own_last : signed.own ≤ most_updates
  pub peer_first : first.peer ≤ acknowledged.peer
  pub peer_acknowledged : acknowledged.peer ≤ signed.peer
  pub peer_signed : signed.peer ≤ current.peer
  pub peer_current : current.peer ≡ first.peer + peer
  pub peer_last : current.peer ≤ most_updates

abbrev pub CountsFit : RecordForm → Type 0
CountsFit t = AreCounted t.first t.signed t.acknowledged t.current (length t.own) (length t.received)

-- of two lists after a base in which these HTLCs are live, each removal names, once, one of these or one that is
-- offered after the base, and each side can pay out of what it has there
pub record AreLawfulBehind (w : Balances) (live_htlcs_own own live_htlcs_peer peer : List Update) : Type 0 where
  pub own_removals : AreRemovals (live_htlcs_peer ++ peer) [] own
  pub peer_removals : AreRemovals (live_htlcs_own ++ own) [] peer
  pub paid : BothPayBehind w live_htlcs_own own live_htlcs_peer peer

-- of what a base and the updates after it tell up to these counts
abbrev pub IsLawfulUpTo : BaseState → List Update → List Update → Counts → Type 0
IsLawfulUpTo b own received c = AreLawfulBehind b.balances (as_offered b.own.items) (take (c.own - b.updates.own) own)
    (as_offered b.peer.items) (take (c.peer - b.updates.peer) received)

abbrev pub IsLawfulBehind : RecordForm → Counts → Type 0
IsLawfulBehind t c = AreLawfulBehind t.balances (as_offered t.own_live_htlcs) (take (c.own - t.first.own) t.own)
    (as_offered t.peer_live_htlcs) (take (c.peer - t.first.peer) t.received)

-- the base is one that updates lead to, ids go on from it, and counts and amounts are as a channel can have them
pub record AreInPlace (t : RecordForm) : Type 0 where
  pub funds : HasFunds t.opening
  pub base : MayBeLedTo t.opening t.role t.first t.balances t.own_live_htlcs t.peer_live_htlcs
  pub counts : CountsFit t
  pub own_ids : AreNumbered t.balances.next_own t.own
  pub peer_ids : AreNumbered t.balances.next_peer t.received
  pub own_amounts : AreWithin (1000 * t.opening.satoshis) t.own
  pub peer_amounts : AreWithin (1000 * t.opening.satoshis) t.received

-- a log can be restored from it
pub record IsRestorable (t : RecordForm) : Type 0 where
  pub funds : HasFunds t.opening
  pub base : MayBeLedTo t.opening t.role t.first t.balances t.own_live_htlcs t.peer_live_htlcs
  pub counts : CountsFit t
  pub own_ids : AreNumbered t.balances.next_own t.own
  pub peer_ids : AreNumbered t.balances.next_peer t.received
  pub own_amounts : AreWithin (1000 * t.opening.satoshis) t.own
  pub peer_amounts : AreWithin (1000 * t.opening.satoshis) t.received
  pub signed : IsLawfulBehind t t.signed
  pub acknowledged : IsLawfulBehind t t.acknowledged
  pub current : IsLawfulBehind t t.current

-- up to these counts the updates are found to be worth something after the base
abbrev pub HasBalancesAt : RecordForm → Counts → Type 0
HasBalancesAt t c = HasBalances t.balances (as_offered t.own_live_htlcs ++ take (c.own - t.first.own) t.own)
    (take (c.own - t.first.own) t.own) (as_offered t.peer_live_htlcs ++ take (c.peer - t.first.peer) t.received)
    (take (c.peer - t.first.peer) t.received)
