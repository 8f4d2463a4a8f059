-- What the beginnings of two lists leave after: what they are worth, and their HTLCs that are still live. With the
-- rest of the lists this is all that the whole lists say.
use Rattle.std.specs.Prelude.{◌≡◌, ℕ, ◌+◌, ◌-◌, ◌≤◌, ◌<◌, ◌^◌, List, ◌++◌, map, take, Bool, true, ◌&&◌}
use Rattle.std.specs.Prelude.{nat_lt, nat_le, Option, Some, None, if◌then◌else◌}
use Rattle.std.specs.List.{list_all}
use Rattle.ln_keys.specs.declared.role.Role.{Role}
use Rattle.ln_keys.specs.declared.role.Role.TheVariants.{Funder, Fundee}
use Rattle.ln_keys.specs.Role.{other_role}
use Rattle.ln_log.specs.declared.opening.Opening.{Opening}
use Rattle.ln_log.specs.declared.log.Side.{Side}
use Rattle.ln_log.specs.declared.log.Side.TheVariants as side
use Rattle.ln_log.specs.declared.outcome.Outcome.TheVariants.{Live}
use Rattle.ln_log.specs.declared.update.Removal.{Removal}
use Rattle.ln_log.specs.declared.update.Update.{Update}
use Rattle.ln_log.specs.declared.balances.Balances as declared
use Rattle.ln_log.specs.declared.balances.RoleBalances.{RoleBalances}
use Rattle.ln_log.specs.declared.update.Update.TheVariants as update
use Rattle.ln_log.specs.Opening.{first_balance}
use Rattle.ln_log.specs.Updates.{next_id, removed, outcome, total, is_any, is_failed, is_fulfilled, last_feerate}
use Rattle.ln_log.specs.View.{balance, live_adds, htlc_of}
use Rattle.ln_keys.specs.declared.view.View.{View}
use Rattle.ln_log.specs.Log.{Log, Counts, before_first, AreNumbered, BothPay}

-- the HTLCs of one side that the other hasn't removed, as the updates that offered them
abbrev pub live_htlcs : List Update → List Update → List Update
live_htlcs own peer = map (λ a. update.Add a) (live_adds own peer)

-- the feerate, which the funder's updates tell
abbrev pub feerate_of : ℕ → Role → List Update → List Update → ℕ
feerate_of rate Funder own peer = last_feerate rate own
feerate_of rate Fundee own peer = last_feerate rate peer

-- what two lists are worth beside their live HTLCs
abbrev pub Balances : Type 0
Balances = declared.Balances

abbrev pub balances_of : Opening → Role → List Update → List Update → Balances
balances_of o x own peer = record {
  next_own = next_id own;
  next_peer = next_id peer;
  own = balance (first_balance o x) own peer;
  peer = balance (first_balance o (other_role x)) peer own;
  feerate = feerate_of o.feerate x own peer;
}

-- a balance after one: HTLCs that were live then and those that were offered since come back or are paid out by what
-- was proposed since, and what was offered since is gone
abbrev pub balance_behind : ℕ → List Update → List Update → List Update → List Update → ℕ
balance_behind b live_htlcs_own own live_htlcs_peer peer = b + total is_failed (live_htlcs_own ++ own) peer
    + total is_fulfilled (live_htlcs_peer ++ peer) own - total is_any own peer

-- what a base is worth with the updates after it, where these HTLCs are live in it
abbrev pub balances_behind : Role → Balances → List Update → List Update → List Update → List Update → Balances
balances_behind x b live_htlcs_own own live_htlcs_peer peer = record {
  next_own = b.next_own + next_id own;
  next_peer = b.next_peer + next_id peer;
  own = balance_behind b.own live_htlcs_own own live_htlcs_peer peer;
  peer = balance_behind b.peer live_htlcs_peer peer live_htlcs_own own;
  feerate = feerate_of b.feerate x own peer;
}

-- a side can pay out of a balance what was offered since
abbrev pub PaysBehind : ℕ → List Update → List Update → List Update → List Update → Type 0
PaysBehind b live_htlcs_own own live_htlcs_peer peer = total is_any own peer
    ≤ b + total is_failed (live_htlcs_own ++ own) peer + total is_fulfilled (live_htlcs_peer ++ peer) own

abbrev pub BothPayBehind : Balances → List Update → List Update → List Update → List Update → Type 0
BothPayBehind b live_htlcs_own own live_htlcs_peer peer = PaysBehind b.own live_htlcs_own own live_htlcs_peer peer
    × PaysBehind b.peer live_htlcs_peer peer live_htlcs_own own

-- beginnings of both lists that can be a base: neither removes an HTLC that the other doesn't offer, and neither side
-- has spent more than it had
pub record IsClosed (o : Opening) (x : Role) (own peer : List Update) : Type 0 where
  pub own_new : (id : ℕ) → next_id own ≤ id → outcome id peer ≡ Live
  pub peer_new : (id : ℕ) → next_id peer ≤ id → outcome id own ≡ Live
  pub paid : BothPay o x (record { own = own; peer = peer })

-- so many updates of both sides can be in the base of a log: no fewer than there are, none that doesn't stand in each
-- commitment, and together beginnings that can be a base
pub record MayBeBase (l : Log) (to : Counts) : Type 0 where
  pub own_first : l.first.own ≤ to.own
  pub own_current : to.own ≤ l.current.own
  pub peer_first : l.first.peer ≤ to.peer
  pub peer_acknowledged : to.peer ≤ l.acknowledged.peer
  pub closed : IsClosed l.opening l.role (take to.own l.own) (take to.peer l.received)

-- ---- the same as a test, which `UpdateLog::advance` proves exact

-- an update that removes an HTLC removes one below this id
abbrev pub is_below : ℕ → Option Removal → Bool
is_below next None = true
is_below next (Some r) = nat_lt r.id next

abbrev pub remove_below : ℕ → List Update → Bool
remove_below next us = list_all (λ u. is_below next (removed u)) us

-- the side that offered own hasn't spent more than it had
abbrev pub pays : ℕ → List Update → List Update → Bool
pays first own peer =
    nat_le (total is_any own peer) (first + total is_failed own peer + total is_fulfilled peer own)

abbrev pub are_closed : Opening → Role → List Update → List Update → Bool
are_closed o x own peer =
    remove_below (next_id own) peer
    && (remove_below (next_id peer) own
    && (pays (first_balance o x) own peer && pays (first_balance o (other_role x)) peer own))

abbrev pub may_be_base : Log → Counts → Bool
may_be_base l to =
    nat_le l.first.own to.own
    && (nat_le to.own l.current.own
    && (nat_le l.first.peer to.peer
    && (nat_le to.peer l.acknowledged.peer
    && are_closed l.opening l.role (take to.own l.own) (take to.peer l.received))))

-- the base moves on to these counts, where it may
abbrev pub moved_base : Counts → Log → Counts
moved_base to l = if may_be_base l to then to else l.first

abbrev pub after_advance : Counts → Log → Log
after_advance to l = record l { first = moved_base to l }

-- ---- after a base
-- of the updates of a log that aren't had one by one any more, what they are worth, and the HTLCs of a side that are
-- live after them
abbrev pub first_balances : Log → Balances
first_balances l = balances_of l.opening l.role (before_first side.Own l) (before_first side.Peer l)

abbrev pub first_live_htlcs : Side → Log → List Update
first_live_htlcs side.Own l = live_htlcs (before_first side.Own l) (before_first side.Peer l)
first_live_htlcs side.Peer l = live_htlcs (before_first side.Peer l) (before_first side.Own l)

-- the rest of two lists after such beginnings: its ids go on where theirs end
pub record GoesOn (o : Opening) (x : Role) (own_base own peer_base peer : List Update) : Type 0 where
  pub base : IsClosed o x own_base peer_base
  pub own_ids : AreNumbered (next_id own_base) own
  pub peer_ids : AreNumbered (next_id peer_base) peer

-- ---- a view after a base: of each list all that is kept, the HTLCs that are live in the base before the updates
-- after it, and these updates alone

abbrev pub got_behind : ℕ → List Update → List Update → List Update → List Update → ℕ
got_behind b all new peer_all peer_new = b + total is_failed all peer_new + total is_fulfilled peer_all new

abbrev pub left_behind : ℕ → List Update → List Update → List Update → List Update → ℕ
left_behind b all new peer_all peer_new = got_behind b all new peer_all peer_new - total is_any new peer_new

abbrev pub view_behind : RoleBalances → List Update → List Update → List Update → List Update → View
view_behind b funder funder_new fundee fundee_new = record {
  funder = left_behind b.funder funder funder_new fundee fundee_new;
  fundee = left_behind b.fundee fundee fundee_new funder funder_new;
  feerate = last_feerate b.feerate funder_new;
  htlcs = map (htlc_of Funder) (live_adds funder fundee_new) ++ map (htlc_of Fundee) (live_adds fundee funder_new);
}

-- what a base is worth, by roles
abbrev pub role_balances_of : Balances → Role → RoleBalances
role_balances_of w Funder = record { funder = w.own; fundee = w.peer; feerate = w.feerate }
role_balances_of w Fundee = record { funder = w.peer; fundee = w.own; feerate = w.feerate }

-- a side can pay, and what it has left is of 64 bits
pub record IsLeft (b : ℕ) (all new peer_all peer_new : List Update) : Type 0 where
  pub paid : total is_any new peer_new ≤ got_behind b all new peer_all peer_new
  pub fits : left_behind b all new peer_all peer_new < 2 ^ 64

pub record FitsBehind (b : RoleBalances) (funder funder_new fundee fundee_new : List Update) : Type 0 where
  pub funder_left : IsLeft b.funder funder funder_new fundee fundee_new
  pub fundee_left : IsLeft b.fundee fundee fundee_new funder funder_new

-- ---- what code finds two lists to be worth after a base

pub record AreBalancesBehind (x : Role) (b : Balances) (own_all own peer_all peer : List Update)
    (w : Balances) : Type 0 where
  pub next_own : w.next_own ≡ b.next_own + next_id own
  pub next_peer : w.next_peer ≡ b.next_peer + next_id peer
  pub own_left : w.own ≡ left_behind b.own own_all own peer_all peer
  pub peer_left : w.peer ≡ left_behind b.peer peer_all peer own_all own
  pub feerate : w.feerate ≡ feerate_of b.feerate x own peer
  pub own_paid : total is_any own peer ≤ got_behind b.own own_all own peer_all peer
  pub peer_paid : total is_any peer own ≤ got_behind b.peer peer_all peer own_all own
  pub own_new : (id : ℕ) → w.next_own ≤ id → outcome id peer ≡ Live
  pub peer_new : (id : ℕ) → w.next_peer ≤ id → outcome id own ≡ Live

-- where it finds it: ids and balances are of 64 bits, and neither list removes an HTLC that the other doesn't offer
pub record HasBalances (b : Balances) (own_all own peer_all peer : List Update) : Type 0 where
  pub next_own : b.next_own + next_id own < 2 ^ 64
  pub next_peer : b.next_peer + next_id peer < 2 ^ 64
  pub own_new : (id : ℕ) → b.next_own + next_id own ≤ id → outcome id peer ≡ Live
  pub peer_new : (id : ℕ) → b.next_peer + next_id peer ≤ id → outcome id own ≡ Live
  pub own_left : IsLeft b.own own_all own peer_all peer
  pub peer_left : IsLeft b.peer peer_all peer own_all own
