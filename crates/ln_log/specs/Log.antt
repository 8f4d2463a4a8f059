-- What one side keeps: both lists, and of each how many updates each commitment covers.
use Rattle.std.specs.Prelude.{◌≡◌, ℕ, ◌+◌, ◌-◌, ◌*◌, ◌≤◌, List, [], ◌∷◌, ◌++◌, length, take, drop, Bool, true}
use Rattle.std.specs.Prelude.{◌&&◌, ◌==◌, nat_lt, not, Option, Some, None, is_none, option_map, if◌then◌else◌}
use Rattle.std.specs.List.{slice_get}
use Rattle.ln_refusals.specs.declared.refusal.Refusal.{Refusal}
use Rattle.ln_refusals.specs.declared.refusal.Refusal.TheVariants as refusal
use Rattle.ln_keys.specs.declared.role.Role.{Role}
use Rattle.ln_keys.specs.declared.role.Role.TheVariants.{Funder, Fundee}
use Rattle.ln_log.specs.declared.opening.Opening.{Opening}
use Rattle.ln_log.specs.declared.log.Counts as counts
use Rattle.ln_log.specs.declared.log.Pair.{Pair}
use Rattle.ln_log.specs.declared.log.Pair.TheVariants as pair
use Rattle.ln_log.specs.declared.log.Side.{Side}
use Rattle.ln_log.specs.declared.log.Side.TheVariants as side
use Rattle.ln_log.specs.declared.standing.Standing.{Standing}
use Rattle.ln_log.specs.declared.update.Removal.{Removal}
use Rattle.ln_log.specs.declared.update.Update.{Update}
use Rattle.ln_log.specs.declared.update.Update.TheVariants as update
use Rattle.ln_keys.specs.declared.view.View.{View}
use Rattle.ln_keys.specs.Role.{other_role}
use Rattle.ln_log.specs.Opening.{HasFunds, first_balance}
use Rattle.ln_refusals.specs.PeerRule.{rule_of}
use Rattle.ln_refusals.specs.declared.peer_rule.PeerRule.TheVariants as rule
use Rattle.ln_log.specs.declared.update.Add.{Add}
use Rattle.ln_log.specs.declared.outcome.Outcome.TheVariants.{Live}
use Rattle.ln_log.specs.Updates.{offered, removed, all_sent, add_with, outcome, is_live, is_some}
use Rattle.ln_log.specs.View.{live_adds, view_of, Pays}
use Rattle.ln_log.specs.Limits.{standing_of, update_fault, id_fault, is_at_update_limit, first_fault}
use Rattle.ln_log.specs.Machine.{Covered, Party}

-- how many updates of either side
abbrev pub Counts : Type 0
Counts = counts.Counts

pub record Log : Type 0 where
  pub opening : Opening
  pub role : Role
  pub own : List Update  -- what the side proposed
  pub received : List Update  -- what it took of the peer's
  pub first : Counts  -- those before these aren't had one by one any more
  pub signed : Counts
  pub acknowledged : Counts
  pub current : Counts

abbrev pub none : Counts
none = record { own = 0; peer = 0 }

abbrev pub opened : Opening → Role → Log
opened o x = record {
  opening = o;
  role = x;
  own = [];
  received = [];
  first = none;
  signed = none;
  acknowledged = none;
  current = none;
}

-- the lists that counts stand for
abbrev pub covered : Log → Counts → Covered
covered l c = record { own = take c.own l.own; peer = take c.peer l.received }

abbrev pub sent_pair : Covered → Covered
sent_pair c = record { own = all_sent c.own; peer = all_sent c.peer }

-- the party of the machine that a log stands for, by the updates as they are sent, with these marks: whether the
-- side has sent shutdown, and the fee at which it has closed
abbrev pub party_of : Bool → Option ℕ → Log → Party
party_of shut closed l = record {
  own = all_sent l.own;
  signed = sent_pair (covered l l.signed);
  current = sent_pair (covered l l.current);
  acknowledged = sent_pair (covered l l.acknowledged);
  shut = shut;
  closed = closed;
}

-- the counts lie within the lists and within one another: an own update is covered by an own signature,
-- then acknowledged, then stands in the own commitment; one of the peer's stands in the own commitment,
-- then is covered by an own signature, then acknowledged
pub record IsWithin (l : Log) : Type 0 where
  pub own_current : l.current.own ≤ l.acknowledged.own
  pub own_acknowledged : l.acknowledged.own ≤ l.signed.own
  pub own_signed : l.signed.own ≤ length l.own
  pub peer_acknowledged : l.acknowledged.peer ≤ l.signed.peer
  pub peer_signed : l.signed.peer ≤ l.current.peer
  pub peer_current : l.current.peer ≤ length l.received

-- ---- what a call makes of it

abbrev pub after_propose : Update → Log → Log
after_propose u l = record l { own = l.own ++ u ∷ [] }

abbrev pub after_receive : Update → Log → Log
after_receive u l = record l { received = l.received ++ u ∷ [] }

abbrev pub after_sign : Log → Log
after_sign l = record l { signed = record { own = length l.own; peer = l.current.peer } }

-- the peer's signature covers what was taken, and the own updates that the peer has acknowledged
abbrev pub after_accept : Log → Log
after_accept l = record l { current = record { own = l.acknowledged.own; peer = length l.received } }

-- the peer has revoked up to the last own signature
abbrev pub after_learn : Log → Log
after_learn l = record l { acknowledged = l.signed }

-- the updates that no signature covers are gone
abbrev pub after_drop : Log → Log
after_drop l = record l { own = take l.signed.own l.own; received = take l.current.peer l.received }

abbrev pub same_counts : Counts → Counts → Bool
same_counts c d = (c.own == d.own) && (c.peer == d.peer)

-- ---- what keeps a side from it

-- what keeps a side from signing
abbrev pub sign_fault : Log → Option Refusal
sign_fault l =
    if same_counts l.acknowledged l.signed
    then (if same_counts l.signed (after_sign l).signed then Some refusal.NothingToSign else None)
    else Some refusal.SignatureOutstanding

-- the peer would refuse it
abbrev pub peer_limit : Refusal → Refusal
peer_limit r = refusal.PeerLimit (rule_of r)

-- no HTLC of this id was ever offered (28), it is removed already, or it isn't held as irrevocably
-- committed
abbrev pub removal_fault : Log → Option Removal → Option Refusal
removal_fault l None = None
removal_fault l (Some r) =
    if is_none (add_with r.id l.received) then Some (refusal.PeerLimit rule.NoSuchHtlc)
    else (if not (is_live (outcome r.id l.own)) then Some refusal.AlreadyRemoved
    else (if is_none (add_with r.id (take l.acknowledged.peer l.received)) then Some refusal.NotCommitted
    else None))

-- update_fail_htlc has 44 bytes beside the reason, and a message has 65,535 at most (7)
abbrev pub length_fault : Update → Option Refusal
length_fault (update.Add a) = None
length_fault (update.Fulfil f) = None
length_fault (update.Fail f) =
    if nat_lt 65491 (length f.reason) then Some (refusal.PeerLimit rule.TooLong) else None
length_fault (update.Malformed m) = None
length_fault (update.Fee f) = None

-- by command
abbrev pub proposal_fault : Log → Update → Option Refusal
proposal_fault l u =
    first_fault (if is_at_update_limit l.own then Some refusal.NumbersSpent else None)
    (first_fault (removal_fault l (removed u))
    (first_fault (option_map peer_limit (update_fault l.opening l.role l.own (take l.current.peer l.received)
    (take l.acknowledged.peer l.received) u))
    (length_fault u)))

-- from the peer
abbrev pub taken_fault : Log → Update → Option Refusal
taken_fault l u =
    first_fault (if is_at_update_limit l.received then Some refusal.OutOfPlace else None)
    (first_fault (id_fault l.received u)
    (update_fault l.opening (other_role l.role) l.received (take l.acknowledged.own l.own)
    (take l.current.own l.own) u))

-- ---- views

-- the updates of a side
abbrev pub updates_of : Side → Log → List Update
updates_of side.Own l = l.own
updates_of side.Peer l = l.received

-- how many updates of a side there are
abbrev pub count_of : Side → Log → ℕ
count_of x l = length (updates_of x l)

-- the number of the first update that is had one by one
abbrev pub first_of : Side → Log → ℕ
first_of side.Own l = l.first.own
first_of side.Peer l = l.first.peer

-- the update of this number, from a first one on
abbrev pub update_at : ℕ → List Update → ℕ → Option Update
update_at first us n = if nat_lt n first then None else slice_get us n

-- the updates from one number up to another
abbrev pub between : ℕ → ℕ → List Update → List Update
between from to us = take (to - from) (drop from us)

-- the updates of a side that aren't had one by one any more
abbrev pub before_first : Side → Log → List Update
before_first side.Own l = take l.first.own l.own
before_first side.Peer l = take l.first.peer l.received

-- an update that removes an HTLC removes none that these remove
abbrev pub IsNotGone : List Update → Option Removal → Type 0
IsNotGone before None = Unit {0}
IsNotGone before (Some r) = outcome r.id before ≡ Live

abbrev pub AreNotGone : List Update → List Update → Type 0
AreNotGone before [] = Unit {0}
AreNotGone before (u ∷ us) = IsNotGone before (removed u) × AreNotGone before us

-- what the last signature covers of the own updates, and the peer hasn't acknowledged
abbrev pub unacknowledged : Log → List Update
unacknowledged l = drop l.acknowledged.own (take l.signed.own l.own)

-- how many updates of either side a pair covers
abbrev pub counts_of : Pair → Log → Counts
counts_of (pair.Current side.Own) l = l.current
counts_of (pair.Current side.Peer) l = l.acknowledged
counts_of pair.Signed l = l.signed
counts_of pair.ToSign l = (after_sign l).signed
counts_of pair.ToAccept l = (after_accept l).current

abbrev pub live_in : Covered → ℕ
live_in c = length (live_adds c.own c.peer) + length (live_adds c.peer c.own)

-- the view of what a side and its peer have covered
abbrev pub view_for : Opening → Role → Covered → View
view_for o Funder c = view_of o c.own c.peer
view_for o Fundee c = view_of o c.peer c.own

-- ---- what is kept

-- what is kept stands for these lists and counts: today it has them whole
abbrev pub StandsFor : Log → Log → Type 0
StandsFor kept l = kept ≡ l

abbrev pub number_after : ℕ → Option Add → ℕ
number_after n None = n
number_after n (Some a) = n + 1

abbrev pub HasId : ℕ → Option Add → Type 0
HasId n None = Unit {0}
HasId n (Some a) = a.id ≡ n

-- the HTLCs that a list offers have the ids n, n + 1 and so on
abbrev pub AreNumbered : ℕ → List Update → Type 0
AreNumbered n [] = Unit {0}
AreNumbered n (u ∷ us) = HasId n (offered u) × AreNumbered (number_after n (offered u)) us

abbrev pub RemovesLive : List Update → List Update → Option Removal → Type 0
RemovesLive adds before None = Unit {0}
RemovesLive adds before (Some r) = (is_some (add_with r.id adds) ≡ true) × (outcome r.id before ≡ Live)

-- after some updates, each of these that removes an HTLC removes one that was offered and that none
-- before it removes
abbrev pub AreRemovals : List Update → List Update → List Update → Type 0
AreRemovals adds before [] = Unit {0}
AreRemovals adds before (u ∷ us) = RemovesLive adds before (removed u) × AreRemovals adds (before ++ u ∷ []) us

abbrev pub HasAmount : ℕ → Option Add → Type 0
HasAmount most None = Unit {0}
HasAmount most (Some a) = a.amount ≤ most

-- no HTLC that they offer is of more than this
abbrev pub AreWithin : ℕ → List Update → Type 0
AreWithin most [] = Unit {0}
AreWithin most (u ∷ us) = HasAmount most (offered u) × AreWithin most us

-- from the first update that is had one by one up to the last
pub record IsInRange (kept : Log) (c : Counts) : Type 0 where
  pub own_first : kept.first.own ≤ c.own
  pub own_last : c.own ≤ count_of side.Own kept
  pub peer_first : kept.first.peer ≤ c.peer
  pub peer_last : c.peer ≤ count_of side.Peer kept

-- all counts of a log
pub record AllCounts : Type 0 where
  pub first : Counts
  pub signed : Counts
  pub acknowledged : Counts
  pub current : Counts

abbrev pub all_counts : Log → AllCounts
all_counts l = record { first = l.first; signed = l.signed; acknowledged = l.acknowledged; current = l.current }

-- the log that it was at the opening
abbrev pub at_opening : Log → Log
at_opening l = opened l.opening l.role

-- what holds of every log by what it keeps alone, whatever lists it stands for: what isn't had one by one any more is
-- held as irrevocably committed, the counts lie within one another and within what there is, and no HTLC is of more
-- than all funds
pub record IsInOrder (kept : Log) : Type 0 where
  pub funds : HasFunds kept.opening
  pub own_first : kept.first.own ≤ kept.current.own
  pub own_current : kept.current.own ≤ kept.acknowledged.own
  pub own_acknowledged : kept.acknowledged.own ≤ kept.signed.own
  pub own_signed : kept.signed.own ≤ count_of side.Own kept
  pub peer_first : kept.first.peer ≤ kept.acknowledged.peer
  pub peer_acknowledged : kept.acknowledged.peer ≤ kept.signed.peer
  pub peer_signed : kept.signed.peer ≤ kept.current.peer
  pub peer_current : kept.current.peer ≤ count_of side.Peer kept
  pub own_amounts : AreWithin (1000 * kept.opening.satoshis) kept.own
  pub peer_amounts : AreWithin (1000 * kept.opening.satoshis) kept.received

abbrev pub BothPay : Opening → Role → Covered → Type 0
BothPay o role c = Pays (first_balance o role) c.own c.peer × Pays (first_balance o (other_role role)) c.peer c.own

-- how each side stands is what the lists say: by all that it proposed, and by what of it the last
-- signature covers; and in each commitment both sides have paid from what they had
pub record IsKept (l : Log) (own own_signed peer peer_current : Standing) : Type 0 where
  pub funds : HasFunds l.opening
  pub within : IsWithin l
  pub own_ids : AreNumbered 0 l.own
  pub peer_ids : AreNumbered 0 l.received
  pub own_removals : AreRemovals (take l.signed.peer l.received) [] l.own
  pub acknowledged_removals : AreRemovals (take l.acknowledged.peer l.received) [] (take l.acknowledged.own l.own)
  pub peer_removals : AreRemovals (take l.current.own l.own) [] l.received
  pub own_amounts : AreWithin (1000 * l.opening.satoshis) l.own
  pub peer_amounts : AreWithin (1000 * l.opening.satoshis) l.received
  pub own_stands : own ≡ standing_of (first_balance l.opening l.role) l.own (take l.current.peer l.received)
  pub own_signed_stands : own_signed ≡ standing_of (first_balance l.opening l.role) (take l.signed.own l.own)
      (take l.current.peer l.received)
  pub peer_stands : peer ≡ standing_of (first_balance l.opening (other_role l.role)) l.received
      (take l.acknowledged.own l.own)
  pub peer_current_stands : peer_current ≡ standing_of (first_balance l.opening (other_role l.role))
      (take l.current.peer l.received) (take l.acknowledged.own l.own)
  pub own_pays : Pays (first_balance l.opening l.role) l.own (take l.current.peer l.received)
  pub peer_pays : Pays (first_balance l.opening (other_role l.role)) l.received (take l.acknowledged.own l.own)
  pub signed_pays : BothPay l.opening l.role (covered l l.signed)
  pub acknowledged_pays : BothPay l.opening l.role (covered l l.acknowledged)
  pub current_pays : BothPay l.opening l.role (covered l l.current)
