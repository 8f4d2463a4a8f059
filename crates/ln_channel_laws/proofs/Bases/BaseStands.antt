-- Where the base of an end stands as it is saved: within what it holds, and before each undecided event.
use Rattle.std.proofs.Common.{◌≡◌, ℕ, ◌+◌, ◌≤◌, List, [], ◌∷◌, length, filter, refl, arith, Bool, true, false, cond}
use Rattle.std.proofs.Common.{Option, Some, None, nat_lt}
use Rattle.std.proofs.lemmas.Bool.{ltb-true, ltb-false}
use Rattle.ln_log.specs.declared.log.Counts.{Counts}
use Rattle.ln_log.specs.declared.mark.EventRef.{EventRef}
use Rattle.ln_log.specs.declared.mark.EventRef.TheVariants as ref
use Rattle.ln_log.specs.Window.{may_be_base}
use Rattle.ln_channel.specs.Base.{own_number, peer_number, lesser, least_own, least_peer, allowed, next_base}
use Rattle.ln_channel.specs.End.{End}
use Rattle.ln_channel_laws.proofs.All.{All}

-- an event of an update that is still there one by one
abbrev pub IsAt : Counts → EventRef → Type 0
IsAt first (ref.Own n) = first.own ≤ n
IsAt first (ref.Peer n) = first.peer ≤ n
IsAt first ref.Close = Unit {0}

lesser_both : (m n : ℕ) → (lesser (Some m) n ≤ m) × (lesser (Some m) n ≤ n)
lesser_both m n = by (nat_lt m n) refl
  where
    by : (b : Bool) → nat_lt m n ≡ b → (cond b m n ≤ m) × (cond b m n ≤ n)
    by true e = (omega arith, (let lt = ltb-true m n e in omega (arith, lt)))
    by false e = ((let le = ltb-false m n e in omega (arith, le)), omega arith)

pub lesser_le : (o : Option ℕ) (n : ℕ) → lesser o n ≤ n
lesser_le None n = omega arith
lesser_le (Some m) n = (lesser_both m n).1

own_le : (n : ℕ) (rs : List EventRef) → least_own n rs ≤ n
own_le n [] = omega arith
own_le n (r ∷ rs) =
    let less = lesser_le (own_number r) n in
    let least = own_le (lesser (own_number r) n) rs in
    omega (arith, less, least)

peer_le : (n : ℕ) (rs : List EventRef) → least_peer n rs ≤ n
peer_le n [] = omega arith
peer_le n (r ∷ rs) =
    let less = lesser_le (peer_number r) n in
    let least = peer_le (lesser (peer_number r) n) rs in
    omega (arith, less, least)

one_at : (f : Counts) (n p : ℕ) (r : EventRef) (rs : List EventRef) → f.own ≤ least_own n (r ∷ rs)
    → f.peer ≤ least_peer p (r ∷ rs) → IsAt f r
one_at f n p (ref.Own m) rs o q =
    let less = (lesser_both m n).0 in
    let least = own_le (lesser (Some m) n) rs in
    omega (arith, o, less, least)
one_at f n p (ref.Peer m) rs o q =
    let less = (lesser_both m p).0 in
    let least = peer_le (lesser (Some m) p) rs in
    omega (arith, q, less, least)
one_at f n p ref.Close rs o q = tt

all_at : (f : Counts) (n p : ℕ) (rs : List EventRef) → f.own ≤ least_own n rs → f.peer ≤ least_peer p rs
    → All (IsAt f) rs
all_at f n p [] o q = tt
all_at f n p (r ∷ rs) o q =
    (one_at f n p r rs o q, all_at f (lesser (own_number r) n) (lesser (peer_number r) p) rs o q)

-- ---- whether it moves or not

pub base_within : (e : End) → e.dance.log.first.own ≤ e.dance.log.current.own
    → e.dance.log.first.peer ≤ e.dance.log.acknowledged.peer
    → ((next_base e).own ≤ e.dance.log.current.own) × ((next_base e).peer ≤ e.dance.log.acknowledged.peer)
base_within e o q = by (may_be_base e.dance.log (allowed e))
  where
    by : (b : Bool) → ((cond b (allowed e) e.dance.log.first).own ≤ e.dance.log.current.own)
        × ((cond b (allowed e) e.dance.log.first).peer ≤ e.dance.log.acknowledged.peer)
    by true = (
      own_le e.dance.log.current.own e.ledger.undecided,
      peer_le e.dance.log.acknowledged.peer e.ledger.undecided,
    )
    by false = (o, q)

pub base_at : (e : End) → All (IsAt e.dance.log.first) e.ledger.undecided
    → All (IsAt (next_base e)) e.ledger.undecided
base_at e h = by (may_be_base e.dance.log (allowed e))
  where
    by : (b : Bool) → All (IsAt (cond b (allowed e) e.dance.log.first)) e.ledger.undecided
    by true = all_at (allowed e) e.dance.log.current.own e.dance.log.acknowledged.peer e.ledger.undecided
        (omega arith) (omega arith)
    by false = h

-- ---- what is left out

kept_length : {A : Type 0} (b : Bool) (x : A) (xs : List A) (n : ℕ) → length xs ≤ n
    → length (cond b (x ∷ xs) xs) ≤ n + 1
kept_length true x xs n le = omega (arith, le)
kept_length false x xs n le = omega (arith, le)

pub length-filter : {A : Type 0} (f : A → Bool) (xs : List A) → length (filter f xs) ≤ length xs
length-filter f [] = omega arith
length-filter f (x ∷ xs) =
    let rest = length-filter f xs in
    let one = kept_length (f x) x (filter f xs) (length xs) rest in
    omega (arith, one)
