-- Each end stays fit, whatever it takes, and whatever its peer sends.
use Rattle.std.proofs.Common.{◌≡◌, ℕ, zero, suc, ◌+◌, ◌-◌, ◌≤◌, List, [], ◌∷◌, ◌++◌, length, take, drop}
use Rattle.std.proofs.Common.{refl, sym, ap, ◌∙◌, subst, arith, Bool, true, false, cond, nat_lt, Option, Some, None}
use Rattle.std.proofs.Common.{length-append, length-take}
use Rattle.std.specs.Prelude.{option_map}
use Rattle.std.specs.List.{cons_option}
use Rattle.std.proofs.lemmas.Bool.{eqb-true, ltb-true, ltb-false}
use Rattle.std.proofs.lemmas.List.{take-take, take-append-le}
use Rattle.ln_refusals.specs.declared.refusal.Refusal.{Refusal}
use Rattle.ln_refusals.specs.declared.refusal.Refusal.TheVariants as refusal
use Rattle.ln_keys.specs.declared.role.Role.{Role}
use Rattle.ln_keys.specs.Role.{other_role}
use Rattle.ln_log.specs.declared.mark.EventRef.{EventRef}
use Rattle.ln_log.specs.declared.mark.EventRef.TheVariants as ref
use Rattle.ln_log.specs.declared.opening.Opening.{Opening}
use Rattle.ln_log.specs.declared.update.Update.{Update}
use Rattle.ln_log.specs.declared.update.Update.TheVariants as update
use Rattle.ln_log.specs.Opening.{limits_of, first_balance}
use Rattle.ln_log.specs.declared.outcome.Outcome.TheVariants.{Live}
use Rattle.ln_log.specs.Updates.{offered, next_id, outcome}
use Rattle.ln_log.specs.Limits.{HasNextId, id_fault, standing_of}
use Rattle.ln_log.specs.Log.{Log, Counts, IsWithin, HasId, AreNumbered, AreRemovals, RemovesLive, between, taken_fault}
use Rattle.ln_log.specs.Log as log
use Rattle.ln_log.specs.Window.{may_be_base}
use Rattle.ln_log.proofs.Bases.{base_tells}
use Rattle.ln_log.proofs.Grows.{may_take, has_id}
use Rattle.ln_log.proofs.Kept.{names_live}
use Rattle.ln_log.proofs.Removing.{numbered-push, numbered-take, removals-push, removals-take, removals-more}
use Rattle.ln_log.proofs.Totals.{longer}
use Rattle.ln_channel.specs.declared.command.Command.TheVariants as command
use Rattle.ln_hooks.specs.declared.event.ChannelEvent.{ChannelEvent}
use Rattle.ln_hooks.specs.Event.{event_of}
use Rattle.ln_channel.specs.Ledger.{Ledger, first_htlc, refs_of, ref_of, entered, resulted, forgotten}
use Rattle.ln_channel.specs.Since.{own_since, peer_since}
use Rattle.ln_channel.specs.Base.{peer_number, lesser, least_peer, allowed, based}
use Rattle.ln_channel.specs.Taking.{early_fault}
use Rattle.ln_channel.specs.End.{End, end_dropped}
use Rattle.ln_payment_circuits.specs.Snapshot.{All, IsBelow, IsFrom, IsSoundLog, IsFitLog, IsFit}
use Rattle.ln_payment_circuits.specs.Shift.{Shift, Stays, Takes, Proposes, Signs, Accepts, Learns, Closes, Notes}
use Rattle.ln_payment_circuits.proofs.Preimages.{none_both}
use Rattle.ln_payment_circuits.proofs.Tidy.{all_append, decides_so, resumes_so}

fit_alike : (f : End) (l : Log) (g : Ledger) → f.dance.log ≡ l → f.ledger ≡ g → IsFitLog l g.undecided → IsFit f
fit_alike f l g a b h =
    subst (λ m. IsFitLog m f.ledger.undecided) (sym a) (subst (λ (z : Ledger). IsFitLog l z.undecided) (sym b) h)

-- the same updates, with these undecided events
with_events : (l : Log) (rs ts : List EventRef) → IsFitLog l rs → All (IsBelow l.acknowledged.peer) ts
    → All (IsFrom l.first.peer) ts → IsFitLog l ts
with_events l rs ts h below from = record {
  sound = h.sound;
  peer_ids = h.peer_ids;
  peer_first = h.peer_first;
  below = below;
  from = from;
  closed = h.closed;
}

-- ---- an end as it begins

pub fit_begun : (o : Opening) (r : Role) → IsFitLog (log.opened o r) []
fit_begun o r = record {
  sound = record {
    within = record {
      own_current = omega arith;
      own_acknowledged = omega arith;
      own_signed = omega arith;
      peer_acknowledged = omega arith;
      peer_signed = omega arith;
      peer_current = omega arith;
    };
    own_first = omega arith;
    own_ids = tt;
    peer_removals = tt;
  };
  peer_ids = tt;
  peer_first = omega arith;
  below = tt;
  from = tt;
  closed = λ id le. refl;
}

-- ---- one more update

longer_by_one : (us : List Update) (u : Update) → length (us ++ u ∷ []) ≡ length us + 1
longer_by_one us u = length-append us (u ∷ [])

own_part : (l : Log) → IsSoundLog l → l.first.own ≤ length l.own
own_part l s =
    let a = s.own_first in
    let b = s.within.own_current in
    let c = s.within.own_acknowledged in
    let d = s.within.own_signed in
    omega (arith, a, b, c, d)

peer_part : (l : Log) (rs : List EventRef) → IsFitLog l rs → l.first.peer ≤ length l.received
peer_part l rs h =
    let a = h.peer_first in
    let b = h.sound.within.peer_acknowledged in
    let c = h.sound.within.peer_signed in
    let d = h.sound.within.peer_current in
    omega (arith, a, b, c, d)

next_by : (b : Bool) (r : Refusal) → cond b None (Some r) ≡ None → b ≡ true
next_by true r e = refl
next_by false r e = absurd (cc)

next_so : (us : List Update) (u : Update) → id_fault us u ≡ None → HasNextId us u
next_so us (update.Add a) e = eqb-true a.id (next_id us) (next_by _ refusal.BadId e)
next_so us (update.Fulfil f) e = tt
next_so us (update.Fail f) e = tt
next_so us (update.Malformed m) e = tt
next_so us (update.Fee f) e = tt

numbered_next : (us : List Update) (u : Update) → AreNumbered 0 us → HasNextId us u → AreNumbered 0 (us ++ u ∷ [])
numbered_next us u h next = numbered-push 0 us u h (subst (λ n. HasId n (offered u)) (omega arith) (has_id us u next))

fit_takes : (l : Log) (rs : List EventRef) (u : Update) → IsFitLog l rs → taken_fault l u ≡ None
    → IsFitLog (log.after_receive u l) rs
fit_takes l rs u h may =
    let m = may_take l u may in
    let w = h.sound.within in
    let last = w.peer_current in
    let one = longer_by_one l.received u in
    record {
      sound = record {
        within = record {
          own_current = w.own_current;
          own_acknowledged = w.own_acknowledged;
          own_signed = w.own_signed;
          peer_acknowledged = w.peer_acknowledged;
          peer_signed = w.peer_signed;
          peer_current = omega (arith, last, one);
        };
        own_first = h.sound.own_first;
        own_ids = h.sound.own_ids;
        peer_removals = removals-push (take l.current.own l.own) [] l.received u h.sound.peer_removals
            (names_live (limits_of l.opening (other_role l.role))
            (standing_of (first_balance l.opening (other_role l.role)) l.received (take l.acknowledged.own l.own))
            (other_role l.role) l.received (take l.current.own l.own) u m.none);
      };
      peer_ids = numbered_next l.received u h.peer_ids (next_so l.received u m.id);
      peer_first = h.peer_first;
      below = h.below;
      from = h.from;
      closed = λ id le. h.closed id (subst (λ us. next_id us ≤ id)
          (take-append-le l.first.peer l.received (u ∷ []) (peer_part l rs h)) le);
    }

fit_proposes : (l : Log) (rs : List EventRef) (u : Update) → IsFitLog l rs → HasNextId l.own u
    → IsFitLog (log.after_propose u l) rs
fit_proposes l rs u h next =
    let w = h.sound.within in
    let a = w.own_current in
    let b = w.own_acknowledged in
    let last = w.own_signed in
    let one = longer_by_one l.own u in
    record {
      sound = record {
        within = record {
          own_current = w.own_current;
          own_acknowledged = w.own_acknowledged;
          own_signed = omega (arith, last, one);
          peer_acknowledged = w.peer_acknowledged;
          peer_signed = w.peer_signed;
          peer_current = w.peer_current;
        };
        own_first = h.sound.own_first;
        own_ids = numbered_next l.own u h.sound.own_ids next;
        peer_removals = subst (λ us. AreRemovals us [] l.received)
            (sym (take-append-le l.current.own l.own (u ∷ []) (omega (arith, a, b, last)))) h.sound.peer_removals;
      };
      peer_ids = h.peer_ids;
      peer_first = h.peer_first;
      below = h.below;
      from = h.from;
      closed = λ id le. ap (outcome id) (take-append-le l.first.own l.own (u ∷ []) (own_part l h.sound))
          ∙ h.closed id le;
    }

-- ---- signatures, revocations, lost connections

fit_signs : (l : Log) (rs : List EventRef) → IsFitLog l rs → IsFitLog (log.after_sign l) rs
fit_signs l rs h =
    let w = h.sound.within in
    let a = w.own_acknowledged in
    let b = w.own_signed in
    let c = w.peer_acknowledged in
    let d = w.peer_signed in
    record {
      sound = record {
        within = record {
          own_current = w.own_current;
          own_acknowledged = omega (arith, a, b);
          own_signed = omega arith;
          peer_acknowledged = omega (arith, c, d);
          peer_signed = omega arith;
          peer_current = w.peer_current;
        };
        own_first = h.sound.own_first;
        own_ids = h.sound.own_ids;
        peer_removals = h.sound.peer_removals;
      };
      peer_ids = h.peer_ids;
      peer_first = h.peer_first;
      below = h.below;
      from = h.from;
      closed = h.closed;
    }

fit_accepts : (l : Log) (rs : List EventRef) → IsFitLog l rs → IsFitLog (log.after_accept l) rs
fit_accepts l rs h =
    let w = h.sound.within in
    let a = w.own_current in
    let b = w.own_acknowledged in
    let c = w.own_signed in
    let d = w.peer_signed in
    let e = w.peer_current in
    let f = h.sound.own_first in
    record {
      sound = record {
        within = record {
          own_current = omega arith;
          own_acknowledged = w.own_acknowledged;
          own_signed = w.own_signed;
          peer_acknowledged = w.peer_acknowledged;
          peer_signed = omega (arith, d, e);
          peer_current = omega arith;
        };
        own_first = omega (arith, a, f);
        own_ids = h.sound.own_ids;
        peer_removals = subst (λ us. AreRemovals us [] l.received)
            (sym (longer l.current.own l.acknowledged.own l.own a))
            (removals-more (take l.current.own l.own) (drop l.current.own (take l.acknowledged.own l.own)) [] l.received
            h.sound.peer_removals);
      };
      peer_ids = h.peer_ids;
      peer_first = h.peer_first;
      below = h.below;
      from = h.from;
      closed = h.closed;
    }

all_to : {A : Type 0} (P Q : A → Type 0) → ((x : A) → P x → Q x) → (xs : List A) → All P xs → All Q xs
all_to P Q f [] h = tt
all_to P Q f (x ∷ xs) h = (f x h.0, all_to P Q f xs h.1)

more_below : (m n : ℕ) → m ≤ n → (r : EventRef) → IsBelow m r → IsBelow n r
more_below m n le (ref.Own k) h = tt
more_below m n le (ref.Peer k) h = omega (arith, le, h)
more_below m n le ref.Close h = tt

fit_learns : (l : Log) (rs : List EventRef) → IsFitLog l rs → IsFitLog (log.after_learn l) rs
fit_learns l rs h =
    let w = h.sound.within in
    let a = w.own_current in
    let b = w.own_acknowledged in
    let c = w.peer_acknowledged in
    let f = h.peer_first in
    record {
      sound = record {
        within = record {
          own_current = omega (arith, a, b);
          own_acknowledged = omega arith;
          own_signed = w.own_signed;
          peer_acknowledged = omega arith;
          peer_signed = w.peer_signed;
          peer_current = w.peer_current;
        };
        own_first = h.sound.own_first;
        own_ids = h.sound.own_ids;
        peer_removals = h.sound.peer_removals;
      };
      peer_ids = h.peer_ids;
      peer_first = omega (arith, c, f);
      below = all_to (IsBelow l.acknowledged.peer) (IsBelow l.signed.peer)
          (more_below l.acknowledged.peer l.signed.peer c) rs h.below;
      from = h.from;
      closed = h.closed;
    }

fit_drops : (l : Log) (rs : List EventRef) → IsFitLog l rs → IsFitLog (log.after_drop l) rs
fit_drops l rs h =
    let w = h.sound.within in
    let a = w.own_current in
    let b = w.own_acknowledged in
    let c = w.own_signed in
    let d = w.peer_acknowledged in
    let e = w.peer_signed in
    let g = w.peer_current in
    let f = h.sound.own_first in
    let p = h.peer_first in
    record {
      sound = record {
        within = record {
          own_current = w.own_current;
          own_acknowledged = w.own_acknowledged;
          own_signed = simp (length-take) (omega (arith, c));
          peer_acknowledged = w.peer_acknowledged;
          peer_signed = w.peer_signed;
          peer_current = simp (length-take) (omega (arith, g));
        };
        own_first = h.sound.own_first;
        own_ids = numbered-take 0 l.signed.own l.own h.sound.own_ids;
        peer_removals = removals-take (take l.current.own (take l.signed.own l.own)) [] l.received l.current.peer
            (subst (λ us. AreRemovals us [] l.received)
            (sym (take-take l.current.own l.signed.own l.own (omega (arith, a, b)))) h.sound.peer_removals);
      };
      peer_ids = numbered-take 0 l.current.peer l.received h.peer_ids;
      peer_first = h.peer_first;
      below = h.below;
      from = h.from;
      closed = λ id le. ap (outcome id) (take-take l.first.own l.signed.own l.own (omega (arith, a, b, f)))
          ∙ h.closed id (subst (λ us. next_id us ≤ id)
          (take-take l.first.peer l.current.peer l.received (omega (arith, d, e, p))) le);
    }

pub fit_dropped : (e : End) → IsFit e → IsFit (end_dropped e)
fit_dropped e h = fit_drops e.dance.log e.ledger.undecided h

-- ---- new events

-- those of these updates of the peer's
new_between : (lo n hi : ℕ) (us : List Update) → lo ≤ n → n + length us ≤ hi
    → All (IsBelow hi) (refs_of false n us) × All (IsFrom lo) (refs_of false n us)
new_between lo n hi [] from below = (tt, tt)
new_between lo n hi (u ∷ us) from below = cases (event_of false u) (new_between lo (n + 1) hi us (omega (arith, from))
    (omega (arith, below)))
  where
    cases : (o : Option ChannelEvent) → All (IsBelow hi) (refs_of false (n + 1) us)
        × All (IsFrom lo) (refs_of false (n + 1) us)
        → All (IsBelow hi) (cons_option (option_map (λ e. ref_of false n) o) (refs_of false (n + 1) us))
        × All (IsFrom lo) (cons_option (option_map (λ e. ref_of false n) o) (refs_of false (n + 1) us))
    cases None h = h
    cases (Some e) h = ((omega (arith, below), h.0), (from, h.1))

own_between : (lo hi n : ℕ) (us : List Update)
    → All (IsBelow hi) (refs_of true n us) × All (IsFrom lo) (refs_of true n us)
own_between lo hi n [] = (tt, tt)
own_between lo hi n (u ∷ us) = cases (event_of true u) (own_between lo hi (n + 1) us)
  where
    cases : (o : Option ChannelEvent) → All (IsBelow hi) (refs_of true (n + 1) us)
        × All (IsFrom lo) (refs_of true (n + 1) us)
        → All (IsBelow hi) (cons_option (option_map (λ e. ref_of true n) o) (refs_of true (n + 1) us))
        × All (IsFrom lo) (cons_option (option_map (λ e. ref_of true n) o) (refs_of true (n + 1) us))
    cases None h = h
    cases (Some e) h = ((tt, h.0), (tt, h.1))

-- they enter after those that wait
fit_entered : (l : Log) (rs ts : List EventRef) → IsFitLog l rs → All (IsBelow l.acknowledged.peer) ts
    × All (IsFrom l.first.peer) ts → IsFitLog l (rs ++ ts)
fit_entered l rs ts h new = with_events l rs (rs ++ ts) h
    (all_append (IsBelow l.acknowledged.peer) rs ts h.below new.0)
    (all_append (IsFrom l.first.peer) rs ts h.from new.1)

few_between : (m n : ℕ) (us : List Update) → length (between m n us) ≤ n - m
few_between m n us = simp (length-take) (omega arith)

learned : (l : Log) (rs : List EventRef) → IsFitLog l rs
    → IsFitLog (log.after_learn l) (rs ++ refs_of false l.acknowledged.peer
    (peer_since l.acknowledged.peer (log.after_learn l)))
learned l rs h =
    let m = l.acknowledged.peer in
    let few = few_between m l.signed.peer l.received in
    let le = h.sound.within.peer_acknowledged in
    fit_entered (log.after_learn l) rs (refs_of false m (peer_since m (log.after_learn l))) (fit_learns l rs h)
    (new_between l.first.peer m l.signed.peer (peer_since m (log.after_learn l)) h.peer_first (omega (arith, few, le)))

-- ---- fewer events

all_drop : {A : Type 0} (P : A → Type 0) (n : ℕ) (xs : List A) → All P xs → All P (drop n xs)
all_drop P zero xs h = h
all_drop P (suc n) [] h = tt
all_drop P (suc n) (x ∷ xs) h = all_drop P n xs h.1

-- ---- an end goes on

pub fit_shift : (e f : End) → IsFit e → Shift e f → IsFit f
fit_shift e f h (Stays l g) = fit_alike f e.dance.log e.ledger l g h
fit_shift e f h (Takes u may l g) =
    fit_alike f (log.after_receive u e.dance.log) e.ledger l g
    (fit_takes e.dance.log e.ledger.undecided u h
    (none_both (early_fault e u) (taken_fault e.dance.log u) may).1)
fit_shift e f h (Proposes u may next l g) =
    fit_alike f (log.after_propose u e.dance.log) e.ledger l g
    (fit_proposes e.dance.log e.ledger.undecided u h next)
fit_shift e f h (Signs l g) =
    fit_alike f (log.after_sign e.dance.log) e.ledger l g (fit_signs e.dance.log e.ledger.undecided h)
fit_shift e f h (Accepts l g) =
    let n = e.dance.log.current.own in
    let us = own_since n (log.after_accept e.dance.log) in
    fit_alike f (log.after_accept e.dance.log) (entered (refs_of true n us) e.ledger) l g
    (fit_entered (log.after_accept e.dance.log) e.ledger.undecided (refs_of true n us)
    (fit_accepts e.dance.log e.ledger.undecided h)
    (own_between e.dance.log.first.peer e.dance.log.acknowledged.peer n us))
fit_shift e f h (Learns l g) =
    let n = e.dance.log.acknowledged.peer in
    let us = peer_since n (log.after_learn e.dance.log) in
    fit_alike f (log.after_learn e.dance.log) (resulted e.dance.log.own us (entered (refs_of false n us) e.ledger)) l g
    (learned e.dance.log e.ledger.undecided h)
fit_shift e f h (Closes l g) =
    fit_alike f e.dance.log (entered (ref.Close ∷ []) e.ledger) l g
    (fit_entered e.dance.log e.ledger.undecided (ref.Close ∷ []) h ((tt, tt), (tt, tt)))
fit_shift e f h (Notes (command.Decide event m) l g) =
    let d = decides_so event m (first_htlc e.dance.log e.ledger.undecided) e.ledger f.ledger g in
    fit_alike f e.dance.log f.ledger l refl (subst (IsFitLog e.dance.log) (sym d.undecided)
    (with_events e.dance.log e.ledger.undecided (drop 1 e.ledger.undecided) h
    (all_drop (IsBelow e.dance.log.acknowledged.peer) 1 e.ledger.undecided h.below)
    (all_drop (IsFrom e.dance.log.first.peer) 1 e.ledger.undecided h.from)))
fit_shift e f h (Notes (command.Forget i) l g) =
    let is : forgotten i e.ledger ≡ f.ledger = cc in
    fit_alike f e.dance.log (forgotten i e.ledger) l (sym is) h
fit_shift e f h (Notes (command.Resume event m) l g) =
    let r = resumes_so event m e.ledger f.ledger g in
    fit_alike f e.dance.log f.ledger l refl (subst (IsFitLog e.dance.log)
    (sym (ap (λ (z : Ledger). z.undecided) r.is)) h)
fit_shift e f h (Notes (command.Confirm i) l g) = absurd (cc)
fit_shift e f h (Notes (command.Add amount hash expiry onion origin) l g) = absurd (cc)
fit_shift e f h (Notes (command.Fulfil i preimage) l g) = absurd (cc)
fit_shift e f h (Notes (command.Fail i reason) l g) = absurd (cc)
fit_shift e f h (Notes (command.Malformed i sha code) l g) = absurd (cc)
fit_shift e f h (Notes (command.Fee feerate) l g) = absurd (cc)
fit_shift e f h (Notes command.Sign l g) = absurd (cc)
fit_shift e f h (Notes (command.Shutdown script) l g) = absurd (cc)

-- ---- the base moves on

lesser_le : (o : Option ℕ) (n : ℕ) → lesser o n ≤ n
lesser_le None n = omega arith
lesser_le (Some m) n = cases (nat_lt m n) refl
  where
    cases : (b : Bool) → nat_lt m n ≡ b → cond b m n ≤ n
    cases true e = let lt = ltb-true m n e in omega (arith, lt)
    cases false e = omega arith

lesser_first : (m n : ℕ) → lesser (Some m) n ≤ m
lesser_first m n = cases (nat_lt m n) refl
  where
    cases : (b : Bool) → nat_lt m n ≡ b → cond b m n ≤ m
    cases true e = omega arith
    cases false e = let le = ltb-false m n e in omega (arith, le)

least_le : (n : ℕ) (rs : List EventRef) → least_peer n rs ≤ n
least_le n [] = omega arith
least_le n (r ∷ rs) =
    let a = lesser_le (peer_number r) n in
    let b = least_le (lesser (peer_number r) n) rs in
    omega (arith, a, b)

from_least : (m n : ℕ) (rs : List EventRef) → m ≤ least_peer n rs → All (IsFrom m) rs
from_least m n [] le = tt
from_least m n (r ∷ rs) le = (one r le, from_least m (lesser (peer_number r) n) rs le)
  where
    one : (r : EventRef) → m ≤ least_peer (lesser (peer_number r) n) rs → IsFrom m r
    one (ref.Own k) le = tt
    one (ref.Peer k) le =
        let a = least_le (lesser (Some k) n) rs in
        let b = lesser_first k n in
        omega (arith, a, b, le)
    one ref.Close le = tt

pub fit_based : (f : End) → IsFit f → IsFit (based f)
fit_based f h = cases (may_be_base f.dance.log (allowed f)) refl
  where
    at : (first : Counts) → first.own ≤ f.dance.log.current.own → first.peer ≤ f.dance.log.acknowledged.peer
        → All (IsFrom first.peer) f.ledger.undecided
        → ((id : ℕ) → next_id (take first.peer f.dance.log.received) ≤ id
        → outcome id (take first.own f.dance.log.own) ≡ Live)
        → IsFitLog (record f.dance.log { first = first }) f.ledger.undecided
    at first own peer from closed = record {
      sound = record {
        within = record {
          own_current = h.sound.within.own_current;
          own_acknowledged = h.sound.within.own_acknowledged;
          own_signed = h.sound.within.own_signed;
          peer_acknowledged = h.sound.within.peer_acknowledged;
          peer_signed = h.sound.within.peer_signed;
          peer_current = h.sound.within.peer_current;
        };
        own_first = own;
        own_ids = h.sound.own_ids;
        peer_removals = h.sound.peer_removals;
      };
      peer_ids = h.peer_ids;
      peer_first = peer;
      below = h.below;
      from = from;
      closed = closed;
    }

    cases : (b : Bool) → may_be_base f.dance.log (allowed f) ≡ b
        → IsFitLog (record f.dance.log { first = cond b (allowed f) f.dance.log.first }) f.ledger.undecided
    cases true e =
        let m = (base_tells f.dance.log (allowed f)).0 e in
        at (allowed f) m.own_current m.peer_acknowledged
        (from_least (allowed f).peer f.dance.log.acknowledged.peer f.ledger.undecided (omega arith)) m.closed.peer_new
    cases false e = at f.dance.log.first h.sound.own_first h.peer_first h.from h.closed
