-- What holds of the ledger of each end of a channel: ids of what it has decided and of what waits rise, no HTLC that it
-- has a decision of is removed in its base, and its results are true and stand once.
use Rattle.std.proofs.Common.{◌≡◌, ◌⊎◌, inl, inr, ℕ, ◌+◌, ◌-◌, ◌≤◌, ◌<◌, List, [], ◌∷◌, ◌++◌, length, take, drop}
use Rattle.std.proofs.Common.{filter, refl, sym, ap, ◌∙◌, subst, arith, append_assoc, append-nil, Bool, true, false}
use Rattle.std.proofs.Common.{cond}
use Rattle.std.proofs.Common.{not, ◌==◌, ◌&&◌, nat_lt, Option, Some, None, Result, Ok, Err}
use Rattle.std.specs.List.{cons_option}
use Rattle.std.proofs.lemmas.List.{take-take, take-append-le, take-append-drop}
use Rattle.ln_refusals.specs.declared.refusal.Refusal.{Refusal}
use Rattle.ln_refusals.specs.declared.refusal.Refusal.TheVariants as refusal
use Rattle.ln_log.specs.declared.mark.Decision.{Decision}
use Rattle.ln_log.specs.declared.mark.EventRef.TheVariants as ref
use Rattle.ln_log.specs.declared.mark.Mark.{Mark}
use Rattle.ln_log.specs.declared.mark.Mark.TheVariants as mark
use Rattle.ln_log.specs.declared.mark.Settlement.{Settlement}
use Rattle.ln_log.specs.declared.outcome.Outcome.TheVariants.{Live}
use Rattle.ln_log.specs.declared.update.Update.{Update}
use Rattle.ln_log.specs.Updates.{add_with, outcome, is_live, is_some, next_id}
use Rattle.ln_log.specs.Log.{Log, Counts, AreNumbered, AreRemovals, between}
use Rattle.ln_log.specs.Log as log
use Rattle.ln_log.proofs.Removing.{numbered-drop, numbered-take, removals-drop, removals-take, outcome-append}
use Rattle.ln_log.proofs.Removing.{add_with-more}
use Rattle.ln_log.proofs.Behind.{next-append}
use Rattle.ln_channel.specs.Ledger.{Ledger, refs_of, entered, resulted, settlements, first_htlc, marked, decided_first}
use Rattle.ln_channel.specs.Ledger.{is_in_turn, is_of_event, decide_row, is_not_of, forgotten, is_held_at, with_mark}
use Rattle.ln_channel.specs.Ledger.{is_answer, resume_held_row}
use Rattle.ln_channel.specs.Since.{peer_since}
use Rattle.ln_channel.specs.Base.{is_open, without_removed}
use Rattle.ln_payment_circuits.specs.Snapshot.{is_gone, IsSoundLog, All, IsBelow}
use Rattle.ln_payment_circuits.specs.Circuit.{Forwards}
use Rattle.ln_payment_circuits.proofs.Updates.{live_is, part_tells, front_offers}
use Rattle.ln_payment_circuits.proofs.Parts.{some_of, has_result}
use Rattle.ln_payment_circuits.proofs.Logs.{uncovered_live_htlcs}
use Rattle.ln_payment_circuits.proofs.Removals.{split_front, removed_once, gone_by}
use Rattle.ln_payment_circuits.proofs.Rising.{IsRising, rising-append, rising-filter, not_found}
use Rattle.ln_payment_circuits.proofs.Held.{AreHeld, held_later, held_filter, held_joins, held_resumes}
use Rattle.ln_payment_circuits.proofs.Waiting.{AreRising, decided_ids, waiting_ids, waiting-append, none_own, new_rise}
use Rattle.ln_payment_circuits.proofs.Waiting.{waiting_same, first_is, map-more, fewer, first_behind}
use Rattle.ln_payment_circuits.proofs.Results.{IsTrue, AreOnce, new_true, new_once, none_new, once-append, once-filter}
use Rattle.ln_channel.specs.Ledger.{most_decided}
use Rattle.std.specs.List.{find, list_any}
use Rattle.std.proofs.lemmas.Bool.{eqb-true, ltb-true, and_parts}
use Rattle.ln_payment_circuits.specs.Snapshot.{IsFitLog}

abbrev pub IsOpenIn : Log → Decision → Type 0
IsOpenIn l d = outcome d.id (take l.first.own l.own) ≡ Live

-- a decision that is kept does something
abbrev pub HasMark : Decision → Type 0
HasMark d = d.mark ≡ mark.None → ⊥

pub record IsTidyLedger (l : Log) (g : Ledger) : Type 0 where
  pub ids : AreRising l.received l.acknowledged.peer g.decisions g.undecided
  pub open_still : All (IsOpenIn l) g.decisions
  pub marks : All HasMark g.decisions
  pub true_results : All (IsTrue l.own (take l.acknowledged.peer l.received)) g.results
  pub once : AreOnce g.results
  pub waits : AreHeld g.decided g.decisions

all_to : {A : Type 0} (P Q : A → Type 0) → ((x : A) → P x → Q x) → (xs : List A) → All P xs → All Q xs
all_to P Q f [] h = tt
all_to P Q f (x ∷ xs) h = (f x h.0, all_to P Q f xs h.1)

all_filter : {A : Type 0} (P : A → Type 0) (f : A → Bool) (xs : List A) → All P xs → All P (filter f xs)
all_filter P f [] h = tt
all_filter P f (x ∷ xs) h = cases (f x) (all_filter P f xs h.1)
  where
    cases : (b : Bool) → All P (filter f xs) → All P (cond b (x ∷ filter f xs) (filter f xs))
    cases true k = (h.0, k)
    cases false k = k

pub all_append : {A : Type 0} (P : A → Type 0) (xs ys : List A) → All P xs → All P ys → All P (xs ++ ys)
all_append P [] ys h k = k
all_append P (x ∷ xs) ys h k = (h.0, all_append P xs ys h.1 k)

-- ---- lists that grow

acked_le : (l : Log) → IsSoundLog l → l.acknowledged.peer ≤ length l.received
acked_le l s =
    let a = s.within.peer_acknowledged in
    let b = s.within.peer_signed in
    let c = s.within.peer_current in
    omega (arith, a, b, c)

first_le : (l : Log) → IsSoundLog l → l.first.own ≤ length l.own
first_le l s =
    let a = s.own_first in
    let b = s.within.own_current in
    let c = s.within.own_acknowledged in
    let d = s.within.own_signed in
    omega (arith, a, b, c, d)

-- the peer's list is the same as far as it is held
same_ids : (l m : Log) (g : Ledger) → m.acknowledged.peer ≡ l.acknowledged.peer
    → take l.acknowledged.peer m.received ≡ take l.acknowledged.peer l.received
    → All (IsBelow l.acknowledged.peer) g.undecided
    → AreRising l.received l.acknowledged.peer g.decisions g.undecided
    → AreRising m.received m.acknowledged.peer g.decisions g.undecided
same_ids l m g count same below h =
    subst (λ n. AreRising m.received n g.decisions g.undecided) (sym count)
    (subst (λ us. IsRising 0 (decided_ids g.decisions ++ waiting_ids m.received g.undecided) (next_id us)) (sym same)
    (subst (λ ws. IsRising 0 (decided_ids g.decisions ++ ws) (next_id (take l.acknowledged.peer l.received)))
    (sym (waiting_same l.acknowledged.peer m.received l.received same g.undecided below)) h))

pub tidy_takes : (l : Log) (g : Ledger) (u : Update) → IsFitLog l g.undecided → IsTidyLedger l g
    → IsTidyLedger (log.after_receive u l) g
tidy_takes l g u f t =
    let front = take-append-le l.acknowledged.peer l.received (u ∷ []) (acked_le l f.sound) in
    record {
      ids = same_ids l (log.after_receive u l) g refl front f.below t.ids;
      open_still = t.open_still;
      marks = t.marks;
      true_results = subst (λ us. All (IsTrue l.own us) g.results) (sym front) t.true_results;
      once = t.once;
      waits = t.waits;
    }

more_forwards : (o : List ℕ × ℕ) (i : ℕ) (own : List Update) (u : Update) → Forwards o (add_with i own)
    → Forwards o (add_with i (own ++ u ∷ []))
more_forwards o i own u h = subst (Forwards o) (sym (add_with-more i own (u ∷ []) (some_of o (add_with i own) h))) h

pub tidy_proposes : (l : Log) (g : Ledger) (u : Update) → IsFitLog l g.undecided → IsTidyLedger l g
    → IsTidyLedger (log.after_propose u l) g
tidy_proposes l g u f t = record {
  ids = t.ids;
  open_still = all_to (IsOpenIn l) (IsOpenIn (log.after_propose u l)) (λ d k.
      ap (outcome d.id) (take-append-le l.first.own l.own (u ∷ []) (first_le l f.sound)) ∙ k) g.decisions t.open_still;
  marks = t.marks;
  true_results = all_to (IsTrue l.own (take l.acknowledged.peer l.received))
      (IsTrue (l.own ++ u ∷ []) (take l.acknowledged.peer l.received)) (λ s k. record {
        forwards = more_forwards s.origin s.id l.own u k.forwards;
        removal = k.removal;
        removes = k.removes;
        id = k.id;
        fate = k.fate;
      }) g.results t.true_results;
  once = t.once;
  waits = t.waits;
}

-- ---- signatures and revocations

pub tidy_accepts : (l : Log) (g : Ledger) (n : ℕ) (us : List Update) → IsTidyLedger l g
    → IsTidyLedger (log.after_accept l) (entered (refs_of true n us) g)
tidy_accepts l g n us t = record {
  ids = subst (λ ws. IsRising 0 (decided_ids g.decisions ++ ws) (next_id (take l.acknowledged.peer l.received)))
      (sym (waiting-append l.received g.undecided (refs_of true n us)
      ∙ ap (λ ws. waiting_ids l.received g.undecided ++ ws) (none_own l.received us n)
      ∙ append-nil (waiting_ids l.received g.undecided))) t.ids;
  open_still = t.open_still;
  marks = t.marks;
  true_results = t.true_results;
  once = t.once;
  waits = t.waits;
}

pub tidy_closes : (l : Log) (g : Ledger) → IsTidyLedger l g → IsTidyLedger l (entered (ref.Close ∷ []) g)
tidy_closes l g t = record {
  ids = subst (λ ws. IsRising 0 (decided_ids g.decisions ++ ws) (next_id (take l.acknowledged.peer l.received)))
      (sym (waiting-append l.received g.undecided (ref.Close ∷ [])
      ∙ append-nil (waiting_ids l.received g.undecided))) t.ids;
  open_still = t.open_still;
  marks = t.marks;
  true_results = t.true_results;
  once = t.once;
  waits = t.waits;
}

-- ---- a decision

pub record Decides (g n : Ledger) (event : ℕ) (m : Mark) (htlc : Option ℕ) : Type 0 where
  pub turn : event ≡ g.decided
  pub few : event < most_decided
  pub own : is_of_event event m ≡ true
  pub undecided : n.undecided ≡ drop 1 g.undecided
  pub results : n.results ≡ g.results
  pub decided : n.decided ≡ g.decided + 1
  pub decisions : ((m ≡ mark.None) × (n.decisions ≡ g.decisions))
      ⊎ ((id : ℕ) × (htlc ≡ Some id) × (n.decisions ≡ g.decisions ++ record { id = id; mark = m } ∷ [])
      × (m ≡ mark.None → ⊥))

abbrev with_one : Ledger → List Decision → Ledger
with_one g ds = record { decided = g.decided + 1; undecided = drop 1 g.undecided; decisions = ds; results = g.results }

in_turn : (event : ℕ) (m : Mark) (htlc : Option ℕ) (g n : Ledger) (ds : List Decision)
    → (is_in_turn event g && is_of_event event m) ≡ true
    → with_one g ds ≡ n
    → ((m ≡ mark.None) × (ds ≡ g.decisions)) ⊎ ((id : ℕ) × (htlc ≡ Some id) ×
    (ds ≡ g.decisions ++ record { id = id; mark = m } ∷ [])
    × (m ≡ mark.None → ⊥))
    → Decides g n event m htlc
in_turn event m htlc g n ds turn is which =
    let all = and_parts (is_in_turn event g) (is_of_event event m) turn in
    let p = and_parts (event == g.decided) (nat_lt event most_decided && nat_lt 0 (length g.undecided)) all.0 in
    let q = and_parts (nat_lt event most_decided) (nat_lt 0 (length g.undecided)) p.1 in
    record {
      turn = eqb-true event g.decided p.0;
      few = ltb-true event most_decided q.0;
      own = all.1;
      undecided = ap (λ (z : Ledger). z.undecided) (sym is);
      results = ap (λ (z : Ledger). z.results) (sym is);
      decided = ap (λ (z : Ledger). z.decided) (sym is);
      decisions = elim which [
        | inl none ↦ inl (none.0, ap (λ (z : Ledger). z.decisions) (sym is) ∙ none.1)
        | inr some ↦ inr (some.0, some.1, ap (λ (z : Ledger). z.decisions) (sym is) ∙ some.2, some.3)
      ];
    }

by_mark : (event : ℕ) (m : Mark) (id : ℕ) (g n : Ledger) → (is_in_turn event g && is_of_event event m) ≡ true
    → (m ≡ mark.None → ⊥)
    → ◌≡◌ {A = Result Ledger Refusal} (Ok (with_one g (g.decisions ++ record { id = id; mark = m } ∷ []))) (Ok n)
    → Decides g n event m (Some id)
by_mark event m id g n turn some is =
    let ds = g.decisions ++ record { id = id; mark = m } ∷ [] in
    in_turn event m (Some id) g n ds turn (let e : with_one g ds ≡ n = cc in e) (inr (id, refl, refl, some))

decides_by : (b : Bool) (event : ℕ) (m : Mark) (htlc : Option ℕ) (g n : Ledger)
    → (is_in_turn event g && is_of_event event m) ≡ b
    → cond b (decided_first (marked m htlc g)) (Err refusal.NotReady) ≡ Ok n → Decides g n event m htlc
decides_by false event m htlc g n turn is = absurd (cc)
decides_by true event mark.None htlc g n turn is =
    in_turn event mark.None htlc g n g.decisions turn (let e : with_one g g.decisions ≡ n = cc in e) (inl (refl, refl))
decides_by true event (mark.Forward channel amount expiry) None g n turn is = absurd (cc)
decides_by true event (mark.Forward channel amount expiry) (Some id) g n turn is =
    by_mark event (mark.Forward channel amount expiry) id g n turn (λ x. absurd (cc)) is
decides_by true event (mark.Fail reason) None g n turn is = absurd (cc)
decides_by true event (mark.Fail reason) (Some id) g n turn is =
    by_mark event (mark.Fail reason) id g n turn (λ x. absurd (cc)) is
decides_by true event (mark.Malformed code) None g n turn is = absurd (cc)
decides_by true event (mark.Malformed code) (Some id) g n turn is =
    by_mark event (mark.Malformed code) id g n turn (λ x. absurd (cc)) is
decides_by true event (mark.Fulfil preimage) None g n turn is = absurd (cc)
decides_by true event (mark.Fulfil preimage) (Some id) g n turn is =
    by_mark event (mark.Fulfil preimage) id g n turn (λ x. absurd (cc)) is
decides_by true event (mark.Held k) None g n turn is = absurd (cc)
decides_by true event (mark.Held k) (Some id) g n turn is =
    by_mark event (mark.Held k) id g n turn (λ x. absurd (cc)) is

pub decides_so : (event : ℕ) (m : Mark) (htlc : Option ℕ) (g n : Ledger) → decide_row event m htlc g ≡ Ok n
    → Decides g n event m htlc
decides_so event m htlc g n is = decides_by (is_in_turn event g && is_of_event event m) event m htlc g n refl is

-- ---- what is held is resumed

pub record Resumes (g n : Ledger) (event : ℕ) (m : Mark) : Type 0 where
  pub answers : is_answer m ≡ true
  pub there : list_any (is_held_at event) g.decisions ≡ true
  pub is : n ≡ record g { decisions = with_mark event m g.decisions }

pub resumes_so : (event : ℕ) (m : Mark) (g n : Ledger) → resume_held_row event m g ≡ Ok n → Resumes g n event m
resumes_so event m g n e = cases (is_answer m) refl (list_any (is_held_at event) g.decisions) refl e
  where
    cases : (a : Bool) → is_answer m ≡ a → (b : Bool) → list_any (is_held_at event) g.decisions ≡ b
        → cond (a && b) (Ok (record g { decisions = with_mark event m g.decisions })) (Err refusal.NotReady) ≡ Ok n
        → Resumes g n event m
    cases true x true y f =
        let is : record g { decisions = with_mark event m g.decisions } ≡ n = cc in
        record { answers = x; there = y; is = sym is }
    cases true x false y f = absurd (cc)
    cases false x b y f = absurd (cc)

same_marked : (event : ℕ) (m : Mark) (ds : List Decision) → decided_ids (with_mark event m ds) ≡ decided_ids ds
same_marked event m [] = refl
same_marked event m (d ∷ ds) = cases (is_held_at event d) (same_marked event m ds)
  where
    cases : (b : Bool) → decided_ids (with_mark event m ds) ≡ decided_ids ds
        → decided_ids (cond b (record { id = d.id; mark = m } ∷ ds) (d ∷ with_mark event m ds)) ≡ d.id ∷ decided_ids ds
    cases true e = refl
    cases false e = ap (λ is. d.id ∷ is) e

all_marked : (P : Decision → Type 0) (event : ℕ) (m : Mark) →
    ((d : Decision) → P d → P (record { id = d.id; mark = m }))
    → (ds : List Decision) → All P ds → All P (with_mark event m ds)
all_marked P event m to [] h = tt
all_marked P event m to (d ∷ ds) h = cases (is_held_at event d) (all_marked P event m to ds h.1)
  where
    cases : (b : Bool) → All P (with_mark event m ds)
        → All P (cond b (record { id = d.id; mark = m } ∷ ds) (d ∷ with_mark event m ds))
    cases true k = (to d h.0, h.1)
    cases false k = (h.0, k)

answer_marks : (m : Mark) → is_answer m ≡ true → m ≡ mark.None → ⊥
answer_marks mark.None e f = absurd (cc)
answer_marks (mark.Forward channel amount expiry) e f = absurd (cc)
answer_marks (mark.Fail reason) e f = absurd (cc)
answer_marks (mark.Malformed code) e f = absurd (cc)
answer_marks (mark.Fulfil preimage) e f = absurd (cc)
answer_marks (mark.Held n) e f = absurd (cc)

-- ---- the base moves on

pub tidy_based : (l : Log) (g : Ledger) (w : Counts) → l.first.own ≤ w.own → IsTidyLedger l g
    → IsTidyLedger (record l { first = w }) (without_removed (between l.first.own w.own l.own) g)
tidy_based l g w before t = record {
  ids = rising-filter (λ d. d.id) (is_open new_base) 0 g.decisions (waiting_ids l.received g.undecided)
      (next_id (take l.acknowledged.peer l.received)) t.ids;
  open_still = cases g.decisions t.open_still;
  marks = all_filter HasMark (is_open new_base) g.decisions t.marks;
  true_results = t.true_results;
  once = t.once;
  waits = held_filter g.decided (is_open new_base) g.decisions t.waits;
}
  where
    new_base : List Update
    new_base = between l.first.own w.own l.own

    whole : take w.own l.own ≡ take l.first.own l.own ++ new_base
    whole = split_front l.first.own w.own l.own before

    one : (d : Decision) → IsOpenIn l d → is_open new_base d ≡ true → IsOpenIn (record l { first = w }) d
    one d k e = ap (outcome d.id) whole ∙ outcome-append d.id (take l.first.own l.own) new_base
        ∙ ap (λ o. cond (is_live o) (outcome d.id new_base) o) k ∙ live_is (outcome d.id new_base) e

    cases : (ds : List Decision) → All (IsOpenIn l) ds
        → All (IsOpenIn (record l { first = w })) (filter (is_open new_base) ds)
    cases [] h = tt
    cases (d ∷ ds) h = each (is_open new_base d) refl (cases ds h.1)
      where
        each : (b : Bool) → is_open new_base d ≡ b
            → All (IsOpenIn (record l { first = w })) (filter (is_open new_base) ds)
            → All (IsOpenIn (record l { first = w })) (cond b (d ∷ filter (is_open new_base) ds)
            (filter (is_open new_base) ds))
        each true e k = (one d h.0 e, k)
        each false e k = k

module _ (l : Log) (g : Ledger) (f : IsFitLog l g.undecided) (t : IsTidyLedger l g) where
  abbrev acked : ℕ
  acked = l.acknowledged.peer

  abbrev new : List Update
  new = peer_since l.acknowledged.peer (log.after_learn l)

  abbrev held : List Update
  held = take l.acknowledged.peer l.received

  later : take l.signed.peer l.received ≡ held ++ new
  later = split_front acked l.signed.peer l.received f.sound.within.peer_acknowledged

  removals : AreRemovals (take l.current.own l.own) held new
  removals = removals-take (take l.current.own l.own) held (drop acked l.received) (l.signed.peer - acked)
      (removals-drop (take l.current.own l.own) [] l.received acked f.sound.peer_removals)

  still_true : (s : Settlement) → IsTrue l.own held s → IsTrue l.own (held ++ new) s
  still_true s k = record {
    forwards = k.forwards;
    removal = k.removal;
    removes = k.removes;
    id = k.id;
    fate = part_tells s.id held new (true_gone s k) ∙ k.fate;
  }
    where
      true_gone : (s : Settlement) → IsTrue l.own held s → is_gone s.id held ≡ true
      true_gone s k = ap (λ o. not (is_live o)) k.fate ∙ gone_by s.removal k.removal k.removes

  gone_of : (s : Settlement) → IsTrue l.own held s → is_gone s.id held ≡ true
  gone_of s k = ap (λ o. not (is_live o)) k.fate ∙ gone_by s.removal k.removal k.removes

  pub tidy_learns : IsTidyLedger (log.after_learn l) (resulted l.own new (entered (refs_of false acked new) g))
  tidy_learns = record {
    ids = subst (λ ws. IsRising 0 (decided_ids g.decisions ++ ws) (next_id (take l.signed.peer l.received)))
        (sym (waiting-append l.received g.undecided (refs_of false acked new)))
        (subst (λ ws. IsRising 0 ws (next_id (take l.signed.peer l.received)))
        (append_assoc (decided_ids g.decisions) (waiting_ids l.received g.undecided)
        (waiting_ids l.received (refs_of false acked new)))
        (subst (λ n. IsRising 0 ((decided_ids g.decisions ++ waiting_ids l.received g.undecided)
        ++ waiting_ids l.received (refs_of false acked new)) n)
        (sym (ap next_id later ∙ next-append held new))
        (rising-append 0 (decided_ids g.decisions ++ waiting_ids l.received g.undecided) (next_id held)
        (waiting_ids l.received (refs_of false acked new)) (next_id held + next_id new) t.ids
        (new_rise l.received new (drop (l.signed.peer - acked) (drop acked l.received)) acked (next_id held)
        (sym (take-append-drop (l.signed.peer - acked) (drop acked l.received)))
        (numbered-take (next_id held) (l.signed.peer - acked) (drop acked l.received)
        (subst (λ n. AreNumbered n (drop acked l.received)) (let e : 0 + next_id held ≡ next_id held = omega arith in e)
        (numbered-drop 0 acked l.received f.peer_ids)))))));
    open_still = t.open_still;
    marks = t.marks;
    true_results = subst (λ us. All (IsTrue l.own us) (g.results ++ settlements l.own new)) (sym later)
        (all_append (IsTrue l.own (held ++ new)) g.results (settlements l.own new)
        (all_to (IsTrue l.own held) (IsTrue l.own (held ++ new)) still_true g.results t.true_results)
        (new_true (take l.current.own l.own) l.own held new removals));
    once = once-append g.results (settlements l.own new) t.once
        (all_to (IsTrue l.own held) (λ s. has_result s.id (settlements l.own new) ≡ false) (λ s k.
        none_new s.id l.own new (removed_once s.id (take l.current.own l.own) held new removals (gone_of s k)))
        g.results t.true_results)
        (new_once (take l.current.own l.own) l.own held new removals);
    waits = t.waits;
  }

  -- ---- a lost connection

  covered_true : (s : Settlement) → IsTrue l.own held s → IsTrue (take l.signed.own l.own) held s
  covered_true s k = record {
    forwards = subst (Forwards s.origin) (front_offers s.id l.signed.own l.own there) k.forwards;
    removal = k.removal;
    removes = k.removes;
    id = k.id;
    fate = k.fate;
  }
    where
      there : is_some (add_with s.id (take l.signed.own l.own)) ≡ true
      there = cases (is_some (add_with s.id (take l.signed.own l.own))) refl
        where
          gone : is_gone s.id held ≡ true
          gone = ap (λ o. not (is_live o)) k.fate ∙ gone_by s.removal k.removal k.removes

          cases : (b : Bool) → is_some (add_with s.id (take l.signed.own l.own)) ≡ b
              → is_some (add_with s.id (take l.signed.own l.own)) ≡ true
          cases true e = e
          cases false e = absurd (let no : false ≡ true =
              sym (ap (λ o. not (is_live o)) (uncovered_live_htlcs l f.sound s.id acked e)) ∙ gone in cc)

  pub tidy_dropped : IsTidyLedger (log.after_drop l) g
  tidy_dropped =
      let a = f.sound.within.peer_acknowledged in
      let b = f.sound.within.peer_signed in
      let c = f.sound.own_first in
      let d = f.sound.within.own_current in
      let e = f.sound.within.own_acknowledged in
      let front = take-take acked l.current.peer l.received (omega (arith, a, b)) in
      record {
        ids = same_ids l (log.after_drop l) g refl front f.below t.ids;
        open_still = all_to (IsOpenIn l) (IsOpenIn (log.after_drop l)) (λ z k.
            ap (outcome z.id) (take-take l.first.own l.signed.own l.own (omega (arith, c, d, e))) ∙ k) g.decisions
            t.open_still;
        marks = t.marks;
        true_results = subst (λ us. All (IsTrue (take l.signed.own l.own) us) g.results) (sym front)
            (all_to (IsTrue l.own held) (IsTrue (take l.signed.own l.own) held) covered_true g.results t.true_results);
        once = t.once;
        waits = t.waits;
      }

  -- ---- a result is forgotten

  pub tidy_forgets : (i : ℕ) → IsTidyLedger l (forgotten i g)
  tidy_forgets i = record {
    ids = t.ids;
    open_still = t.open_still;
    marks = t.marks;
    true_results = all_filter (IsTrue l.own held) (is_not_of i) g.results t.true_results;
    once = once-filter (is_not_of i) g.results t.once;
    waits = t.waits;
  }

  -- ---- a decision

  ids_now : IsRising 0 (decided_ids g.decisions ++ cons_option (first_htlc l g.undecided)
      (waiting_ids l.received (drop 1 g.undecided))) (next_id held)
  ids_now = subst (λ ws. IsRising 0 (decided_ids g.decisions ++ ws) (next_id held))
      (first_is l g.undecided f.from) t.ids

  -- it is of an HTLC of which there was none, and which isn't removed in the base
  pub none_decided : (id : ℕ) → first_htlc l g.undecided ≡ Some id → find (λ d. d.id == id) g.decisions ≡ None
  none_decided id is = not_found (λ d. d.id) 0 g.decisions id (waiting_ids l.received (drop 1 g.undecided))
      (next_id held)
      (subst (λ o. IsRising 0 (decided_ids g.decisions ++ cons_option o (waiting_ids l.received (drop 1 g.undecided)))
      (next_id held)) is ids_now)

  pub none_in_base : (id : ℕ) → first_htlc l g.undecided ≡ Some id → outcome id (take l.first.own l.own) ≡ Live
  none_in_base id is = f.closed id (first_behind l g.undecided id f.peer_ids f.from is)

  pub tidy_decides : (n : Ledger) (event : ℕ) (m : Mark) → Decides g n event m (first_htlc l g.undecided)
      → IsTidyLedger l n
  tidy_decides n event m d = elim d.decisions [
    | inl none ↦ record {
      ids = subst (λ ds. IsRising 0 (decided_ids ds ++ waiting_ids l.received n.undecided) (next_id held)) (sym none.1)
          (subst (λ rs. IsRising 0 (decided_ids g.decisions ++ waiting_ids l.received rs) (next_id held))
          (sym d.undecided)
          (fewer 0 (decided_ids g.decisions) (first_htlc l g.undecided) (waiting_ids l.received (drop 1 g.undecided))
          (next_id held) ids_now));
      open_still = subst (All (IsOpenIn l)) (sym none.1) t.open_still;
      marks = subst (All HasMark) (sym none.1) t.marks;
      true_results = subst (All (IsTrue l.own held)) (sym d.results) t.true_results;
      once = subst AreOnce (sym d.results) t.once;
      waits = waits_with (subst (AreHeld (g.decided + 1)) (sym none.1)
          (held_later g.decided (g.decided + 1) g.decisions (omega arith) t.waits));
    }
    | inr some ↦ record {
      ids = subst (λ ds. IsRising 0 (decided_ids ds ++ waiting_ids l.received n.undecided) (next_id held)) (sym some.2)
          (subst (λ rs. IsRising 0 (decided_ids (g.decisions ++ record { id = some.0; mark = m } ∷ [])
          ++ waiting_ids l.received rs) (next_id held)) (sym d.undecided)
          (subst (λ is. IsRising 0 is (next_id held))
          (sym (map-more g.decisions (record { id = some.0; mark = m }) (waiting_ids l.received (drop 1 g.undecided))))
          (subst (λ o. IsRising 0 (decided_ids g.decisions ++ cons_option o
          (waiting_ids l.received (drop 1 g.undecided)))
          (next_id held)) some.1 ids_now)));
      open_still = subst (All (IsOpenIn l)) (sym some.2)
          (all_append (IsOpenIn l) g.decisions (record { id = some.0; mark = m } ∷ []) t.open_still
          (none_in_base some.0 some.1, tt));
      marks = subst (All HasMark) (sym some.2)
          (all_append HasMark g.decisions (record { id = some.0; mark = m } ∷ []) t.marks (some.3, tt));
      true_results = subst (All (IsTrue l.own held)) (sym d.results) t.true_results;
      once = subst AreOnce (sym d.results) t.once;
      waits = waits_with (subst (AreHeld (g.decided + 1)) (sym some.2)
          (held_joins g.decided g.decisions (record { id = some.0; mark = m })
          (ap (λ k. is_of_event k m) (sym d.turn) ∙ d.own) t.waits));
    }
  ]
    where
      waits_with : AreHeld (g.decided + 1) n.decisions → AreHeld n.decided n.decisions
      waits_with h = subst (λ k. AreHeld k n.decisions) (sym d.decided) h

  -- ---- what is held is resumed

  pub tidy_resumes : (n : Ledger) (event : ℕ) (m : Mark) → Resumes g n event m → IsTidyLedger l n
  tidy_resumes n event m r = subst (IsTidyLedger l) (sym r.is) (record {
    ids = subst (λ is. IsRising 0 (is ++ waiting_ids l.received g.undecided) (next_id held))
        (sym (same_marked event m g.decisions))
        t.ids;
    open_still = all_marked (IsOpenIn l) event m (λ d k. k) g.decisions t.open_still;
    marks = all_marked HasMark event m (λ d k e. answer_marks m r.answers e) g.decisions t.marks;
    true_results = t.true_results;
    once = t.once;
    waits = held_resumes g.decided event m g.decisions r.answers t.waits;
  })
