-- What each change of a log makes of the parts of a payment that it has.
use Rattle.std.proofs.Common.{◌≡◌, ◌⊎◌, inl, inr, ℕ, ◌≤◌, List, [], ◌∷◌, ◌++◌, length, take, refl, sym}
use Rattle.std.proofs.Common.{ap, ◌∙◌, subst, arith, Bool, true, false, not, Option, Some, None}
use Rattle.std.proofs.lemmas.List.{take-take, take-append-le, take_all}
use Rattle.ln_log.specs.declared.update.Add.{Add}
use Rattle.ln_log.specs.declared.update.Update.{Update}
use Rattle.ln_log.specs.declared.update.Update.TheVariants as update
use Rattle.ln_log.specs.declared.mark.Settlement.{Settlement}
use Rattle.ln_log.specs.declared.outcome.Outcome.{Outcome}
use Rattle.ln_log.specs.declared.outcome.Outcome.TheVariants.{Live, Fulfilled, Failed}
use Rattle.ln_log.specs.Updates.{is_some, next_id, add_with, outcome, is_live}
use Rattle.ln_log.specs.Log.{Log, AreNumbered, AreRemovals, RemovesLive, IsWithin}
use Rattle.ln_log.specs.Log as log
use Rattle.ln_log.proofs.Removing.{add_with-append, or_else, above, numbered-take, next-front}
use Rattle.ln_log.proofs.Removing.{untouched}
use Rattle.ln_payment.specs.Parts.{Fulfils, Fails, Stage, Proposed, Signed, Held, NoRemoval, By}
use Rattle.ln_payment.specs.Parts.{Uncovered}
use Rattle.ln_payment.specs.Rebuild.{kept_removal, is_uncovered}
use Rattle.ln_payment.specs.Moves.{after_sign, removal_signed, removal_held}
use Rattle.ln_payment_circuits.specs.Snapshot.{is_gone, IsSoundLog}
use Rattle.ln_payment_circuits.specs.Circuit.{Forwards}
use Rattle.ln_payment_circuits.proofs.Updates.{not_gone, front_tells, front_live, front_gone, front_offers, offers_next}
use Rattle.ln_payment_circuits.proofs.Parts.{HasAdd, ended_by, course_by, has_result, course_of, stage_by, removal_by}
use Rattle.ln_payment_circuits.proofs.Parts.{removal_of}

-- ---- counts

signed_le : (l : Log) → IsWithin l → l.signed.own ≤ length l.own
signed_le l w = w.own_signed

current_le : (l : Log) → IsWithin l → l.current.own ≤ l.signed.own
current_le l w = let a = w.own_current in let b = w.own_acknowledged in omega (arith, a, b)

acked_le : (l : Log) → IsWithin l → l.acknowledged.peer ≤ l.current.peer
acked_le l w = let a = w.peer_acknowledged in let b = w.peer_signed in omega (arith, a, b)

-- ---- a signature

-- what no signature covers, the peer doesn't remove
pub uncovered_live_htlcs : (l : Log) → IsSoundLog l → (i n : ℕ) → is_some (add_with i (take l.signed.own l.own)) ≡ false
    → outcome i (take n l.received) ≡ Live
uncovered_live_htlcs l s i n e =
    front_live i n l.received (untouched i (take l.current.own l.own) [] l.received s.peer_removals
    (none_in (add_with i (take l.current.own l.own)) refl))
  where
    none_in : (o : Option Add) → add_with i (take l.current.own l.own) ≡ o
        → add_with i (take l.current.own l.own) ≡ None
    none_in None is = is
    none_in (Some a) is =
        let part : take l.current.own (take l.signed.own l.own) ≡ take l.current.own l.own =
        take-take l.current.own l.signed.own l.own (current_le l s.within) in
        let there = front_offers i l.current.own (take l.signed.own l.own)
        (ap (λ us. is_some (add_with i us)) part ∙ ap is_some is) in
        absurd (let no : false ≡ true = sym e ∙ ap is_some (there ∙ ap (add_with i) part ∙ is) in cc)

sign_by : (b : Bool) (o : Outcome) (r : Bool) → (b ≡ false → o ≡ Live)
    → course_by true (ended_by o r) ≡ after_sign (course_by b (ended_by o r))
sign_by true Live r h = refl
sign_by true Fulfilled r h = refl
sign_by true Failed r h = refl
sign_by false o r h = ap (λ x. ended_by x r) (h refl)

-- of an add that is there
pub course_signed : (l : Log) (ss : List Settlement) (i : ℕ) → IsSoundLog l → is_some (add_with i l.own) ≡ true
    → course_of i (log.after_sign l) ss ≡ after_sign (course_of i l ss)
course_signed l ss i s there =
    let o = outcome i (take l.acknowledged.peer l.received) in
    ap (λ us. course_by (is_some (add_with i us)) (ended_by o (has_result i ss)))
    (take_all (length l.own) l.own (omega arith))
    ∙ ap (λ b. course_by b (ended_by o (has_result i ss))) there
    ∙ sign_by (is_some (add_with i (take l.signed.own l.own))) o (has_result i ss)
    (uncovered_live_htlcs l s i l.acknowledged.peer)

signed_by : (o : Outcome) (held signed : Bool) → not (is_live o) ≡ true → (held ≡ true → signed ≡ true)
    → removal_by o (stage_by held true) ≡ removal_signed (removal_by o (stage_by held signed))
signed_by Live held signed e h = absurd (cc)
signed_by Fulfilled true signed e h = refl
signed_by Fulfilled false true e h = refl
signed_by Fulfilled false false e h = refl
signed_by Failed true signed e h = refl
signed_by Failed false true e h = refl
signed_by Failed false false e h = refl

pub removal_is_signed : (l : Log) (id : ℕ) → IsWithin l
    → removal_of id (log.after_sign l) ≡ removal_signed (removal_of id l)
removal_is_signed l id w =
    ap (λ us. removal_by (outcome id l.own) (stage_by (is_gone id (take l.current.own l.own)) (is_gone id us)))
    (take_all (length l.own) l.own (omega arith))
    ∙ cases (outcome id l.own) refl
  where
    cases : (o : Outcome) → outcome id l.own ≡ o
        → removal_by (outcome id l.own) (stage_by (is_gone id (take l.current.own l.own)) (is_gone id l.own))
        ≡ removal_signed (removal_of id l)
    cases Live e = ap (λ o. removal_by o (stage_by (is_gone id (take l.current.own l.own)) (is_gone id l.own))) e
        ∙ sym (ap (λ o. removal_signed (removal_by o (stage_by (is_gone id (take l.current.own l.own))
        (is_gone id (take l.signed.own l.own))))) e)
    cases Fulfilled e =
        let gone : is_gone id l.own ≡ true = ap (λ o. not (is_live o)) e in
        ap (λ b. removal_by (outcome id l.own) (stage_by (is_gone id (take l.current.own l.own)) b)) gone
        ∙ signed_by (outcome id l.own) (is_gone id (take l.current.own l.own))
        (is_gone id (take l.signed.own l.own)) gone
        (front_gone id l.current.own l.signed.own l.own (current_le l w))
    cases Failed e =
        let gone : is_gone id l.own ≡ true = ap (λ o. not (is_live o)) e in
        ap (λ b. removal_by (outcome id l.own) (stage_by (is_gone id (take l.current.own l.own)) b)) gone
        ∙ signed_by (outcome id l.own) (is_gone id (take l.current.own l.own))
        (is_gone id (take l.signed.own l.own)) gone
        (front_gone id l.current.own l.signed.own l.own (current_le l w))

-- ---- one more own update

kept_front : (n : ℕ) (us : List Update) (u : Update) → n ≤ length us → take n (us ++ u ∷ []) ≡ take n us
kept_front n us u le = take-append-le n us (u ∷ []) le

-- an add that is there stays, with its course
pub course_proposed : (l : Log) (ss : List Settlement) (i : ℕ) (u : Update) → IsWithin l
    → course_of i (log.after_propose u l) ss ≡ course_of i l ss
course_proposed l ss i u w =
    ap (λ us. course_by (is_some (add_with i us))
    (ended_by (outcome i (take l.acknowledged.peer l.received)) (has_result i ss)))
    (kept_front l.signed.own l.own u (signed_le l w))

forwards_more : (o : List ℕ × ℕ) (x y : Option Add) → Forwards o x → Forwards o (or_else x y)
forwards_more o None y h = absurd h
forwards_more o (Some a) y h = h

forwards_either : (o : List ℕ × ℕ) (x y : Option Add) → Forwards o (or_else x y) → Forwards o x ⊎ Forwards o y
forwards_either o None y h = inr h
forwards_either o (Some a) y h = inl h

pub add_stays : (o : List ℕ × ℕ) (i : ℕ) (l : Log) (u : Update) → HasAdd o i l → HasAdd o i (log.after_propose u l)
add_stays o i l u h = subst (Forwards o) (sym (add_with-append i l.own (u ∷ [])))
    (forwards_more o (add_with i l.own) (add_with i (u ∷ [])) h)

-- it was there, or is what was proposed
pub add_was : (o : List ℕ × ℕ) (i : ℕ) (l : Log) (u : Update) → HasAdd o i (log.after_propose u l)
    → HasAdd o i l ⊎ Forwards o (add_with i (u ∷ []))
add_was o i l u h = forwards_either o (add_with i l.own) (add_with i (u ∷ []))
    (subst (Forwards o) (add_with-append i l.own (u ∷ [])) h)

-- an add with the next id, which no signature covers
none_below : (l : Log) (i : ℕ) → AreNumbered 0 l.own → i ≡ next_id l.own → (n : ℕ)
    → add_with i (take n l.own) ≡ None
none_below l i ids is n =
    let le = next-front n l.own in
    above 0 i (take n l.own) (numbered-take 0 n l.own ids) (omega (arith, le, is))

pub course_new : (l : Log) (ss : List Settlement) (a : Add) → IsSoundLog l → a.id ≡ next_id l.own
    → course_of a.id (log.after_propose (update.Add a) l) ss ≡ Uncovered
course_new l ss a s is =
    course_proposed l ss a.id (update.Add a) s.within
    ∙ ap (λ o. course_by (is_some o) (ended_by (outcome a.id (take l.acknowledged.peer l.received))
    (has_result a.id ss)))
    (none_below l a.id s.own_ids is l.signed.own)

pub add_new : (l : Log) (a : Add) → IsSoundLog l → a.id ≡ next_id l.own
    → add_with a.id (log.after_propose (update.Add a) l).own ≡ Some a
add_new l a s is = offers_next l.own a s.own_ids is

-- no add of this id was there
pub add_wasnt : (o : List ℕ × ℕ) (l : Log) (i : ℕ) → IsSoundLog l → i ≡ next_id l.own → HasAdd o i l → ⊥
add_wasnt o l i s is h =
    subst (Forwards o) (above 0 i l.own s.own_ids (omega (arith, is))) h

-- ---- a removal that is proposed

removal_fronts : (l : Log) (id : ℕ) (u : Update) → IsWithin l
    → removal_of id (log.after_propose u l)
    ≡ removal_by (outcome id (l.own ++ u ∷ []))
    (stage_by (is_gone id (take l.current.own l.own)) (is_gone id (take l.signed.own l.own)))
removal_fronts l id u w =
    let a = current_le l w in
    let b = signed_le l w in
    ap (λ us. removal_by (outcome id (l.own ++ u ∷ []))
    (stage_by (is_gone id us) (is_gone id (take l.signed.own (l.own ++ u ∷ [])))))
    (kept_front l.current.own l.own u (omega (arith, a, b)))
    ∙ ap (λ us. removal_by (outcome id (l.own ++ u ∷ [])) (stage_by (is_gone id (take l.current.own l.own))
    (is_gone id us)))
    (kept_front l.signed.own l.own u b)

-- an update that doesn't change what becomes of it
pub removal_other : (l : Log) (id : ℕ) (u : Update) → IsWithin l → outcome id (l.own ++ u ∷ []) ≡ outcome id l.own
    → removal_of id (log.after_propose u l) ≡ removal_of id l
removal_other l id u w e =
    removal_fronts l id u w
    ∙ ap (λ o. removal_by o (stage_by (is_gone id (take l.current.own l.own)) (is_gone id (take l.signed.own l.own)))) e

-- one that removes it, where it was live
pub removal_new : (l : Log) (id : ℕ) (u : Update) (o : Outcome) → IsWithin l → outcome id l.own ≡ Live
    → outcome id (l.own ++ u ∷ []) ≡ o → removal_of id (log.after_propose u l) ≡ removal_by o Proposed
removal_new l id u o w live e =
    let held : is_gone id (take l.current.own l.own) ≡ false =
    ap (λ x. not (is_live x)) (front_live id l.current.own l.own live) in
    let signed : is_gone id (take l.signed.own l.own) ≡ false =
    ap (λ x. not (is_live x)) (front_live id l.signed.own l.own live) in
    removal_fronts l id u w
    ∙ ap (λ x. removal_by x (stage_by (is_gone id (take l.current.own l.own)) (is_gone id (take l.signed.own l.own)))) e
    ∙ ap (λ b. removal_by o (stage_by b (is_gone id (take l.signed.own l.own)))) held
    ∙ ap (λ b. removal_by o (stage_by false b)) signed

pub no_removal : (l : Log) (id : ℕ) → outcome id l.own ≡ Live → removal_of id l ≡ NoRemoval
no_removal l id e =
    ap (λ o. removal_by o (stage_by (is_gone id (take l.current.own l.own)) (is_gone id (take l.signed.own l.own)))) e

removes_none : (o : Outcome) (s : Stage) → removal_by o s ≡ NoRemoval → o ≡ Live
removes_none Live s e = refl
removes_none Fulfilled s e = absurd (cc)
removes_none Failed s e = absurd (cc)

pub is_not_removed : (l : Log) (id : ℕ) → removal_of id l ≡ NoRemoval → outcome id l.own ≡ Live
is_not_removed l id e = removes_none (outcome id l.own)
    (stage_by (is_gone id (take l.current.own l.own)) (is_gone id (take l.signed.own l.own))) e

-- ---- a signature of the peer's is accepted: the courses stay as they are

held_by : (o : Outcome) (before now signed : Bool) → (before ≡ true → now ≡ true)
    → (removal_by o (stage_by now signed) ≡ removal_by o (stage_by before signed))
    ⊎ (removal_by o (stage_by now signed) ≡ removal_held (removal_by o (stage_by before signed)))
held_by Live before now signed h = inl refl
held_by Fulfilled true now signed h = inl (ap (λ b. By Fulfils (stage_by b signed)) (h refl))
held_by Fulfilled false true signed h = inr refl
held_by Fulfilled false false signed h = inl refl
held_by Failed true now signed h = inl (ap (λ b. By Fails (stage_by b signed)) (h refl))
held_by Failed false true signed h = inr refl
held_by Failed false false signed h = inl refl

-- the removal comes to be held, or is what it was
pub removal_accepted : (l : Log) (id : ℕ) → IsWithin l
    → (removal_of id (log.after_accept l) ≡ removal_of id l)
    ⊎ (removal_of id (log.after_accept l) ≡ removal_held (removal_of id l))
removal_accepted l id w =
    held_by (outcome id l.own) (is_gone id (take l.current.own l.own)) (is_gone id (take l.acknowledged.own l.own))
    (is_gone id (take l.signed.own l.own)) (front_gone id l.current.own l.acknowledged.own l.own w.own_current)

-- ---- a lost connection

-- an add that a signature covers
pub add_covered : (o : List ℕ × ℕ) (i : ℕ) (l : Log) → HasAdd o i (log.after_drop l) → HasAdd o i l
add_covered o i l h = cases (add_with i (take l.signed.own l.own)) refl
  where
    cases : (x : Option Add) → add_with i (take l.signed.own l.own) ≡ x → HasAdd o i l
    cases None e = absurd (subst (Forwards o) e h)
    cases (Some a) e = subst (Forwards o) (sym (front_offers i l.signed.own l.own (ap is_some e))) h

pub add_kept : (o : List ℕ × ℕ) (i : ℕ) (l : Log) → is_some (add_with i (take l.signed.own l.own)) ≡ true
    → HasAdd o i l → HasAdd o i (log.after_drop l)
add_kept o i l e h = subst (Forwards o) (front_offers i l.signed.own l.own e) h

pub add_is_covered : (o : List ℕ × ℕ) (i : ℕ) (l : Log) → HasAdd o i (log.after_drop l)
    → is_some (add_with i (take l.signed.own l.own)) ≡ true
add_is_covered o i l h = cases (add_with i (take l.signed.own l.own)) refl
  where
    cases : (x : Option Add) → add_with i (take l.signed.own l.own) ≡ x
        → is_some (add_with i (take l.signed.own l.own)) ≡ true
    cases None e = absurd (subst (Forwards o) e h)
    cases (Some a) e = ap is_some e

-- its course
pub course_dropped : (l : Log) (ss : List Settlement) (i : ℕ) → IsWithin l
    → course_of i (log.after_drop l) ss ≡ course_of i l ss
course_dropped l ss i w =
    ap (λ us. course_by (is_some (add_with i us))
    (ended_by (outcome i (take l.acknowledged.peer (take l.current.peer l.received))) (has_result i ss)))
    (take-take l.signed.own l.signed.own l.own (omega arith))
    ∙ ap (λ us. course_by (is_some (add_with i (take l.signed.own l.own))) (ended_by (outcome i us) (has_result i ss)))
    (take-take l.acknowledged.peer l.current.peer l.received (acked_le l w))

pub is_covered_so : (l : Log) (ss : List Settlement) (i : ℕ)
    → is_uncovered (course_of i l ss) ≡ not (is_some (add_with i (take l.signed.own l.own)))
is_covered_so l ss i = cases (is_some (add_with i (take l.signed.own l.own)))
    (outcome i (take l.acknowledged.peer l.received))
  where
    cases : (b : Bool) (o : Outcome) → is_uncovered (course_by b (ended_by o (has_result i ss))) ≡ not b
    cases true Live = refl
    cases true Fulfilled = refl
    cases true Failed = refl
    cases false o = refl

dropped_by : (o p : Outcome) (held signed : Bool) → (held ≡ true → signed ≡ true) → (signed ≡ true → p ≡ o)
    → (signed ≡ false → p ≡ Live)
    → removal_by p (stage_by held signed) ≡ kept_removal (removal_by o (stage_by held signed))
dropped_by Live p held true h t f = ap (λ x. removal_by x (stage_by held true)) (t refl)
dropped_by Live p held false h t f = ap (λ x. removal_by x (stage_by held false)) (f refl)
dropped_by Fulfilled p true true h t f = ap (λ x. removal_by x Held) (t refl)
dropped_by Fulfilled p true false h t f = absurd (let no = h refl in cc)
dropped_by Fulfilled p false true h t f = ap (λ x. removal_by x Signed) (t refl)
dropped_by Fulfilled p false false h t f = ap (λ x. removal_by x Proposed) (f refl)
dropped_by Failed p true true h t f = ap (λ x. removal_by x Held) (t refl)
dropped_by Failed p true false h t f = absurd (let no = h refl in cc)
dropped_by Failed p false true h t f = ap (λ x. removal_by x Signed) (t refl)
dropped_by Failed p false false h t f = ap (λ x. removal_by x Proposed) (f refl)

pub removal_dropped : (l : Log) (id : ℕ) → IsWithin l → removal_of id (log.after_drop l) ≡ kept_removal
    (removal_of id l)
removal_dropped l id w =
    let p = outcome id (take l.signed.own l.own) in
    let gone : not (is_live p) ≡ is_gone id (take l.signed.own l.own) = refl in
    ap (λ us. removal_by p (stage_by (is_gone id us) (is_gone id (take l.signed.own (take l.signed.own l.own)))))
    (take-take l.current.own l.signed.own l.own (current_le l w))
    ∙ ap (λ us. removal_by p (stage_by (is_gone id (take l.current.own l.own)) (is_gone id us)))
    (take-take l.signed.own l.signed.own l.own (omega arith))
    ∙ dropped_by (outcome id l.own) p (is_gone id (take l.current.own l.own)) (is_gone id (take l.signed.own l.own))
    (front_gone id l.current.own l.signed.own l.own (current_le l w))
    (λ e. sym (front_tells id l.signed.own l.own e)) (not_gone p)
