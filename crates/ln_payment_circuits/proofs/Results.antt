-- What became of own HTLCs that forward others: each result is of an add that says so, by its removal, and stands once.
use Rattle.std.proofs.Common.{◌≡◌, inl, inr, ℕ, List, [], ◌∷◌, ◌++◌, filter, refl, sym, ap, ◌∙◌, subst}
use Rattle.std.proofs.Common.{Bool, true, false, cond, not, ◌==◌, ◌||◌, Option, Some, None}
use Rattle.std.specs.List.{cons_option}
use Rattle.std.proofs.lemmas.Bool.{eqb-true}
use Rattle.std.proofs.lemmas.List.Folds.{list_any-append}
use Rattle.ln_log.specs.declared.mark.Settlement.{Settlement}
use Rattle.ln_log.specs.declared.outcome.Outcome.{Outcome}
use Rattle.ln_log.specs.declared.outcome.Outcome.TheVariants.{Live}
use Rattle.ln_log.specs.declared.update.Add.{Add}
use Rattle.ln_log.specs.declared.update.Removal.{Removal}
use Rattle.ln_log.specs.declared.update.Update.{Update}
use Rattle.ln_log.specs.Updates.{removed, add_with, outcome, outcome_by, is_live}
use Rattle.ln_log.specs.Log.{AreRemovals}
use Rattle.ln_log.proofs.Removing.{done, IsDone}
use Rattle.ln_channel.specs.Ledger.{origin_of, settlement_from, settlement_of, settlements}
use Rattle.ln_payment_circuits.specs.Snapshot.{is_gone, IsIn, All}
use Rattle.ln_payment_circuits.specs.Circuit.{Forwards}
use Rattle.ln_payment_circuits.proofs.Parts.{has_result}
use Rattle.ln_payment_circuits.proofs.Removals.{removed_once, fate_told, one_removed, gone_by}

-- an add with its id has its origin, and it was removed so by these updates of the peer's
pub record IsTrue (own held : List Update) (s : Settlement) : Type 0 where
  pub forwards : Forwards s.origin (add_with s.id own)
  pub removal : Removal
  pub removes : removed s.removal ≡ Some removal
  pub id : removal.id ≡ s.id
  pub fate : outcome s.id held ≡ removal.outcome

abbrev pub AreOnce : List Settlement → Type 0
AreOnce [] = Unit {0}
AreOnce (s ∷ ss) = (has_result s.id ss ≡ false) × AreOnce ss

-- ---- of updates of the peer's that are newly held

-- where none of them removes the HTLC of this id, none is of it
none_one : (i : ℕ) (own : List Update) (u : Update) (o : Option Removal) (rest : Outcome) (ss : List Settlement)
    → removed u ≡ o → outcome_by i o rest ≡ Live → (rest ≡ Live → has_result i ss ≡ false)
    → has_result i (cons_option (settlement_of own u o) ss) ≡ false
none_one i own u None rest ss is e h = h e
none_one i own u (Some r) rest ss is e h = cases (origin_of (add_with r.id own)) (r.id == i) refl
  where
    cases : (o : Option (List ℕ × ℕ)) (t : Bool) → (r.id == i) ≡ t
        → has_result i (cons_option (settlement_from r.id u o) ss) ≡ false
    cases o true same = absurd (
        let live : is_live r.outcome ≡ true = ap is_live (sym (ap (λ z. cond z r.outcome rest) same) ∙ e) in
        let dead : is_live r.outcome ≡ false = subst IsDone is (done u) in
        let no : true ≡ false = sym live ∙ dead in cc)
    cases None false other = h (sym (ap (λ z. cond z r.outcome rest) other) ∙ e)
    cases (Some o) false other = ap (λ z. z || has_result i ss) other
        ∙ h (sym (ap (λ z. cond z r.outcome rest) other) ∙ e)

pub none_new : (i : ℕ) (own us : List Update) → outcome i us ≡ Live → has_result i (settlements own us) ≡ false
none_new i own [] e = refl
none_new i own (u ∷ us) e =
    none_one i own u (removed u) (outcome i us) (settlements own us) refl e (λ rest. none_new i own us rest)

-- where one does, and it forwards another one, there is one
some_one : (o : List ℕ × ℕ) (i : ℕ) (own : List Update) (u : Update) (w : Option Removal) (rest : Outcome)
    (ss : List Settlement) → Forwards o (add_with i own) → not (is_live (outcome_by i w rest)) ≡ true
    → (not (is_live rest) ≡ true → has_result i ss ≡ true)
    → has_result i (cons_option (settlement_of own u w) ss) ≡ true
some_one o i own u None rest ss f e h = h e
some_one o i own u (Some r) rest ss f e h = cases (r.id == i) refl (origin_of (add_with r.id own)) refl
  where
    from_of : (x : Option Add) → Forwards o x → origin_of x ≡ Some o
    from_of None k = absurd k
    from_of (Some a) k = k

    cases : (t : Bool) → (r.id == i) ≡ t → (z : Option (List ℕ × ℕ)) → origin_of (add_with r.id own) ≡ z
        → has_result i (cons_option (settlement_from r.id u z) ss) ≡ true
    cases true same None is = absurd (let there : origin_of (add_with r.id own) ≡ Some o =
        ap (λ n. origin_of (add_with n own)) (eqb-true r.id i same) ∙ from_of (add_with i own) f in
        let no : None ≡ Some o = sym is ∙ there in cc)
    cases true same (Some z) is = ap (λ t. t || has_result i ss) same
    cases false other None is = h (ap (λ o. not (is_live o)) (sym (ap (λ z. cond z r.outcome rest) other)) ∙ e)
    cases false other (Some z) is = ap (λ t. t || has_result i ss) other
        ∙ h (ap (λ o. not (is_live o)) (sym (ap (λ z. cond z r.outcome rest) other)) ∙ e)

pub some_new : (o : List ℕ × ℕ) (i : ℕ) (own us : List Update) → Forwards o (add_with i own) → is_gone i us ≡ true
    → has_result i (settlements own us) ≡ true
some_new o i own [] f e = absurd (cc)
some_new o i own (u ∷ us) f e =
    some_one o i own u (removed u) (outcome i us) (settlements own us) f e (λ rest. some_new o i own us f rest)

-- ---- they are true, and stand once

true_from : (own held : List Update) (u : Update) (r : Removal) (x : Option Add) → add_with r.id own ≡ x
    → removed u ≡ Some r → outcome r.id held ≡ r.outcome → (z : Option (List ℕ × ℕ)) → origin_of x ≡ z
    → (ss : List Settlement) → All (IsTrue own held) ss → All (IsTrue own held)
    (cons_option (settlement_from r.id u z) ss)
true_from own held u r x is e fate None o ss h = h
true_from own held u r None is e fate (Some z) o ss h = absurd (cc)
true_from own held u r (Some a) is e fate (Some z) o ss h = (
  record {
    forwards = subst (Forwards z) (sym is) o;
    removal = r;
    removes = e;
    id = refl;
    fate = fate;
  },
  h,
)

true_one : (own held : List Update) (u : Update) (w : Option Removal) → removed u ≡ w
    → ((r : Removal) → removed u ≡ Some r → outcome r.id held ≡ r.outcome) → (ss : List Settlement)
    → All (IsTrue own held) ss → All (IsTrue own held) (cons_option (settlement_of own u w) ss)
true_one own held u None e fate ss h = h
true_one own held u (Some r) e fate ss h =
    true_from own held u r (add_with r.id own) refl e (fate r e) (origin_of (add_with r.id own)) refl ss h

true_all : (own held us : List Update) → ((u : Update) (r : Removal) → IsIn u us → removed u ≡ Some r
    → outcome r.id held ≡ r.outcome) → All (IsTrue own held) (settlements own us)
true_all own held [] f = tt
true_all own held (u ∷ us) f =
    true_one own held u (removed u) refl (λ r e. f u r (inl refl) e) (settlements own us)
    (true_all own held us (λ v r k e. f v r (inr k) e))

-- after some updates that are held
pub new_true : (adds own before us : List Update) → AreRemovals adds before us
    → All (IsTrue own (before ++ us)) (settlements own us)
new_true adds own before us h = true_all own (before ++ us) us (λ u r k e. fate_told adds before us u r h k e)

once_one : (own : List Update) (u : Update) (w : Option Removal) (ss : List Settlement)
    → ((r : Removal) → w ≡ Some r → has_result r.id ss ≡ false) → AreOnce ss
    → AreOnce (cons_option (settlement_of own u w) ss)
once_one own u None ss f h = h
once_one own u (Some r) ss f h = cases (origin_of (add_with r.id own))
  where
    cases : (z : Option (List ℕ × ℕ)) → AreOnce (cons_option (settlement_from r.id u z) ss)
    cases None = h
    cases (Some z) = (f r refl, h)

pub new_once : (adds own before us : List Update) → AreRemovals adds before us → AreOnce (settlements own us)
new_once adds own before [] h = tt
new_once adds own before (u ∷ us) h =
    once_one own u (removed u) (settlements own us)
    (λ r e. none_new r.id own us (removed_once r.id adds (before ++ u ∷ []) us h.1
    (ap (λ o. not (is_live o)) (one_removed adds before u r e h.0) ∙ gone_by u r e)))
    (new_once adds own (before ++ u ∷ []) us h.1)

pub once-append : (ss ts : List Settlement) → AreOnce ss → All (λ s. has_result s.id ts ≡ false) ss → AreOnce ts
    → AreOnce (ss ++ ts)
once-append [] ts h a k = k
once-append (s ∷ ss) ts h a k = (
  list_any-append (λ x. x.id == s.id) ss ts ∙ ap (λ b. b || has_result s.id ts) h.0 ∙ a.0,
  once-append ss ts h.1 a.1 k,
)

-- ---- one that is forgotten

pub once-filter : (f : Settlement → Bool) (ss : List Settlement) → AreOnce ss → AreOnce (filter f ss)
once-filter f [] h = tt
once-filter f (s ∷ ss) h = cases (f s) (once-filter f ss h.1)
  where
    less : (zs : List Settlement) → has_result s.id zs ≡ false → has_result s.id (filter f zs) ≡ false
    less [] e = refl
    less (z ∷ zs) e = either (z.id == s.id) (f z) refl (λ k. less zs k)
      where
        either : (a b : Bool) → (z.id == s.id) ≡ a → (has_result s.id zs ≡ false
            → has_result s.id (filter f zs) ≡ false)
            → has_result s.id (cond b (z ∷ filter f zs) (filter f zs)) ≡ false
        either true b is k = absurd (let no : true ≡ false = sym (ap (λ t. t || has_result s.id zs) is) ∙ e in cc)
        either false true is k = ap (λ t. t || has_result s.id (filter f zs)) is
            ∙ k (sym (ap (λ t. t || has_result s.id zs) is) ∙ e)
        either false false is k = k (sym (ap (λ t. t || has_result s.id zs) is) ∙ e)

    cases : (b : Bool) → AreOnce (filter f ss) → AreOnce (cond b (s ∷ filter f ss) (filter f ss))
    cases true k = (less ss h.0, k)
    cases false k = k
