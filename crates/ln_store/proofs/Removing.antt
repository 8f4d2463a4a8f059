-- Removals of HTLCs that are there.
use Rattle.std.proofs.Common.{◌≡◌, ◌≤◌, ◌<◌, ℕ, ◌+◌, List, [], ◌∷◌, ◌++◌, refl, sym, ap, ◌∙◌, arith, inl, inr, Bool}
use Rattle.std.proofs.Common.{true, false, cond, not, ◌&&◌, ◌||◌, nat_le, nat_lt, Option, Some, None, take, drop}
use Rattle.std.proofs.Common.{subst, eqb, ◌≢◌, length, get_or, zero, suc, drop-cons, Ordering, Less, Equal, Greater}
use Rattle.std.proofs.lemmas.Bool.{and_parts, and_from, eqb-true, leb-true, ltb-true, leb-false, ltb-false}
use Rattle.std.proofs.Math.Seq.{take-suc}
use Rattle.std.proofs.lemmas.List.{drop_all}
use Rattle.std.proofs.lemmas.Bool.Decides.{eqb_tells}
use Rattle.std.proofs.lemmas.Map.Lookups.{exact_unsigned}
use Rattle.std.specs.Cmp.{nat_cmp_is}
use Rattle.std.specs.List.{list_any}
use Rattle.std.specs.Ordering.{nat_cmp, is_eq}
use Rattle.std.specs.BTreeMap.{is_at}
use Rattle.std.specs.BTreeSet.{BTreeSet, contains}
use Rattle.ln_keys.specs.declared.role.Role.{Role}
use Rattle.ln_keys.specs.Role.{other_role}
use Rattle.ln_log.specs.declared.update.Add.{Add}
use Rattle.ln_log.specs.declared.update.Removal.{Removal}
use Rattle.ln_log.specs.declared.update.Update.{Update}
use Rattle.ln_log.specs.declared.outcome.Outcome.{Outcome}
use Rattle.ln_log.specs.declared.outcome.Outcome.TheVariants.{Live, Fulfilled, Failed}
use Rattle.ln_log.specs.Updates.{offered, removed, add_with, outcome, is_live, is_some, next_id}
use Rattle.ln_log.specs.Log.{HasId, AreNumbered, RemovesLive, AreRemovals, number_after}
use Rattle.ln_log.proofs.Removing.{above, below, IsDone, done, outcome-append, outcome-none, outcome-other}
use Rattle.ln_log.proofs.Removing.{outcome-hit}
use Rattle.ln_log.proofs.Readable.{found_within}
use Rattle.ln_store.specs.declared.record.LiveHtlc.{LiveHtlc}
use Rattle.ln_store.specs.declared.record.Updates.{Updates}
use Rattle.ln_store.specs.Readable.{is_in_window}
use Rattle.ln_store.specs.Removals.{removes_there, are_removals, is_htlc, is_there, AreRemoved}
use Rattle.ln_store.specs.Sides.{window_of}
use Rattle.ln_store.specs.Window.{has_id, are_numbered, removals_fit}

-- ---- ids

has_so : (n : ℕ) (a : Option Add) → has_id n a ≡ true → HasId n a
has_so n None h = tt
has_so n (Some a) h = eqb-true a.id n h

numbered_so : (n : ℕ) (us : List Update) → are_numbered n us ≡ true → AreNumbered n us
numbered_so n [] h = tt
numbered_so n (u ∷ us) h =
    let p = and_parts _ _ h in
    (has_so n (offered u) p.0, numbered_so (number_after n (offered u)) us p.1)

within : (n id : ℕ) (us : List Update) (a b : Bool) → nat_le n id ≡ a → nat_lt id (n + next_id us) ≡ b
    → AreNumbered n us → (a && b) ≡ is_some (add_with id us)
within n id us true true p q h =
    sym (found_within n id us h (leb-true n id p) (ltb-true id (n + next_id us) q))
within n id us true false p q h =
    ap is_some (sym (above n id us h (ltb-false id (n + next_id us) q)))
within n id us false b p q h = ap is_some (sym (below n id us h (leb-false n id p)))

-- an id is that of an HTLC which numbered ones offer exactly where it is one of as many
pub added_so : (n k id : ℕ) (us : List Update) → are_numbered n us ≡ true → k ≡ next_id us
    → is_in_window n k id ≡ is_some (add_with id us)
added_so n k id us h e =
    ap (λ m. is_in_window n m id) e ∙ within n id us _ _ refl refl (numbered_so n us h)

-- of numbered ones the first are numbered
pub first_numbered : (k n : ℕ) (us : List Update) → are_numbered n us ≡ true → are_numbered n (take k us) ≡ true
first_numbered zero n us h = refl
first_numbered (suc k) n [] h = refl
first_numbered (suc k) n (u ∷ us) h =
    let p = and_parts _ _ h in
    and_from _ _ p.0 (first_numbered k (number_after n (offered u)) us p.1)

-- where so many have the ids from this one on, an HTLC is one of these or stands in the base
pub held : (side : Role) (live : List LiveHtlc) (first k id : ℕ) (a : Bool) (adds : List Update)
    → are_numbered first adds ≡ true → k ≡ next_id adds → a ≡ is_in_window first k id
    → (a || list_any (is_htlc side id) live) ≡ is_there side live adds id
held side live first k id a adds h e is =
    ap (λ b. b || list_any (is_htlc side id) live) (is ∙ added_so first k id adds h e)

-- ---- the ids of what was removed

at_same : (a b : ℕ) → a ≡ b → is_eq (nat_cmp a b) ≡ true
at_same a b e = ap is_eq (sym (nat_cmp_is a b Equal e))

not_equal : (o : Ordering) → (o ≡ Equal → ⊥) → is_eq o ≡ false
not_equal Less h = refl
not_equal Equal h = absurd (h refl)
not_equal Greater h = refl

at_other : (a b : ℕ) → a ≢ b → is_eq (nat_cmp a b) ≡ false
at_other a b h = not_equal (nat_cmp a b) (λ e. h (exact_unsigned a b e))

pub no_keys : (s : BTreeSet ℕ) → s.keys ≡ [] → AreRemoved s []
no_keys s e id = ap (list_any (is_at (nat_cmp id))) e

pub noted_none : (s : BTreeSet ℕ) (us : List Update) (u : Update) → removed u ≡ None → AreRemoved s us
    → AreRemoved s (us ++ u ∷ [])
noted_none s us u e h id = h id ∙ ap (λ o. not (is_live o)) (sym (outcome-none id us u e))

live_is : (o : Outcome) → is_live o ≡ true → o ≡ Live
live_is Live e = refl
live_is Fulfilled e = absurd (cc)
live_is Failed e = absurd (cc)

-- after an update that removes it an HTLC isn't live
gone_by : (id : ℕ) (us : List Update) (u : Update) (r : Removal) → removed u ≡ Some r → eqb r.id id ≡ true
    → (b : Bool) → is_live (outcome id us) ≡ b → is_live (outcome id (us ++ u ∷ [])) ≡ false
gone_by id us u r e same true live =
    ap is_live (outcome-hit id us u r e same (live_is (outcome id us) live)) ∙ subst IsDone e (done u)
gone_by id us u r e same false dead =
    ap is_live (outcome-append id us (u ∷ []) ∙ ap (λ b. cond b (outcome id (u ∷ [])) (outcome id us)) dead) ∙ dead

-- with the id of what an update removes they are those of one more
pub noted : (s n : BTreeSet ℕ) (us : List Update) (u : Update) (r : Removal) → removed u ≡ Some r
    → ((id : ℕ) → contains nat_cmp n id ≡ cond (is_at (nat_cmp r.id) id) true (contains nat_cmp s id))
    → AreRemoved s us → AreRemoved n (us ++ u ∷ [])
noted s n us u r e put h id =
    elim (eqb_tells r.id id) [
      | inl g ↦
          put id ∙ ap (λ b. cond b true (contains nat_cmp s id)) (at_same r.id id g.1)
          ∙ ap not (sym (gone_by id us u r e g.0 (is_live (outcome id us)) refl))
      | inr g ↦
          put id ∙ ap (λ b. cond b true (contains nat_cmp s id)) (at_other r.id id g.1) ∙ h id
          ∙ ap (λ o. not (is_live o)) (sym (outcome-other id us u r e g.0))
    ]

-- ---- one update after the other

pub begins : (x side : Role) (u : Updates) (us : List Update) → x ≡ other_role side → us ≡ window_of side u.window
    → are_removals (is_there x u.base.live (window_of x u.window)) [] us ≡ removals_fit side u
begins x side u us e f =
    ap (are_removals (is_there x u.base.live (window_of x u.window)) []) f
    ∙ ap (λ r. are_removals (is_there r u.base.live (window_of r u.window)) [] (window_of side u.window)) e

pub joined : (us : List Update) (i : ℕ) (u : Update) → u ≡ get_or us i u → i < length us
    → take (i + 1) us ≡ take i us ++ u ∷ []
joined us i u e lt =
    let next : i + 1 ≡ suc i = omega arith in
    ap (λ k. take k us) next ∙ take-suc us i u lt ∙ ap (λ x. take i us ++ x ∷ []) (sym e)

split : (us : List Update) (i : ℕ) (u : Update) → u ≡ get_or us i u → i < length us → drop i us ≡ u ∷ drop (i + 1) us
split us i u e lt =
    let next : suc i ≡ i + 1 = omega arith in
    drop-cons us i u lt ∙ ap (λ x. x ∷ drop (suc i) us) (sym e) ∙ ap (λ k. u ∷ drop k us) next

one_of : (there : ℕ → Bool) (us : List Update) (i : ℕ) (u : Update) → u ≡ get_or us i u → i < length us
    → are_removals there (take i us) (drop i us)
    ≡ (removes_there there (take i us) (removed u) && are_removals there (take i us ++ u ∷ []) (drop (i + 1) us))
one_of there us i u e lt = ap (are_removals there (take i us)) (split us i u e lt)

-- one that is none of these ends them
pub ends_them : (there : ℕ → Bool) (us : List Update) (i : ℕ) (u : Update) (all : Bool) → u ≡ get_or us i u
    → i < length us → removes_there there (take i us) (removed u) ≡ false
    → are_removals there (take i us) (drop i us) ≡ all → false ≡ all
ends_them there us i u all e lt isnt h =
    sym (one_of there us i u e lt
    ∙ ap (λ b. b && are_removals there (take i us ++ u ∷ []) (drop (i + 1) us)) isnt) ∙ h

-- one that is one of these leaves it to the others
pub goes_on : (there : ℕ → Bool) (us : List Update) (i : ℕ) (u : Update) (all : Bool) → u ≡ get_or us i u
    → i < length us → removes_there there (take i us) (removed u) ≡ true
    → are_removals there (take i us) (drop i us) ≡ all
    → are_removals there (take (i + 1) us) (drop (i + 1) us) ≡ all
goes_on there us i u all e lt is h =
    ap (λ p. are_removals there p (drop (i + 1) us)) (joined us i u e lt)
    ∙ sym (one_of there us i u e lt
    ∙ ap (λ b. b && are_removals there (take i us ++ u ∷ []) (drop (i + 1) us)) is) ∙ h

pub is_done : (there : ℕ → Bool) (us : List Update) (i : ℕ) (all : Bool) → length us ≤ i
    → are_removals there (take i us) (drop i us) ≡ all → true ≡ all
is_done there us i all le h = sym (ap (are_removals there (take i us)) (drop_all i us le)) ∙ h

-- ---- what a log was made of

removes_so : (there : ℕ → Bool) (adds before : List Update) (r : Option Removal)
    → ((id : ℕ) → is_some (add_with id adds) ≡ true → there id ≡ true) → RemovesLive adds before r
    → removes_there there before r ≡ true
removes_so there adds before None f h = refl
removes_so there adds before (Some r) f h = and_from _ _ (f r.id h.0) (ap is_live h.1)

-- updates that remove HTLCs of these, each once, are removals of HTLCs that are there
pub removals_so : (there : ℕ → Bool) (adds before us : List Update)
    → ((id : ℕ) → is_some (add_with id adds) ≡ true → there id ≡ true) → AreRemovals adds before us
    → are_removals there before us ≡ true
removals_so there adds before [] f h = refl
removals_so there adds before (u ∷ us) f h =
    and_from _ _ (removes_so there adds before (removed u) f h.0) (removals_so there adds (before ++ u ∷ []) us f h.1)

or_so : (a b : Bool) → a ≡ true → (a || b) ≡ true
or_so true b h = refl
or_so false b h = absurd (cc)

-- so what a log can be made of fits, as a record tells it
pub removals_of : (side : Role) (u : Updates)
    → AreRemovals (window_of (other_role side) u.window) [] (window_of side u.window) → removals_fit side u ≡ true
removals_of side u h = removals_so (is_there (other_role side) u.base.live (window_of (other_role side) u.window))
    (window_of (other_role side) u.window) [] (window_of side u.window) (λ id e. or_so _ _ e) h
