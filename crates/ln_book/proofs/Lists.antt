-- What is read of two lists, one after the other; and of the HTLCs of a channel; and where none is changed.
use Rattle.std.specs.Prelude.{◌≡◌, ℕ, List, [], ◌∷◌, ◌++◌, Option, Some, None}
use Rattle.std.specs.List.{cons_option, find}
use Rattle.std.specs.Prelude.{Bool, true, false, cond, filter, ◌&&◌, is_some, is_none, option_map}
use Rattle.std.proofs.Common.{refl, ap, sym, ◌∙◌}
use Rattle.ln_log.specs.declared.update.Add.{Add}
use Rattle.ln_log.specs.declared.update.Update.{Update}
use Rattle.ln_log.specs.Updates.{offered, add_with}
use Rattle.ln_log.proofs.Removing.{or_else, add_with-append}
use Rattle.ln_book_tables.specs.declared.htlc.Htlc.{Htlc}
use Rattle.ln_book_tables.specs.Replay.{same, changed_first}
use Rattle.ln_book_tables.specs.Ids.{ids_in}
use Rattle.ln_book.specs.Kept.{kept_ids}
use Rattle.ln_book.specs.declared.recovery.leg.Leg.{Leg}
use Rattle.ln_book.specs.Rebuild.{leg_of, legs_offered}

cons_append : (o : Option Leg) (xs ys : List Leg) → cons_option o (xs ++ ys) ≡ cons_option o xs ++ ys
cons_append None xs ys = refl
cons_append (Some x) xs ys = refl

pub legs_append : (c : List ℕ) (p q : List Update) → legs_offered c (p ++ q) ≡ legs_offered c p ++ legs_offered c q
legs_append c [] q = refl
legs_append c (u ∷ us) q = ap (cons_option (leg_of c (offered u))) (legs_append c us q)
    ∙ cons_append (leg_of c (offered u)) (legs_offered c us) (legs_offered c q)

-- an HTLC is found in the first list, or else in the other
pub found_before : (id : ℕ) (p q : List Update) (a : Add) → add_with id p ≡ Some a → add_with id (p ++ q) ≡ Some a
found_before id p q a e = add_with-append id p q ∙ ap (λ o. or_else o (add_with id q)) e

pub found_behind : (id : ℕ) (p q : List Update) → add_with id p ≡ None → add_with id (p ++ q) ≡ add_with id q
found_behind id p q e = add_with-append id p q ∙ ap (λ o. or_else o (add_with id q)) e

among_by : (b c : Bool) (id : ℕ) (xs ys : List ℕ) (removes : ℕ → Bool) → removes id ≡ c → xs ≡ filter removes ys
    → cond (b && c) (id ∷ xs) xs ≡ filter removes (cond b (id ∷ ys) ys)
among_by true true id xs ys removes is e =
    ap (λ zs. id ∷ zs) e ∙ sym (ap (λ d. cond d (id ∷ filter removes ys) (filter removes ys)) is)
among_by true false id xs ys removes is e =
    e ∙ sym (ap (λ d. cond d (id ∷ filter removes ys) (filter removes ys)) is)
among_by false c id xs ys removes is e = e

-- of the ids of the channel's HTLCs those of which a removal was kept
pub kept_among : (removes : ℕ → Bool) (c : List ℕ) (hs : List Htlc)
    → kept_ids removes c hs ≡ filter removes (ids_in c hs)
kept_among removes c [] = refl
kept_among removes c (h ∷ hs) =
    among_by (same c h.key.channel) (removes h.key.id) h.key.id (kept_ids removes c hs) (ids_in c hs) removes refl
    (kept_among removes c hs)

unchanged_by : {A : Type 0} (b : Bool) (p : A → Bool) (f : A → A) (x : A) (xs : List A)
    → is_none (cond b (Some x) (find p xs)) ≡ true → (is_none (find p xs) ≡ true → changed_first p f xs ≡ xs)
    → cond b (f x ∷ xs) (x ∷ changed_first p f xs) ≡ x ∷ xs
unchanged_by true p f x xs none rest = absurd (cc)
unchanged_by false p f x xs none rest = ap (λ ys. x ∷ ys) (rest none)

-- where none is found, none is changed
pub none_changed : {A : Type 0} (p : A → Bool) (f : A → A) (xs : List A) → is_none (find p xs) ≡ true
    → changed_first p f xs ≡ xs
none_changed p f [] none = refl
none_changed p f (x ∷ xs) none = unchanged_by (p x) p f x xs none (none_changed p f xs)

pub some_shown : {A B : Type 0} (f : A → B) (o : Option A) → is_some (option_map f o) ≡ is_some o
some_shown f None = refl
some_shown f (Some x) = refl
