-- The number of an id, once one was given.
use Rattle.std.proofs.Common.{◌≡◌, ℕ, List, [], ◌∷◌, refl, sym, ap, ◌∙◌, Bool, true, false, cond, Some, None}
use Rattle.std.proofs.Common.{Ordering, Less, Equal, Greater}
use Rattle.std.specs.BTreeMap.{is_at}
use Rattle.std.specs.Cmp.Lexicographic.{slice_cmp}
use Rattle.std.specs.Ordering.{nat_cmp, is_eq, match_ordering}
use Rattle.std.proofs.lemmas.Map.Text.{is_eq-slice_cmp}
use Rattle.std.proofs.lemmas.Slice.Eq.{bytes_eq-Decides}
use Rattle.ln_manager_channels.specs.Numbers.{NumbersById, number_at, numbered}

abbrev finds : List ℕ → List ℕ → Bool
finds a b = is_at (slice_cmp nat_cmp a) b

finds_own : (a : List ℕ) → finds a a ≡ true
finds_own a = is_eq-slice_cmp a a ∙ (bytes_eq-Decides a a).1 refl

found_is : (a b : List ℕ) → finds a b ≡ true → a ≡ b
found_is a b is = (bytes_eq-Decides a b).0 (sym (is_eq-slice_cmp a b) ∙ is)

finds_no_other : (a b : List ℕ) → (a ≡ b → ⊥) → finds a b ≡ false
finds_no_other a b apart = cases (finds a b) refl
  where
    cases : (x : Bool) → finds a b ≡ x → finds a b ≡ false
    cases true is = absurd (apart (found_is a b is))
    cases false is = is

pub has_number : (id : List ℕ) (n : ℕ) (by_id : NumbersById) → number_at id (numbered id n by_id) ≡ Some n
has_number id n [] = ap (λ b. cond b (Some n) None) (finds_own id)
has_number id n (e ∷ es) = cases (slice_cmp nat_cmp id e.0) refl (has_number id n es)
  where
    cases : (o : Ordering) → slice_cmp nat_cmp id e.0 ≡ o → number_at id (numbered id n es) ≡ Some n
        → number_at id (match_ordering o ((id, n) ∷ e ∷ es) ((e.0, n) ∷ es) (e ∷ numbered id n es)) ≡ Some n
    cases Less is rest = ap (λ b. cond b (Some n) (number_at id (e ∷ es))) (finds_own id)
    cases Equal is rest = ap (λ o. cond (is_eq o) (Some n) (number_at id es)) is
    cases Greater is rest = ap (λ o. cond (is_eq o) (Some e.1) (number_at id (numbered id n es))) is ∙ rest

pub others_number : (id q : List ℕ) → (q ≡ id → ⊥) → (n : ℕ) (by_id : NumbersById)
    → number_at q (numbered id n by_id) ≡ number_at q by_id
others_number id q apart n [] = ap (λ b. cond b (Some n) None) (finds_no_other q id apart)
others_number id q apart n (e ∷ es) = cases (slice_cmp nat_cmp id e.0) refl (others_number id q apart n es)
  where
    cases : (o : Ordering) → slice_cmp nat_cmp id e.0 ≡ o
        → number_at q (numbered id n es) ≡ number_at q es
        → number_at q (match_ordering o ((id, n) ∷ e ∷ es) ((e.0, n) ∷ es) (e ∷ numbered id n es))
        ≡ number_at q (e ∷ es)
    cases Less is rest = ap (λ b. cond b (Some n) (number_at q (e ∷ es))) (finds_no_other q id apart)
    cases Equal is rest =
        let other : finds q e.0 ≡ false =
        finds_no_other q e.0 (λ same. apart (same ∙ sym (found_is id e.0 (ap is_eq is)))) in
        ap (λ b. cond b (Some n) (number_at q es)) other ∙ sym (ap (λ b. cond b (Some e.1) (number_at q es)) other)
    cases Greater is rest = ap (cond (finds q e.0) (Some e.1)) rest
