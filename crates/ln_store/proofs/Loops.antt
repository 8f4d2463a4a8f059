-- Reading and writing values one after the other, as a loop does.
use Rattle.std.proofs.Common.{◌≡◌, ◌⊎◌, ℕ, suc, ◌-◌, ◌+◌, ◌≤◌, ◌<◌, List, [], ◌∷◌, ◌++◌, Option, Some, None, refl, sym}
use Rattle.std.proofs.Common.{ap, ◌∙◌, append_assoc, arith, inl, inr}
use Rattle.std.proofs.lemmas.List.{append-nil}
use Rattle.ln_refusals.specs.declared.refusal.Refusal.{Refusal}
use Rattle.ln_refusals.specs.declared.refusal.Refusal.TheVariants.{Memory, Damaged}
use Rattle.ln_store.specs.Format.{Format, ◌>>=◌, items_at}

-- what was read before, and what is still read
abbrev pub with_front : {A : Type 0} → List A → Option (List A × List ℕ) → Option (List A × List ℕ)
with_front front read = read >>= λ x. Some (front ++ x.0, x.1)

regroup : {A : Type 0} (front : List A) (item : A) (read : Option (List A × List ℕ))
    → with_front front (read >>= λ x. Some (item ∷ x.0, x.1)) ≡ with_front (front ++ item ∷ []) read
regroup {A = A} front item (Some x) = ap (λ (items : List A). Some (items, x.1)) (simp append_assoc)
regroup front item None = refl

pub starts : {A : Type 0} (read : Option (List A × List ℕ)) → with_front [] read ≡ read
starts (Some x) = refl
starts None = refl

pub goes_on : {A : Type 0} (f : Format A) (front : List A) (count i : ℕ) (bytes : List ℕ) (item : A) (after : List ℕ)
    (total : Option (List A × List ℕ)) → i < count → f.at bytes ≡ Some (item, after)
    → with_front front (items_at f (count - i) bytes) ≡ total
    → with_front (front ++ item ∷ []) (items_at f (count - (i + 1)) after) ≡ total
unfolding items_at
goes_on f front count i bytes item after total lt h so_far =
    let k : count - i ≡ suc (count - (i + 1)) = omega arith in
    let one : with_front front (items_at f (count - i) bytes)
    ≡ with_front (front ++ item ∷ []) (items_at f (count - (i + 1)) after) =
    rw (k, h) (regroup front item (items_at f (count - (i + 1)) after)) in
    sym one ∙ so_far

pub ends : {A : Type 0} (f : Format A) (e : Refusal) (front : List A) (count i : ℕ) (bytes : List ℕ)
    (total : Option (List A × List ℕ)) → i < count → (e ≡ Memory) ⊎ ((e ≡ Damaged) × (f.at bytes ≡ None))
    → with_front front (items_at f (count - i) bytes) ≡ total → (e ≡ Memory) ⊎ ((e ≡ Damaged) × (total ≡ None))
unfolding items_at
ends f e front count i bytes total lt (inl memory) so_far = inl memory
ends f e front count i bytes total lt (inr is) so_far =
    let k : count - i ≡ suc (count - (i + 1)) = omega arith in
    let one : with_front front (items_at f (count - i) bytes) ≡ None = rw (k, is.1) refl in
    inr (is.0, sym so_far ∙ one)

pub is_done : {A : Type 0} (f : Format A) (front : List A) (count i : ℕ) (bytes : List ℕ)
    (total : Option (List A × List ℕ)) → count ≤ i → with_front front (items_at f (count - i) bytes) ≡ total
    → total ≡ Some (front, bytes)
unfolding items_at
is_done {A = A} f front count i bytes total le so_far =
    let k : count - i ≡ 0 = omega arith in
    let one : with_front front (items_at f (count - i) bytes) ≡ Some (front, bytes) =
    rw k (ap (λ (items : List A). Some (items, bytes)) (append-nil front)) in
    sym so_far ∙ one
