-- What a load makes of the channels, record by record.
use Rattle.std.proofs.Common.{◌≡◌, ◌⊎◌, List, [], ◌∷◌, length, Some, None, Ok, Err, inl, inr, OnOk, IfErr, refl, arith}
use Rattle.std.specs.Prelude.{Result}
use Rattle.ln_refusals.specs.declared.refusal.Refusal.{Refusal}
use Rattle.ln_refusals.specs.declared.refusal.Refusal.TheVariants as refusal
use Rattle.ln_channel.specs.State.{State}
use Rattle.ln_manager_channels.specs.declared.saved.Saved.{Saved}
use Rattle.ln_manager_channels.specs.Loading.{Seats, ComesBack, seat_fault, link_id, seated, SeatsOne, LacksOne}
use Rattle.ln_manager_channels.specs.Loading.{SeatsAll, LacksSome}

module _ {K : Type 0} (x : Saved K) (l : State K) (p q : Seats K) (back : ComesBack x (Ok l)) where
  pub one_seated : (r : Result (Unit {0}) Refusal) → OnOk r (seat_fault (link_id l) p.numbers ≡ None)
      → OnOk r (q ≡ seated l p) → OnOk r (SeatsOne x p q)
  one_seated (Ok u) may is = (l, back, may, is)
  one_seated (Err e) may is = tt

  pub one_lacks : (r : Result (Unit {0}) Refusal)
      → IfErr r (λ e. (e ≡ refusal.Memory) ⊎ (seat_fault (link_id l) p.numbers ≡ Some e))
      → IfErr r (λ e. (e ≡ refusal.Memory) ⊎ LacksOne x p e)
  one_lacks (Ok u) h = tt
  one_lacks (Err e) (inl memory) = inl memory
  one_lacks (Err e) (inr fault) = inr (inr (l, back, fault))

module _ {K : Type 0} (x : Saved K) (xs : List (Saved K)) (p m : Seats K) (one : SeatsOne x p m) where
  -- what comes after it comes after all before it
  pub next_seats : (q : Seats K) → SeatsAll xs m q → SeatsAll (x ∷ xs) p q
  next_seats q all = (m, one, all)

  pub next_lacks : (e : Refusal) → LacksSome xs m e → LacksSome (x ∷ xs) p e
  next_lacks e lacks = inr (m, one, lacks)

pub lacks_first : {K : Type 0} (x : Saved K) (xs : List (Saved K)) (p : Seats K) (e : Refusal) (All : Type 0)
    → (LacksSome (x ∷ xs) p e → All) → (e ≡ refusal.Memory) ⊎ LacksOne x p e → (e ≡ refusal.Memory) ⊎ All
lacks_first x xs p e All all (inl memory) = inl memory
lacks_first x xs p e All all (inr one) = inr (all (inl one))

pub none_left : {A : Type 0} (xs : List A) → length xs ≡ 0 → xs ≡ []
none_left [] e = refl
none_left (x ∷ xs) e = absurd (omega (arith, e))
