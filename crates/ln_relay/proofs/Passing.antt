-- A list that is handed out item by item, and one that is kept.
use Rattle.std.proofs.Common.{◌≡◌, ◌-◌, ◌++◌, ◌∷◌, ℕ, List, [], length, take, sym, ap, refl, ◌∙◌, subst, arith}
use Rattle.std.proofs.Common.{append-nil, length-append}
use Rattle.std.proofs.Math.Seq.{take-append_seam}
use Rattle.ln_relay.specs.Merge.{IsMerge, neither, from_first}
use Rattle.ln_relay.specs.History.{First, Receiver, History, IsInOrder, own}

module _ {T : Type 0} where
  -- what stands in front of the rest
  pub front : (all p rest : List T) → all ≡ p ++ rest → take (length all - length rest) all ≡ p
  front all p rest e =
      let n : length all - length rest ≡ length p = (let l = ap length e ∙ length-append p rest in omega arith) in
      ap (λ k. take k all) n ∙ ap (λ l. take (length p) l) e ∙ take-append_seam p rest

  pub follows : (all p rest : List T) → all ≡ p ++ rest → all ≡ take (length all - length rest) all ++ rest
  follows all p rest e = e ∙ ap (λ q. q ++ rest) (sym (front all p rest e))

  alone : (l : List T) → IsMerge l [] l
  alone [] = neither
  alone (x ∷ l) = from_first x l [] l (alone l)

  -- the history of a relay that one sender filled
  pub filled : (put : List T) (room : ℕ) → length put ≡ room
      → (h : History T) × IsInOrder h × (own First h ≡ put) × (length h.queued ≡ room)
  filled put room e = (record { first = put; second = []; taken = []; queued = put }, alone put, refl, e)

  -- the history of a relay that is empty again
  pub emptied : (taken : List T) → (h : History T) × IsInOrder h × (own Receiver h ≡ taken) × (h.queued ≡ [])
  emptied taken = (
    record { first = taken; second = []; taken = taken; queued = [] },
    subst (λ l. IsMerge taken [] l) (sym (append-nil taken)) (alone taken),
    refl,
    refl,
  )
