-- What a call makes of the item at a place.
use Rattle.std.proofs.Common.{◌≡◌, ℕ, ◌<◌, ◌≤◌, List, length, get_or, slice_set, Err, refl, sym, subst}
use Rattle.std.specs.Prelude.{Result}
use Rattle.std.proofs.lemmas.Option.{slice_get_read, slice_get_past}
use Rattle.ln_refusals.specs.declared.refusal.Refusal.{Refusal}
use Rattle.ln_refusals.specs.declared.refusal.Refusal.TheVariants as refusal
use Rattle.ln_keys.specs.Signer.{Signer}
use Rattle.ln_channel.specs.declared.command.Command.{Command}
use Rattle.ln_channel.specs.State.{State, halts}
use Rattle.ln_manager_channels.specs.declared.newest.Newest.{Newest}
use Rattle.ln_manager_channels.specs.Places.{changed_at, AnswersBy, AnswersAt, AnswersBesideBy, AnswersBeside}
use Rattle.ln_manager_channels.specs.Moves.{Answer, ObeysAt, ObeysBy, ObeysOver}

module _ {X V : Type 0} (c : ℕ) (Calls : X → X → Result V Refusal → Type 0) (xs : List X) where
  pub answers_past : length xs ≤ c → AnswersAt c Calls (Err refusal.NotReady) xs xs
  unfolding AnswersAt
  answers_past past =
      subst (λ o. AnswersBy c Calls o (Err refusal.NotReady) xs xs) (sym (slice_get_past xs c past)) (refl, refl)

  pub answers_at : (x y : X) (answer : Result V Refusal) → c < length xs → x ≡ get_or xs c x → Calls x y answer
      → AnswersAt c Calls answer xs (slice_set xs c y)
  unfolding AnswersAt
  answers_at x y answer within is called =
      subst (λ o. AnswersBy c Calls o answer xs (slice_set xs c y))
      (sym (slice_get_read xs (length xs) c x refl within is)) (y, refl, called)

module _ {X S V : Type 0} (c : ℕ) (Calls : X → X → S → S → Result V Refusal → Type 0) (xs : List X) where
  pub beside_past : (s : S) → length xs ≤ c → AnswersBeside c Calls (Err refusal.NotReady) xs xs s s
  beside_past s past = subst (λ o. AnswersBesideBy c Calls o (Err refusal.NotReady) xs xs s s)
      (sym (slice_get_past xs c past)) (refl, refl, refl)

  pub beside_at : (x y : X) (s t : S) (answer : Result V Refusal) → c < length xs → x ≡ get_or xs c x
      → Calls x y s t answer → AnswersBeside c Calls answer xs (slice_set xs c y) s t
  beside_at x y s t answer within is called =
      subst (λ o. AnswersBesideBy c Calls o answer xs (slice_set xs c y) s t)
      (sym (slice_get_read xs (length xs) c x refl within is)) (y, refl, called)

-- ---- a command, by the place of its record

module _ {K : Type 0} (signer : K → Signer) (c : ℕ) (x : Command) (ns : List Newest) (ls ls' : List (State K)) where
  pub obeys_past : length ns ≤ c → ls' ≡ changed_at c halts ls
      → ObeysOver signer c x (Err refusal.NotReady) ls ls' ns ns
  unfolding ObeysOver
  obeys_past past halted = subst (λ o. ObeysBy signer c x o (Err refusal.NotReady) ls ls' ns ns)
      (sym (slice_get_past ns c past)) (refl, halted, refl)

  pub obeys_at : (n n' : Newest) (answer : Answer) → c < length ns → n ≡ get_or ns c n
      → ObeysAt signer c x answer ls ls' n n' → ObeysOver signer c x answer ls ls' ns (slice_set ns c n')
  unfolding ObeysOver
  obeys_at n n' answer within is obeyed = subst (λ o. ObeysBy signer c x o answer ls ls' ns (slice_set ns c n'))
      (sym (slice_get_read ns (length ns) c n refl within is)) (n', refl, obeyed)
