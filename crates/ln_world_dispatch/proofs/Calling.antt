-- The hooks of a dispatcher, where they stand among all.
use Rattle.std.proofs.Common.{◌≡◌, ℕ, zero, suc, ◌+◌, ◌<◌, List, [], ◌∷◌, ◌++◌, length, get_or, set}
use Rattle.std.proofs.Common.{map, refl, ap, ◌∙◌}
use Rattle.std.proofs.Common.{arith, subst, take, drop, Bool}
use Rattle.ln_hooks.specs.declared.event.ChannelEvent.{ChannelEvent}
use Rattle.ln_hooks.specs.declared.verdict.Verdict.{Verdict}
use Rattle.ln_hooks.specs.Table.{Says}
use Rattle.ln_world_dispatch.specs.Dispatcher.{Dispatcher}
use Rattle.ln_hooks.specs.Chain.{shown_to}
use Rattle.ln_world_dispatch.specs.Slots.{Tables, CallsAt, SlotsAt, aside_where, set_aside, IsAside}
use Rattle.ln_world_dispatch.specs.Slots.{AreAside}

module _ {H D : Type 0} (calls : H → ChannelEvent → Verdict → H → Type 0) (now : D → List H)
    (past : D → List (List H)) where
  pub calls_at_place : (i : ℕ) (ts : List D) (t t' : D) (e : ChannelEvent) (v : Verdict) → i < length ts
      → t ≡ get_or ts i t → Says (λ (h : H). h) (shown_to calls) (now t) e v (now t') → past t' ≡ past t
      → CallsAt calls i (map (λ x. (now x, past x)) ts) e v (map (λ x. (now x, past x)) (set ts i t'))
  calls_at_place i [] t t' e v lt is said same = absurd (omega (arith, lt))
  calls_at_place zero (x ∷ xs) t t' e v lt is said same =
      (subst (λ y. Says (λ (h : H). h) (shown_to calls) (now y) e v (now t')) is said, same ∙ ap past is, refl)
  calls_at_place (suc i) (x ∷ xs) t t' e v lt is said same =
      (refl, calls_at_place i xs t t' e v (omega (arith, lt)) is said same)

  pub slots_at_place : (i : ℕ) (ts : List D) (t t' : D) (h : H) → i < length ts → t ≡ get_or ts i t
      → now t' ≡ now t ++ h ∷ [] → past t' ≡ past t
      → SlotsAt calls i (map (λ x. (now x, past x)) ts) h (map (λ x. (now x, past x)) (set ts i t'))
  slots_at_place i [] t t' h lt is more same = absurd (omega (arith, lt))
  slots_at_place zero (x ∷ xs) t t' h lt is more same =
      (more ∙ ap (λ y. now y ++ h ∷ []) is, same ∙ ap past is, refl)
  slots_at_place (suc i) (x ∷ xs) t t' h lt is more same =
      (refl, slots_at_place i xs t t' h (omega (arith, lt)) is more same)

  -- that of the dispatcher at this place is set aside, where it begins anew; those before it were
  aside_one : (anew : Dispatcher → Bool) (i : ℕ) (ds : List Dispatcher) (xs : List D) (ts : List
      (Tables calls)) (t t' : D)
      (d : Dispatcher) → i < length ds → i < length xs
      → map (λ x. (now x, past x)) xs ≡ set_aside calls anew (take i ds) ts
      → (now t', past t')
      ≡ aside_where calls (anew (get_or ds i d)) (now (get_or xs i t), past (get_or xs i t))
      → map (λ x. (now x, past x)) (set xs i t') ≡ set_aside calls anew (take (suc i) ds) ts
  aside_one anew i [] xs ts t t' d lt within same is = absurd (omega (arith, lt))
  aside_one anew i (e ∷ ds) [] ts t t' d lt within same is = absurd (omega (arith, within))
  aside_one anew zero (e ∷ ds) (x ∷ xs) ts t t' d lt within same is =
      ap (λ y. y ∷ map (λ x. (now x, past x)) xs) is ∙ ap (set_aside calls anew (e ∷ [])) same
  aside_one anew (suc i) (e ∷ ds) (x ∷ xs) [] t t' d lt within same is = absurd (cc)
  aside_one anew (suc i) (e ∷ ds) (x ∷ xs) (u ∷ ts) t t' d lt within same is =
      let head = ap (λ l. get_or l 0 (now x, past x)) same in
      let rest = ap (λ l. drop 1 l) same in
      ap (λ y. y ∷ map (λ x. (now x, past x)) (set xs i t')) head
      ∙ ap (λ l. aside_where calls (anew e) u ∷ l)
      (aside_one anew i ds xs ts t t' d (omega (arith, lt)) (omega (arith, within)) rest is)

  pub aside_more : (anew : Dispatcher
      → Bool) (i : ℕ) (ds : List Dispatcher) (xs : List D) (ts : List (Tables calls)) (t t' : D)
      (d : Dispatcher) → i < length ds → i < length xs
      → AreAside calls anew (take i ds) ts (map (λ x. (now x, past x)) xs)
      → d ≡ get_or ds i d → t ≡ get_or xs i t → IsAside calls (anew d) (now t, past t) (now t', past t')
      → AreAside calls anew (take (i + 1) ds) ts (map (λ x. (now x, past x)) (set xs i t'))
  aside_more anew i ds xs ts t t' d lt within same d_is t_is is =
      let next : suc i ≡ i + 1 = omega arith in
      aside_one anew i ds xs ts t t' d lt within same
      (is ∙ ap (λ e. aside_where calls (anew e) (now t, past t)) d_is
      ∙ ap (λ x. aside_where calls (anew (get_or ds i d)) (now x, past x)) t_is)
      ∙ ap (λ n. set_aside calls anew (take n ds) ts) next
