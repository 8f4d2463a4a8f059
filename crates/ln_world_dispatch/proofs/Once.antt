-- A hook has a slot at most once, over all epochs of all dispatchers.
use Rattle.std.proofs.Common.{◌≡◌, ℕ, ◌+◌, ◌≤◌, ◌==◌, List, [], ◌∷◌, ◌++◌, refl, arith}
use Rattle.std.proofs.Common.{Bool, true, false, cond, ◌||◌}
use Rattle.std.specs.List.{list_any}
use Rattle.ln_hooks.specs.declared.event.ChannelEvent.{ChannelEvent}
use Rattle.ln_hooks.specs.declared.verdict.Verdict.{Verdict}
use Rattle.ln_world_channels.specs.declared.step.End.{End}
use Rattle.ln_world_dispatch.specs.Dispatcher.{Dispatcher, serving, registered, is_at, at_dispatcher, next}
use Rattle.ln_world_dispatch.specs.Slots.{one_at, slots_of}
use Rattle.ln_world_dispatch.proofs.Slotting.{sum_push}

served_by : (b : Bool) (i : ℕ) (e : End) (event : ChannelEvent) (v : Verdict) (d : Dispatcher) (ds : List Dispatcher)
    → slots_of i (at_dispatcher e (serving event v) ds) ≡ slots_of i ds
    → slots_of i (cond b (serving event v d ∷ ds) (d ∷ at_dispatcher e (serving event v) ds)) ≡ slots_of i (d ∷ ds)
served_by true i e event v d ds same = refl
served_by false i e event v d ds same = omega (arith, same)

pub served_slots : (i : ℕ) (e : End) (event : ChannelEvent) (v : Verdict) (ds : List Dispatcher)
    → slots_of i (at_dispatcher e (serving event v) ds) ≡ slots_of i ds
served_slots i e event v [] = refl
served_slots i e event v (d ∷ ds) = served_by (is_at e d) i e event v d ds (served_slots i e event v ds)

slotted_by : (b : Bool) (i : ℕ) (e : End) (hook : ℕ) (d : Dispatcher) (ds : List Dispatcher)
    → slots_of i (at_dispatcher e (registered hook) ds) ≤ slots_of i ds + cond (hook == i) 1 0
    → slots_of i (cond b (registered hook d ∷ ds) (d ∷ at_dispatcher e (registered hook) ds))
    ≤ slots_of i (d ∷ ds) + cond (hook == i) 1 0
slotted_by true i e hook d ds le =
    let p = sum_push (one_at i d.epoch) d.epoch.slots (record { hook = hook; place = next d.epoch }) in
    omega (arith, p)
slotted_by false i e hook d ds le = omega (arith, le)

pub slotted_slots : (i : ℕ) (e : End) (hook : ℕ) (ds : List Dispatcher)
    → slots_of i (at_dispatcher e (registered hook) ds) ≤ slots_of i ds + cond (hook == i) 1 0
slotted_slots i e hook [] = omega arith
slotted_slots i e hook (d ∷ ds) = slotted_by (is_at e d) i e hook d ds (slotted_slots i e hook ds)

pub any_push : (i : ℕ) (used : List ℕ) (hook : ℕ)
    → list_any (λ h. h == i) (used ++ hook ∷ []) ≡ list_any (λ h. h == i) used || (hook == i)
any_push i [] hook = by (hook == i)
  where
    by : (b : Bool) → (b || false) ≡ (false || b)
    by true = refl
    by false = refl
any_push i (u ∷ used) hook = by (u == i) (any_push i used hook)
  where
    by : (b : Bool) → list_any (λ h. h == i) (used ++ hook ∷ []) ≡ list_any (λ h. h == i) used || (hook == i)
        → (b || list_any (λ h. h == i) (used ++ hook ∷ [])) ≡ (b || list_any (λ h. h == i) used) || (hook == i)
    by true same = refl
    by false same = same

pub room : (n m : ℕ) (b c : Bool) → n ≤ cond b 1 0 → m ≤ n + cond c 1 0 → (c ≡ true → b ≡ false)
    → m ≤ cond (b || c) 1 0
room n m true true h le not_both = absurd (let no = not_both refl in cc)
room n m true false h le not_both = omega (arith, h, le)
room n m false true h le not_both = omega (arith, h, le)
room n m false false h le not_both = omega (arith, h, le)
