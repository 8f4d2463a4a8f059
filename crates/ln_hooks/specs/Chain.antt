-- How a stored closure moves from call to call. Its own contract is told by step: step f x a f' says that the call f(x)
-- may answer a and leave the closure as f'.
use Rattle.std.specs.Prelude.{◌≡◌, List, [], ◌∷◌}
use Rattle.std.specs.Borrow.{Bor}
use Rattle.ln_hooks.specs.declared.event.ChannelEvent.{ChannelEvent}
use Rattle.ln_hooks.specs.declared.verdict.Verdict.{Verdict}

module _ {F : Type 0} (step : F → Bor ChannelEvent → Verdict → F → Type 0) where
  -- the closure f is called on the event, answers so, and is f' from then on
  pub record IsCalledOn (f : F) (event : ChannelEvent) (answer : Verdict) (f' : F) : Type 0 where
    pub shown : Bor ChannelEvent
    pub shows : shown.now ≡ event
    pub met : step f shown answer f'

  -- the closure f is called once on each of these events in turn, answers so, and is f' from then on
  abbrev pub IsChain : F → List ChannelEvent → List Verdict → F → Type 0
  IsChain f [] [] f' = f ≡ f'
  IsChain f (event ∷ events) (answer ∷ answers) f' =
      (next : F) × IsCalledOn f event answer next × IsChain next events answers f'
  IsChain f [] (answer ∷ answers) f' = ⊥
  IsChain f (event ∷ events) [] f' = ⊥

-- what is called by a contract of its own, as one who shows it the event calls it: calls h event answer h' says that h
-- may be called on the event, answer so, and be h' from then on
abbrev pub shown_to : {H : Type 0} → (H → ChannelEvent → Verdict → H → Type 0) → H → Bor ChannelEvent → Verdict → H
    → Type 0
shown_to calls h x answer h' = calls h x.now answer h'
