-- How the hooks of a table move, and what the table says of events. A hook h keeps the closure call h, whose own
-- contract is told by step.
use Rattle.std.specs.Prelude.{◌≡◌, List, [], ◌∷◌, map}
use Rattle.std.specs.Borrow.{Bor}
use Rattle.ln_hooks.specs.declared.event.ChannelEvent.{ChannelEvent}
use Rattle.ln_hooks.specs.declared.verdict.Verdict.{Verdict}
use Rattle.ln_hooks.specs.declared.verdict.Verdict.TheVariants.{Continue}
use Rattle.ln_hooks.specs.Chain.{IsCalledOn, IsChain}
use Rattle.ln_hooks.specs.Verdict.{verdict}

module _ {H F : Type 0} (call : H → F) (step : F → Bor ChannelEvent → Verdict → F → Type 0) where
  -- each hook is called once on the event: one answer a hook, in order of registration
  abbrev pub AreCalledOn : List H → ChannelEvent → List Verdict → List H → Type 0
  AreCalledOn [] event [] [] = Unit {0}
  AreCalledOn (h ∷ hs) event (answer ∷ answers) (h' ∷ hs') =
      IsCalledOn step (call h) event answer (call h') × AreCalledOn hs event answers hs'
  AreCalledOn [] event (answer ∷ answers) hs' = ⊥
  AreCalledOn [] event [] (h' ∷ hs') = ⊥
  AreCalledOn (h ∷ hs) event [] hs' = ⊥
  AreCalledOn (h ∷ hs) event (answer ∷ answers) [] = ⊥

  -- each hook moves along a chain over all of these events: one list of answers a hook, in order of registration
  abbrev pub AreChains : List H → List ChannelEvent → List (List Verdict) → List H → Type 0
  AreChains [] events [] [] = Unit {0}
  AreChains (h ∷ hs) events (answers ∷ rows) (h' ∷ hs') =
      IsChain step (call h) events answers (call h') × AreChains hs events rows hs'
  AreChains [] events (answers ∷ rows) hs' = ⊥
  AreChains [] events [] (h' ∷ hs') = ⊥
  AreChains (h ∷ hs) events [] hs' = ⊥
  AreChains (h ∷ hs) events (answers ∷ rows) [] = ⊥

-- a hook's answer to the first event
abbrev pub first_answer : List Verdict → Verdict
first_answer [] = Continue
first_answer (answer ∷ answers) = answer

-- its answers to the events after that
abbrev pub later_answers : List Verdict → List Verdict
later_answers [] = []
later_answers (answer ∷ answers) = answers

-- the verdict on each of these events, where the hooks answer so: one list of answers a hook
abbrev pub verdicts : List ChannelEvent → List (List Verdict) → List Verdict
verdicts [] rows = []
verdicts (event ∷ events) rows = verdict (map first_answer rows) ∷ verdicts events (map later_answers rows)

module _ {H F : Type 0} (call : H → F) (step : F → Bor ChannelEvent → Verdict → F → Type 0) where
  -- a table of these hooks says so of the event, and each of them was called on it
  pub record Says (hooks : List H) (event : ChannelEvent) (said : Verdict) (hooks' : List H) : Type 0 where
    pub answers : List Verdict
    pub called : AreCalledOn call step hooks event answers hooks'
    pub joins : said ≡ verdict answers

  -- and so of each of these events in turn
  pub record SaysOfEach (hooks : List H) (events : List ChannelEvent) (said : List Verdict) (hooks' : List H)
      : Type 0 where
    pub answers : List (List Verdict)
    pub chains : AreChains call step hooks events answers hooks'
    pub joins : said ≡ verdicts events answers
