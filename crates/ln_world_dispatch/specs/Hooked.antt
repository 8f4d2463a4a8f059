-- Nodes whose hooks are called: what the hooks say in each step, and where each hook stands after them.
use Rattle.std.specs.Prelude.{◌≡◌, ℕ, List, [], ◌∷◌, ◌++◌, ◌⊎◌, length, Bool, true, false, Option, Some, None}
use Rattle.ln_refusals.specs.declared.refusal.Refusal.{Refusal}
use Rattle.ln_refusals.specs.declared.refusal.Refusal.TheVariants as refusal
use Rattle.ln_keys.specs.declared.keys.ChannelKeys.{Ghosts}
use Rattle.ln_hooks.specs.declared.event.ChannelEvent.{ChannelEvent}
use Rattle.ln_hooks.specs.declared.verdict.Verdict.{Verdict}
use Rattle.ln_hooks.specs.declared.verdict.Verdict.TheVariants.{Continue}
use Rattle.ln_world_channels.specs.declared.line.Line.{Line}
use Rattle.ln_world_dispatch.specs.declared.step.Step.{Step}
use Rattle.ln_world_dispatch.specs.declared.step.Step.TheVariants as step
use Rattle.ln_world_dispatch.specs.Dispatcher.{Dispatcher, dispatcher_at}
use Rattle.ln_world_dispatch.specs.World.{World, empty, next_event, happens, run, step_lines, run_lines, SomeMayFail}
use Rattle.ln_world_dispatch.specs.Promises.{CallsFollow}
use Rattle.ln_world_dispatch.specs.Slots.{Answers, says_at, Tables, Stand, Moved}

-- what a dispatcher's hooks say of its next event, where its end holds that
abbrev pub says_of : Answers → Option (ℕ × ChannelEvent) → Option Dispatcher → Verdict
says_of a None d = Continue
says_of a (Some p) d = says_at a d

-- what the hooks say in a step: of the event that is dispatched in it, by the answers of the hooks that have a
-- slot there
abbrev pub verdict_in : {K : Type 0} {k : Ghosts K} → Answers → Step K k → World K → Verdict
verdict_in a (step.Dispatch e) w = says_of a (next_event e w) (dispatcher_at e w.dispatchers)
verdict_in a s w = Continue

-- a step that is no dispatcher's, nor its hooks'
abbrev pub leaves_dispatchers : {K : Type 0} {k : Ghosts K} → Step K k → Bool
leaves_dispatchers (step.Open o) = false
leaves_dispatchers (step.Restart n) = false
leaves_dispatchers (step.StopBefore e a) = false
leaves_dispatchers (step.StopAfter e a) = false
leaves_dispatchers (step.Dispatch e) = false
leaves_dispatchers (step.Register e hook) = false
leaves_dispatchers s = true

-- steps, each with what the hooks say in it
abbrev pub answered : {K : Type 0} → (k : Ghosts K) → Answers → List (Step K k) → World K → List (Step K k × Verdict)
answered k a [] w = []
answered k a (s ∷ ss) w = (s, verdict_in a s w) ∷ answered k a ss (happens k (verdict_in a s w) s w)

module _ {K : Type 0} (k : Ghosts K) {H : Type 0} (calls : H → ChannelEvent → Verdict → H → Type 0) where
  -- what a step makes of nodes and hooks, where each hook stood at the end of its chain
  pub record Stepped (handed : List H) (a : Answers) (s : Step K k) (w w' : World K) (ts' : List (Tables calls))
      (left' : List (Option H)) (lines lines' : List Line) : Type 0 where
    pub said : Verdict
    pub moved : Moved calls handed a w.dispatchers (λ b. verdict_in b s w) said w'.used w'.dispatchers ts' left'
    pub world : w' ≡ happens k said s w
    pub told : lines' ≡ lines ++ step_lines k said s w

  -- so whatever was handed in
  abbrev pub Steps : Step K k → World K → List (Tables calls) → List (Option H) → World K → List (Tables calls)
      → List (Option H) → List Line → List Line → Type 0
  Steps s w ts left w' ts' left' lines lines' =
      (handed : List H) (a : Answers) → length handed ≡ w.hooks → Stand calls handed a w.used w.dispatchers ts left
      → Stepped handed a s w w' ts' left' lines lines'

  -- after these steps, by some answers of the hooks that were handed in; each hook stands at the end of its chain, and
  -- each dispatcher's calls follow its end's committed events
  pub record HasRun (handed : List H) (ss : List (Step K k)) (w : World K) (ts : List (Tables calls))
      (left : List (Option H)) (lines lines' : List Line) : Type 0 where
    pub answers : Answers
    pub world : w ≡ run k (answered k answers ss (empty (length handed))) (empty (length handed))
    pub told : lines' ≡ lines ++ run_lines k (answered k answers ss (empty (length handed))) (empty (length handed))
    pub stand : Stand calls handed answers w.used w.dispatchers ts left
    pub follow : CallsFollow k (length handed) (answered k answers ss (empty (length handed)))

-- for want of memory, or by what one of the steps may fail by, by some answers of the hooks
abbrev pub RunMayFail : {K : Type 0} → (k : Ghosts K) → ℕ → List (Step K k) → Refusal → Type 0
RunMayFail k hooks ss r =
    (r ≡ refusal.Memory) ⊎ ((a : Answers) × SomeMayFail k (answered k a ss (empty hooks)) r (empty hooks))
