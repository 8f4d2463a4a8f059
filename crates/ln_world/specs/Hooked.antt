-- A world whose hooks are called: what the hooks say in each step, and where each hook stands after them.
use Rattle.std.specs.Prelude.{◌≡◌, ℕ, List, [], ◌∷◌, ◌++◌, ◌⊎◌, length, Option, None, Some}
use Rattle.ln_refusals.specs.declared.refusal.Refusal.{Refusal}
use Rattle.ln_refusals.specs.declared.refusal.Refusal.TheVariants as refusal
use Rattle.ln_keys.specs.declared.keys.ChannelKeys.{Ghosts}
use Rattle.ln_hooks.specs.declared.event.ChannelEvent.{ChannelEvent}
use Rattle.ln_hooks.specs.declared.verdict.Verdict.{Verdict}
use Rattle.ln_hooks.specs.declared.verdict.Verdict.TheVariants.{Continue}
use Rattle.ln_world_channels.specs.declared.line.Line.{Line}
use Rattle.ln_world_channels.specs.declared.line.Line.TheVariants as line
use Rattle.ln_world_dispatch.specs.declared.step.Step.{Step as DispatchStep}
use Rattle.ln_world_dispatch.specs.World.{World as Dispatchers}
use Rattle.ln_world_dispatch.specs.Slots.{Answers, Tables, Stand, Moved}
use Rattle.ln_world_dispatch.specs.Hooked as dispatchers
use Rattle.ln_world.specs.declared.step.Step.{Step}
use Rattle.ln_world.specs.World.{World, empty, plain, happens, run, step_lines, run_lines, SomeMayFail}
use Rattle.ln_world.specs.Promises.{CallsFollow}

-- what the hooks say in a step: in that of dispatchers that it is, if any
abbrev pub verdict_by : {K : Type 0} {k : Ghosts K} → Answers → Option (DispatchStep K k) → Dispatchers K → Verdict
verdict_by a None d = Continue
verdict_by a (Some s) d = dispatchers.verdict_in a s d

abbrev pub verdict_in : {K : Type 0} → (k : Ghosts K) → Answers → Step K k → World K → Verdict
verdict_in k a s w = verdict_by a (plain k s w) w.dispatchers

-- steps, each with what the hooks say in it
abbrev pub answered : {K : Type 0} → (k : Ghosts K) → Answers → List (Step K k) → World K → List (Step K k × Verdict)
answered k a [] w = []
answered k a (s ∷ ss) w = (s, verdict_in k a s w) ∷ answered k a ss (happens k (verdict_in k a s w) s w)

module _ {K : Type 0} (k : Ghosts K) {H : Type 0} (calls : H → ChannelEvent → Verdict → H → Type 0) where
  -- what dispatchers and their hooks come to by the step that is theirs, and what is told of it; nothing where there is
  -- none
  abbrev pub Moves : Option (DispatchStep K k) → Dispatchers K → List (Tables calls) → List (Option H) → Dispatchers K
      → List (Tables calls) → List (Option H) → List Line → Type 0
  Moves None d ts left d' ts' left' told = (d' ≡ d) × (ts' ≡ ts) × (left' ≡ left) × (told ≡ line.Idle ∷ [])
  Moves (Some s) d ts left d' ts' left' told = dispatchers.Steps k calls s d ts left d' ts' left' [] told

  -- what a step makes of nodes and hooks, where each hook stood at the end of its chain
  pub record Stepped (handed : List H) (a : Answers) (s : Step K k) (w w' : World K) (ts' : List (Tables calls))
      (left' : List (Option H)) (lines lines' : List Line) : Type 0 where
    pub said : Verdict
    pub moved : Moved calls handed a w.dispatchers.dispatchers
        (λ b. verdict_in k b s w) said w'.dispatchers.used w'.dispatchers.dispatchers ts' left'
    pub world : w' ≡ happens k said s w
    pub told : lines' ≡ lines ++ step_lines k said s w

  -- so whatever was handed in
  abbrev pub Steps : Step K k → World K → List (Tables calls) → List (Option H) → World K → List (Tables calls)
      → List (Option H) → List Line → List Line → Type 0
  Steps s w ts left w' ts' left' lines lines' =
      (handed : List H) (a : Answers) → length handed ≡ w.dispatchers.hooks
      → Stand calls handed a w.dispatchers.used w.dispatchers.dispatchers ts left
      → Stepped handed a s w w' ts' left' lines lines'

  -- after these steps, by some answers of the hooks that were handed in; each hook stands at the end of its chain, and
  -- each dispatcher's calls follow its end's committed events
  pub record HasRun (handed : List H) (ss : List (Step K k)) (w : World K) (ts : List (Tables calls))
      (left : List (Option H)) (lines lines' : List Line) : Type 0 where
    pub answers : Answers
    pub world : w ≡ run k (answered k answers ss (empty (length handed))) (empty (length handed))
    pub told : lines' ≡ lines ++ run_lines k (answered k answers ss (empty (length handed))) (empty (length handed))
    pub stand : Stand calls handed answers w.dispatchers.used w.dispatchers.dispatchers ts left
    pub follow : CallsFollow k (length handed) (answered k answers ss (empty (length handed)))

-- for want of memory, or by what one of the steps may fail by, by some answers of the hooks
abbrev pub RunMayFail : {K : Type 0} → (k : Ghosts K) → ℕ → List (Step K k) → Refusal → Type 0
RunMayFail k hooks ss r =
    (r ≡ refusal.Memory) ⊎ ((a : Answers) × SomeMayFail k (answered k a ss (empty hooks)) r (empty hooks))
