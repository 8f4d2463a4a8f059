-- Where what the steps bring is as wide as it is in code, no step fails by 70.
use Rattle.std.proofs.Common.{◌≡◌, ◌≢◌, ◌⊎◌, ℕ, List, [], ◌∷◌, Result, Ok, Err, IfErr, inl, inr}
use Rattle.ln_refusals.specs.declared.refusal.Refusal.{Refusal}
use Rattle.ln_refusals.specs.declared.refusal.Refusal.TheVariants as refusal
use Rattle.ln_keys.specs.declared.toy_keys.ToyKeys.{ToyKeys}
use Rattle.ln_world_dispatch.specs.Slots.{Answers}
use Rattle.ln_world.specs.declared.step.Step.TheVariants as step
use Rattle.ln_world.specs.World.{World, empty, happens, SomeMayFail}
use Rattle.ln_world.specs.Hooked.{verdict_in, answered}
use Rattle.ln_world.specs.Records.{IsStep, AreWorldSteps}
use Rattle.ln_script.specs.Keys.{toy}
use Rattle.ln_script.specs.Step.{ToyStep}
use Rattle.ln_script.specs.Wide.{IsWide, AreAsWide}
use Rattle.ln_script.specs.Report.{Said, said_by, SomeLacks, StepsFail}

as_brought : (s : ToyStep) → IsWide s → IsStep toy s
as_brought (step.Fees n fees) h = tt
as_brought (step.Limits n limits) h = tt
as_brought (step.Policy n policy) h = tt
as_brought (step.Height n height) h = tt
as_brought (step.Expect n invoice) h = h.preimage
as_brought (step.Open o) h = tt
as_brought (step.Do e a) h = h
as_brought (step.Down e) h = tt
as_brought (step.NoMemory e a) h = tt
as_brought (step.Restart n) h = tt
as_brought (step.Reload e) h = tt
as_brought (step.StopBefore e a) h = tt
as_brought (step.StopAfter e a) h = h
as_brought (step.Up n) h = tt
as_brought (step.Dispatch e) h = tt
as_brought (step.Register e hook) h = tt

pub all_brought : (b : Answers) (ss : List ToyStep) (w : World ToyKeys) → AreAsWide ss
    → AreWorldSteps toy (answered toy b ss w)
all_brought b [] w h = tt
all_brought b (s ∷ ss) w h =
    (as_brought s h.0, all_brought b ss (happens toy (verdict_in toy b s w) s w) h.1)

-- what ln_world's law says
abbrev pub NeverDamaged : Type 0
NeverDamaged = (ss : Said) (hooks : ℕ) → AreWorldSteps toy ss → SomeMayFail toy ss refusal.Damaged (empty hooks) → ⊥

none_lacks : NeverDamaged → (n : ℕ) (ss : List ToyStep) → AreAsWide ss → SomeLacks n ss → ⊥
none_lacks law n ss wide lacks =
    law (said_by lacks.0 n ss) n (all_brought lacks.0 ss (empty n) wide) lacks.1

pub not_damaged : NeverDamaged → (n : ℕ) (ss : List ToyStep) → AreAsWide ss → (r : Refusal)
    → (X : Type 0) → StepsFail n ss r ⊎ ((r ≡ refusal.Io) × X) → r ≢ refusal.Damaged
not_damaged law n ss wide r X (inl (inl memory)) is = absurd cc
not_damaged law n ss wide r X (inl (inr p)) is = none_lacks law n ss wide p.1
not_damaged law n ss wide r X (inr p) is = let io = p.0 in absurd cc

pub never_so : (r : Result (Unit {0}) Refusal) (X : Type 0)
    → IfErr r (λ e. (e ≡ refusal.Memory) ⊎ ((e ≡ refusal.Io) × X)) → IfErr r (λ e. e ≢ refusal.Damaged)
never_so (Ok x) X h = tt
never_so (Err e) X (inl memory) = λ is. absurd cc
never_so (Err e) X (inr p) = λ is. let io = p.0 in absurd cc

-- so only memory and the writer are left
pub by_memory_or_io : (n : ℕ) (ss : List ToyStep) (r : Refusal) (X : Type 0)
    → StepsFail n ss r ⊎ ((r ≡ refusal.Io) × X) → r ≢ refusal.Damaged
    → (r ≡ refusal.Memory) ⊎ ((r ≡ refusal.Io) × X)
by_memory_or_io n ss r X (inl (inl memory)) other = inl memory
by_memory_or_io n ss r X (inl (inr p)) other = absurd (other p.0)
by_memory_or_io n ss r X (inr p) other = inr p
