-- What the steps of a world bring, as wide as it is in code. Commands that books give aren't brought by a step.
use Rattle.std.specs.Prelude.{◌≡◌, List, length}
use Rattle.ln_keys.specs.declared.keys.ChannelKeys.{Ghosts}
use Rattle.ln_hooks.specs.declared.verdict.Verdict.{Verdict}
use Rattle.ln_channel_laws.specs.Widths.{IsCommand}
use Rattle.ln_world_channels.specs.Promises.{Each}
use Rattle.ln_world.specs.declared.step.Act.{Act}
use Rattle.ln_world.specs.declared.step.Act.TheVariants as act
use Rattle.ln_world.specs.declared.step.Step.{Step}
use Rattle.ln_world.specs.declared.step.Step.TheVariants as step

abbrev pub IsAct : Act → Type 0
IsAct act.Deliver = Unit {0}
IsAct (act.Send c) = IsCommand c
IsAct act.Take = Unit {0}
IsAct act.Decide = Unit {0}
IsAct (act.Resume n v) = Unit {0}

abbrev pub IsStep : {K : Type 0} → (k : Ghosts K) → Step K k → Type 0
IsStep k (step.Fees n fees) = Unit {0}
IsStep k (step.Limits n limits) = Unit {0}
IsStep k (step.Policy n policy) = Unit {0}
IsStep k (step.Height n height) = Unit {0}
IsStep k (step.Expect n invoice) = length invoice.preimage ≡ 32
IsStep k (step.Open o) = Unit {0}
IsStep k (step.Do e a) = IsAct a
IsStep k (step.Down e) = Unit {0}
IsStep k (step.NoMemory e a) = Unit {0}
IsStep k (step.Restart n) = Unit {0}
IsStep k (step.Reload e) = Unit {0}
IsStep k (step.StopBefore e a) = Unit {0}
IsStep k (step.StopAfter e a) = IsAct a
IsStep k (step.Up n) = Unit {0}
IsStep k (step.Dispatch e) = Unit {0}
IsStep k (step.Register e hook) = Unit {0}

-- each step, whatever the hooks say in it
abbrev pub AreWorldSteps : {K : Type 0} → (k : Ghosts K) → List (Step K k × Verdict) → Type 0
AreWorldSteps k ss = Each (λ s. IsStep k s.0) ss
