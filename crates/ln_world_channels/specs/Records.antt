-- That each end of a channel has a record, which it comes back from where it reloads or its node restarts. What the
-- steps' commands bring is as wide as it is in code.
use Rattle.std.specs.Prelude.{List}
use Rattle.ln_keys.specs.declared.keys.ChannelKeys.{Ghosts}
use Rattle.ln_log.specs.declared.opening.Limits.{Limits}
use Rattle.ln_channel_laws.specs.Widths.{IsCommand}
use Rattle.ln_world_channels.specs.declared.step.Act.{Act}
use Rattle.ln_world_channels.specs.declared.step.Act.TheVariants as act
use Rattle.ln_world_channels.specs.declared.step.Step.{Step}
use Rattle.ln_world_channels.specs.declared.step.Step.TheVariants as step
use Rattle.ln_world_channels.specs.Both.{Both}
use Rattle.ln_world_channels.specs.Failing.{LinkLacks}
use Rattle.ln_world_channels.specs.Promises.{Each}

-- ---- what the steps bring

abbrev pub IsAct : Act → Type 0
IsAct act.Deliver = Unit {0}
IsAct (act.Send c) = IsCommand c

abbrev pub IsStep : {K : Type 0} → (k : Ghosts K) → Step K k → Type 0
IsStep k (step.Fees n fees) = Unit {0}
IsStep k (step.Limits n limits) = Unit {0}
IsStep k (step.Open o) = Unit {0}
IsStep k (step.Do e a) = IsAct a
IsStep k (step.Down e) = Unit {0}
IsStep k (step.NoMemory e a) = Unit {0}
IsStep k (step.SaveFails e a left) = IsAct a
IsStep k (step.Restart n) = Unit {0}
IsStep k (step.Reload e) = Unit {0}
IsStep k (step.StopBefore e a) = Unit {0}
IsStep k (step.StopAfter e a) = IsAct a
IsStep k (step.Up n) = Unit {0}

abbrev pub AreSteps : {K : Type 0} → (k : Ghosts K) → List (Step K k) → Type 0
AreSteps k steps = Each (IsStep k) steps

-- ---- what is promised

-- each of both ends has a record
abbrev pub HaveRecords : {K : Type 0} → Both K → Type 0
HaveRecords p = (LinkLacks p.x.link → ⊥) × (LinkLacks p.y.link → ⊥)
