-- What is promised of a world of nodes over every list of steps, each with what the hooks say in it: what
-- ln_world_dispatch promises of channels, dispatchers and hooks, by the steps of dispatchers that they are.
use Rattle.std.specs.Prelude.{ℕ, List}
use Rattle.ln_keys.specs.declared.keys.ChannelKeys.{Ghosts}
use Rattle.ln_keys.specs.declared.role.Role.{Role}
use Rattle.ln_hooks.specs.declared.event.ChannelEvent.{ChannelEvent}
use Rattle.ln_hooks.specs.declared.verdict.Verdict.{Verdict}
use Rattle.ln_world_channels.specs.Both.{Both}
use Rattle.ln_world_channels.specs.declared.step.Step.{Step as ChannelStep}
use Rattle.ln_world_dispatch.specs.Promises as promise
use Rattle.ln_world_dispatch.specs.World as dispatchers
use Rattle.ln_world.specs.declared.step.Step.{Step}
use Rattle.ln_world.specs.World.{World, empty, run, plains}

-- from the empty world, so many hooks being handed in
abbrev pub AreSteps : {K : Type 0} → (k : Ghosts K) → ℕ → List (Step K k × Verdict) → Type 0
AreSteps k hooks ss = promise.AreSteps k hooks (plains k ss (empty hooks))

-- it holds of the world that each list of steps makes of the empty one
abbrev pub AfterEachRun : {K : Type 0} → (k : Ghosts K) → (World K → Type 0) → Type 0
AfterEachRun {K} k P = (steps : List (Step K k × Verdict)) (hooks : ℕ) → P (run k steps (empty hooks))

-- the steps of channels that they are
abbrev pub channel_steps : {K : Type 0} → (k : Ghosts K) → ℕ → List (Step K k × Verdict) → List (ChannelStep K k)
channel_steps k hooks ss = dispatchers.plains k (plains k ss (empty hooks)) (dispatchers.empty hooks)

abbrev pub OfEach : {K : Type 0} → (Both K → Type 0) → World K → Type 0
OfEach P w = promise.OfEach P w.dispatchers

-- the committed events of the end of this side of the channel with this number
abbrev pub events_of : {K : Type 0} → (k : Ghosts K) → ℕ → ℕ → Role → List (Step K k × Verdict) → List ChannelEvent
events_of k hooks n side ss = promise.events_of k hooks n side (plains k ss (empty hooks))

-- nothing stands after the close among an end's events, and each hook's calls are, each once and in order, a beginning
-- of these from its place on; every event below an epoch's start was dispatched
abbrev pub CallsFollow : {K : Type 0} → (k : Ghosts K) → ℕ → List (Step K k × Verdict) → Type 0
CallsFollow k hooks ss = promise.CallsFollow k hooks (plains k ss (empty hooks))

-- and what is decided was dispatched
abbrev pub DispatchersStand : {K : Type 0} → (k : Ghosts K) → ℕ → List (Step K k × Verdict) → Type 0
DispatchersStand k hooks ss = promise.DispatchersStand k hooks (plains k ss (empty hooks))
