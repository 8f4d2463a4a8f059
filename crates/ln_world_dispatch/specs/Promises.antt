-- What is promised of nodes over every list of steps, each with what the hooks say in it: of their channels what
-- ln_world_channels promises, by the steps of channels that they are, and of the calls of hooks that they follow the
-- events.
use Rattle.std.specs.Prelude.{◌≡◌, ◌≤◌, ℕ, List, None, length, drop}
use Rattle.ln_keys.specs.declared.keys.ChannelKeys.{Ghosts}
use Rattle.ln_keys.specs.declared.role.Role.{Role}
use Rattle.ln_log.specs.Events.{events}
use Rattle.ln_hooks.specs.declared.event.ChannelEvent.{ChannelEvent}
use Rattle.ln_hooks.specs.declared.verdict.Verdict.{Verdict}
use Rattle.ln_channel_laws.specs.Told.{as_told, ClosesLast}
use Rattle.ln_world_channels.specs.Both.{Both}
use Rattle.ln_world_channels.specs.Promises.{Each}
use Rattle.ln_world_channels.specs.Promises as promise
use Rattle.ln_world_channels.specs.Records as record_of
use Rattle.ln_world_channels.specs.Machine.{history}
use Rattle.ln_world_channels.specs.World as channels
use Rattle.ln_world_dispatch.specs.declared.step.Step.{Step}
use Rattle.ln_world_dispatch.specs.declared.hook_slot.HookSlot.{HookSlot}
use Rattle.ln_world_dispatch.specs.Dispatcher.{Epoch, Dispatcher, DispatcherFollows, Begins, next}
use Rattle.ln_world_dispatch.specs.World.{World, empty, run, plains, decided_for}

-- ---- what the steps' commands bring is as wide as it is in code; so many hooks were handed in

abbrev pub AreSteps : {K : Type 0} → (k : Ghosts K) → ℕ → List (Step K k × Verdict) → Type 0
AreSteps k hooks ss = record_of.AreSteps k (plains k ss (empty hooks))

-- ---- what any steps lead to

-- it holds of the world that each list of steps makes of the empty one, so many hooks being handed in
abbrev pub AfterEachRun : {K : Type 0} → (k : Ghosts K) → (World K → Type 0) → Type 0
AfterEachRun {K} k P = (steps : List (Step K k × Verdict)) (hooks : ℕ) → P (run k steps (empty hooks))

-- ---- each channel

abbrev pub OfEach : {K : Type 0} → (Both K → Type 0) → World K → Type 0
OfEach P w = promise.OfEach P w.channels

-- ---- the calls of hooks

-- the committed events of the end of this side of the channel with this number: those of the machine's moves
abbrev pub events_of : {K : Type 0} → (k : Ghosts K) → ℕ → ℕ → Role → List (Step K k × Verdict) → List ChannelEvent
events_of k hooks n side ss = as_told (events side (history k n (plains k ss (empty hooks)) channels.empty) None)

-- nothing stands after the close among an end's events, and each hook's calls are, each once and in order, a beginning
-- of these from its place on; every event below an epoch's start was dispatched
abbrev pub Follows : List ChannelEvent → Dispatcher → Type 0
Follows events d = ClosesLast events × DispatcherFollows events d

abbrev pub CallsFollow : {K : Type 0} → (k : Ghosts K) → ℕ → List (Step K k × Verdict) → Type 0
CallsFollow k hooks ss =
    Each (λ d. Follows (events_of k hooks d.end.channel d.side ss) d) (run k ss (empty hooks)).dispatchers

-- ---- what is decided was dispatched

-- the events served in an epoch are, each once and in order, those from its start on; each of its hooks has its slot
-- from one of these, or the next, on
pub record SlotStands (l : Epoch) (s : HookSlot) : Type 0 where
  pub after_start : l.start ≤ s.place
  pub before_next : s.place ≤ next l

pub record EpochStands (events : List ChannelEvent) (reach : ℕ) (l : Epoch) : Type 0 where
  pub dispatched_below : l.start ≤ reach
  pub follows : Begins l.served (drop l.start events)
  pub as_many : length l.said ≡ length l.served
  pub slots : Each (SlotStands l) l.slots

-- whose end has decided so many: what was decided as the epoch began, and no event that the epoch hasn't dispatched
pub record DispatcherStands (events : List ChannelEvent) (decided : ℕ) (d : Dispatcher) : Type 0 where
  pub since_start : d.epoch.start ≤ decided
  pub dispatched : decided ≤ next d.epoch
  pub reached : next d.epoch ≤ d.reach
  pub told : d.reach ≤ length events
  pub epoch : EpochStands events d.reach d.epoch
  pub past : Each (EpochStands events d.reach) d.past

abbrev pub DispatchersStand : {K : Type 0} → (k : Ghosts K) → ℕ → List (Step K k × Verdict) → Type 0
DispatchersStand k hooks ss =
    let w = run k ss (empty hooks) in
    Each (λ d. DispatcherStands (events_of k hooks d.end.channel d.side ss) (decided_for d w.channels) d) w.dispatchers
