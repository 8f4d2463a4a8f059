-- What a dispatcher keeps: of its epoch each event from a number on, as it was served. No event before that is kept,
-- nor an epoch that was set aside: proofs alone read these. Every other definition speaks of all of them.
use Rattle.std.specs.Prelude.{◌≤◌, ℕ, List, map, max}
use Rattle.ln_keys.specs.declared.role.Role.{Role}
use Rattle.ln_world_channels.specs.declared.step.End.{End}
use Rattle.ln_world_channels.specs.Promises.{Each}
use Rattle.ln_world_channels.specs.World.{World as Channels, channel}
use Rattle.ln_world_dispatch.specs.declared.hook_slot.HookSlot.{HookSlot}
use Rattle.ln_world_dispatch.specs.declared.served.Served.{Served}
use Rattle.ln_world_dispatch.specs.Dispatcher.{Epoch, Dispatcher}
use Rattle.ln_world_dispatch.specs.World.{saved_in, decided_of}

-- an epoch, and the number of the first event that is kept of it
pub record KeptEpoch : Type 0 where
  pub epoch : Epoch
  pub first : ℕ

-- a dispatcher, and the number of the first event that is kept of the epoch that it is in
pub record KeptDispatcher : Type 0 where
  pub dispatcher : Dispatcher
  pub first : ℕ

-- the epoch in which these were served
abbrev pub epoch_of : ℕ → List Served → List HookSlot → Epoch
epoch_of start all slots = record {
  start = start;
  served = map (λ s. s.event) all;
  said = map (λ s. s.verdict) all;
  slots = slots;
}

abbrev pub epochs_of : List KeptEpoch → List Epoch
epochs_of ls = map (λ l. l.epoch) ls

abbrev pub dispatchers_of : List KeptDispatcher → List Dispatcher
dispatchers_of ds = map (λ d. d.dispatcher) ds

-- ---- the end hasn't decided what is kept

-- how many events the end of this side has decided
abbrev pub decided_at : {K : Type 0} → Channels K → End → Role → ℕ
decided_at w e side = decided_of (saved_in side (channel e.channel w.channels))

-- where ends have decided so many: the first undecided event is kept, if it was served in this epoch
abbrev pub Keeps : (End → Role → ℕ) → KeptDispatcher → Type 0
Keeps decided d = d.first ≤ max d.dispatcher.epoch.start (decided d.dispatcher.end d.dispatcher.side)

abbrev pub AllKeep : (End → Role → ℕ) → List KeptDispatcher → Type 0
AllKeep decided ds = Each (Keeps decided) ds
