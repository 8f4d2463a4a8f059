-- What is written down of the dispatcher of a channel end: the events that it has served in its epoch, what its hooks
-- said of each, and which hooks have a slot there, each from a place on; and the same of its earlier epochs.
use Rattle.std.specs.Prelude.{◌≡◌, ◌≤◌, ℕ, ◌+◌, ◌-◌, List, [], ◌∷◌, ◌++◌, length, drop, max}
use Rattle.std.specs.Prelude.{Bool, ◌&&◌, ◌==◌, Option, Some, None, if◌then◌else◌}
use Rattle.ln_keys.specs.declared.role.Role.{Role}
use Rattle.ln_hooks.specs.declared.event.ChannelEvent.{ChannelEvent}
use Rattle.ln_hooks.specs.declared.verdict.Verdict.{Verdict}
use Rattle.ln_world_channels.specs.declared.step.End.{End}
use Rattle.ln_world_channels.specs.WorldChannel.{is_node}
use Rattle.ln_world_channels.specs.Promises.{Each}
use Rattle.ln_world_dispatch.specs.declared.hook_slot.HookSlot.{HookSlot}

pub record Epoch : Type 0 where
  pub start : ℕ  -- how many events were decided at its start
  pub served : List ChannelEvent  -- dispatched since then, as they were handed to the hooks
  pub said : List Verdict  -- of each of them
  pub slots : List HookSlot

pub record Dispatcher : Type 0 where
  pub end : End
  pub side : Role  -- the end's side of its channel
  pub reach : ℕ  -- one above the greatest number dispatched in any epoch
  pub epoch : Epoch
  pub past : List Epoch  -- set aside with its slots

-- the number of the event that is dispatched next
abbrev pub next : Epoch → ℕ
next l = l.start + length l.served

-- what a hook was called on: each event from its place on
abbrev pub called : Epoch → HookSlot → List ChannelEvent
called l s = drop (s.place - l.start) l.served

-- ---- how it begins

abbrev pub begun : ℕ → Epoch
begun decided = record { start = decided; served = []; said = []; slots = [] }

abbrev pub fresh : End → Role → Dispatcher
fresh e side = record { end = e; side = side; reach = 0; epoch = begun 0; past = [] }

-- ---- its moves

abbrev pub with_one : ChannelEvent → Verdict → Epoch → Epoch
with_one e v l = record { start = l.start; served = l.served ++ e ∷ []; said = l.said ++ v ∷ []; slots = l.slots }

-- the hook serves from the next event on
abbrev pub with_slot : ℕ → Epoch → Epoch
with_slot hook l = record {
  start = l.start;
  served = l.served;
  said = l.said;
  slots = l.slots ++ record { hook = hook; place = next l } ∷ [];
}

-- an event is dispatched, of which the hooks say v
abbrev pub serving : ChannelEvent → Verdict → Dispatcher → Dispatcher
serving e v d = record {
  end = d.end;
  side = d.side;
  reach = max d.reach (next d.epoch + 1);
  epoch = with_one e v d.epoch;
  past = d.past;
}

abbrev pub registered : ℕ → Dispatcher → Dispatcher
registered hook d = record {
  end = d.end;
  side = d.side;
  reach = d.reach;
  epoch = with_slot hook d.epoch;
  past = d.past;
}

-- the epoch is set aside with its hooks, and one begins at the first undecided event
abbrev pub restarted : ℕ → Dispatcher → Dispatcher
restarted decided d = record {
  end = d.end;
  side = d.side;
  reach = d.reach;
  epoch = begun decided;
  past = d.past ++ d.epoch ∷ [];
}

-- ---- the dispatchers of all ends

abbrev pub is_at : End → Dispatcher → Bool
is_at e d = is_node d.end.node e.node && d.end.channel == e.channel

-- the end's
abbrev pub dispatcher_at : End → List Dispatcher → Option Dispatcher
dispatcher_at e [] = None
dispatcher_at e (d ∷ ds) = if is_at e d then Some d else dispatcher_at e ds

-- it moves so, and the others stay
abbrev pub at_dispatcher : End → (Dispatcher → Dispatcher) → List Dispatcher → List Dispatcher
at_dispatcher e f [] = []
at_dispatcher e f (d ∷ ds) = if is_at e d then f d ∷ ds else d ∷ at_dispatcher e f ds

-- ---- what is promised: a hook's calls begin the events from its place on, which is no earlier than where its epoch
-- starts; every event below that was dispatched

-- p begins q
abbrev pub Begins : {A : Type 0} → List A → List A → Type 0
Begins {A} p q = (rest : List A) × (p ++ rest ≡ q)

pub record SlotFollows (events : List ChannelEvent) (l : Epoch) (s : HookSlot) : Type 0 where
  pub after_start : l.start ≤ s.place
  pub begins : Begins (called l s) (drop s.place events)

pub record EpochFollows (events : List ChannelEvent) (reach : ℕ) (l : Epoch) : Type 0 where
  pub dispatched_below : l.start ≤ reach
  pub slots : Each (SlotFollows events l) l.slots

pub record DispatcherFollows (events : List ChannelEvent) (d : Dispatcher) : Type 0 where
  pub reach_told : d.reach ≤ length events
  pub epoch : EpochFollows events d.reach d.epoch
  pub past : Each (EpochFollows events d.reach) d.past
