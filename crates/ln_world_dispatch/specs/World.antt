-- Nodes: the channels between them, and the dispatchers of the channels' ends, with which hooks are registered there.
use Rattle.std.specs.Prelude.{◌≡◌, ◌⊎◌, ℕ, zero, suc, ◌-◌, List, [], ◌∷◌, ◌++◌, map, Bool, true, false, not}
use Rattle.std.specs.Prelude.{◌&&◌, ◌==◌, nat_lt, nat_le}
use Rattle.std.specs.Prelude.{Option, Some, None, is_some, option_map, if◌then◌else◌}
use Rattle.std.specs.List.{cons_option, list_any}
use Rattle.ln_refusals.specs.declared.refusal.Refusal.{Refusal}
use Rattle.ln_refusals.specs.declared.refusal.Refusal.TheVariants as refusal
use Rattle.ln_keys.specs.declared.keys.ChannelKeys.{Ghosts}
use Rattle.ln_keys.specs.declared.role.Role.{Role}
use Rattle.ln_keys.specs.declared.role.Role.TheVariants.{Funder, Fundee}
use Rattle.ln_log.specs.declared.mark.EventRef.{EventRef}
use Rattle.ln_hooks.specs.declared.event.ChannelEvent.{ChannelEvent}
use Rattle.ln_hooks.specs.declared.verdict.Verdict.{Verdict}
use Rattle.ln_hooks.specs.declared.verdict.Verdict.TheVariants.{Continue}
use Rattle.ln_channel.specs.declared.command.Command.TheVariants as command
use Rattle.ln_channel.specs.End.{End as ChannelEnd}
use Rattle.ln_channel.specs.Pending.{named_by}
use Rattle.ln_channel.specs.Record.{saved_end}
use Rattle.ln_world_channels.specs.declared.line.Line.{Line}
use Rattle.ln_world_channels.specs.declared.line.Line.TheVariants as line
use Rattle.ln_world_channels.specs.declared.step.Node.{Node}
use Rattle.ln_world_channels.specs.declared.step.Act.{Act}
use Rattle.ln_world_channels.specs.declared.step.Act.TheVariants as act
use Rattle.ln_world_channels.specs.declared.step.End.{End}
use Rattle.ln_world_channels.specs.declared.step.Step.{Step as ChannelStep}
use Rattle.ln_world_channels.specs.declared.step.Step.TheVariants as channel_step
use Rattle.ln_world_channels.specs.WorldChannel.{WorldChannel, is_node, place_of, end_at}
use Rattle.ln_world_channels.specs.World.{World as Channels, channel, may_open, may_be_done}
use Rattle.ln_world_channels.specs.World as channels
use Rattle.ln_world_channels.specs.Failing as failing
use Rattle.ln_world_dispatch.specs.declared.step.Step.{Step}
use Rattle.ln_world_dispatch.specs.declared.step.Step.TheVariants as step
use Rattle.ln_world_dispatch.specs.Dispatcher.{Epoch, Dispatcher, next, fresh, serving, registered, restarted}
use Rattle.ln_world_dispatch.specs.Dispatcher.{dispatcher_at, at_dispatcher}

pub record World (K : Type 0) : Type 0 where
  pub channels : Channels K  -- what was set for the nodes, and their channels
  pub dispatchers : List Dispatcher  -- two for each channel, from its opening on
  pub used : List ℕ  -- hooks that were registered, by their places in the list that was handed in
  pub hooks : ℕ  -- how many were handed in

-- so many hooks were handed in, and nothing has happened
abbrev pub empty : {K : Type 0} → ℕ → World K
empty n = record { channels = channels.empty; dispatchers = []; used = []; hooks = n }

-- ---- an act that can be taken: a decision only of an event that the end's dispatcher has dispatched

-- it is there, and the number is below that of the event that it serves next
abbrev pub is_below_next : ℕ → Option Dispatcher → Bool
is_below_next n None = false
is_below_next n (Some d) = nat_lt n (next d.epoch)

abbrev pub is_dispatched : {K : Type 0} → End → Act → World K → Bool
is_dispatched e (act.Send (command.Decide n mark)) w = is_below_next n (dispatcher_at e w.dispatchers)
is_dispatched e a w = true

-- and the end is there, with a message in flight to it where it is to take one
abbrev pub may_act : {K : Type 0} → End → Act → World K → Bool
may_act e a w = is_dispatched e a w && may_be_done e a w.channels.channels

-- ---- the step of channels that a step is: none where it is a dispatcher's alone, or a decision that can't be taken

abbrev pub where_dispatched : {K : Type 0} {k : Ghosts K} → End → Act → World K → ChannelStep K k
    → Option (ChannelStep K k)
where_dispatched e a w s = if is_dispatched e a w then Some s else None

abbrev pub plain : {K : Type 0} → (k : Ghosts K) → Step K k → World K → Option (ChannelStep K k)
plain k (step.Fees n fees) w = Some (channel_step.Fees n fees)
plain k (step.Limits n limits) w = Some (channel_step.Limits n limits)
plain k (step.Open o) w = Some (channel_step.Open o)
plain k (step.Do e a) w = where_dispatched e a w (channel_step.Do e a)
plain k (step.Down e) w = Some (channel_step.Down e)
plain k (step.NoMemory e a) w = where_dispatched e a w (channel_step.NoMemory e a)
plain k (step.SaveFails e a left) w = where_dispatched e a w (channel_step.SaveFails e a left)
plain k (step.Restart n) w = Some (channel_step.Restart n)
plain k (step.Reload e) w = Some (channel_step.Reload e)
plain k (step.StopBefore e a) w = where_dispatched e a w (channel_step.StopBefore e a)
plain k (step.StopAfter e a) w = where_dispatched e a w (channel_step.StopAfter e a)
plain k (step.Up n) w = Some (channel_step.Up n)
plain k (step.Dispatch e) w = None
plain k (step.Register e hook) w = None

abbrev pub moved_by : {K : Type 0} → (k : Ghosts K) → Option (ChannelStep K k) → Channels K → Channels K
moved_by k None w = w
moved_by k (Some s) w = channels.happens k s w

-- what can't be taken is idle
abbrev pub lines_by : {K : Type 0} → (k : Ghosts K) → Option (ChannelStep K k) → Channels K → List Line
lines_by k None w = line.Idle ∷ []
lines_by k (Some s) w = channels.step_lines k s w

-- ---- what a dispatcher reads of its end: the ledger, by the number of an event

-- the item of this number, the first being 0
abbrev pub item : {A : Type 0} → ℕ → List A → Option A
item n [] = None
item zero (x ∷ xs) = Some x
item (suc n) (x ∷ xs) = item n xs

abbrev pub named_at : Option EventRef → ChannelEnd → Option ChannelEvent
named_at None e = None
named_at (Some r) e = named_by r e

-- the event of this number, of those that aren't decided
abbrev pub undecided : ℕ → ChannelEnd → Option ChannelEvent
undecided n e = if nat_le e.ledger.decided n then named_at (item (n - e.ledger.decided) e.ledger.undecided) e else None

-- the end of this side of a channel, where both have signed its opening
abbrev pub saved_in : {K : Type 0} → Role → Option (WorldChannel K) → Option ChannelEnd
saved_in side None = None
saved_in side (Some c) = saved_end (place_of side c.both).link.stage

abbrev pub undecided_of : ℕ → Option ChannelEnd → Option ChannelEvent
undecided_of n None = None
undecided_of n (Some e) = undecided n e

abbrev pub decided_of : Option ChannelEnd → ℕ
decided_of None = 0
decided_of (Some e) = e.ledger.decided

-- the event that a dispatcher serves next, where its end holds it by now
abbrev pub event_for : {K : Type 0} → Dispatcher → Channels K → Option ChannelEvent
event_for d w = undecided_of (next d.epoch) (saved_in d.side (channel d.end.channel w.channels))

-- with its number
abbrev pub numbered_for : {K : Type 0} → Option Dispatcher → Channels K → Option (ℕ × ChannelEvent)
numbered_for None w = None
numbered_for (Some d) w = option_map (λ event. (next d.epoch, event)) (event_for d w)

-- of an end
abbrev pub next_event : {K : Type 0} → End → World K → Option (ℕ × ChannelEvent)
next_event e w = numbered_for (dispatcher_at e w.dispatchers) w.channels

-- how many events the dispatcher's end has decided
abbrev pub decided_for : {K : Type 0} → Dispatcher → Channels K → ℕ
decided_for d w = decided_of (saved_in d.side (channel d.end.channel w.channels))

-- ---- the event that waits for its end's decision: the first that the end hasn't decided, where its dispatcher has
-- dispatched it in this epoch

abbrev pub both_of : {A B : Type 0} → Option A → Option B → Option (A × B)
both_of (Some x) (Some y) = Some (x, y)
both_of x y = None

-- the event of this number as it was served in an epoch, and what the hooks said of it
abbrev pub served_in : ℕ → Epoch → Option (ChannelEvent × Verdict)
served_in n l = if nat_le l.start n then both_of (item (n - l.start) l.served) (item (n - l.start) l.said) else None

abbrev pub waiting_of : Epoch → Option ChannelEnd → Option (ℕ × ChannelEvent × Verdict)
waiting_of l None = None
waiting_of l (Some e) = option_map (λ p. (e.ledger.decided, p.0, p.1)) (served_in e.ledger.decided l)

abbrev pub waiting_for : {K : Type 0} → Option Dispatcher → Channels K → Option (ℕ × ChannelEvent × Verdict)
waiting_for None w = None
waiting_for (Some d) w = waiting_of d.epoch (saved_in d.side (channel d.end.channel w.channels))

-- its number, the event, and what the hooks said of it
abbrev pub waiting : {K : Type 0} → End → World K → Option (ℕ × ChannelEvent × Verdict)
waiting e w = waiting_for (dispatcher_at e w.dispatchers) w.channels

-- ---- what a step makes of the dispatchers

-- those of a channel that is opened
abbrev pub new_dispatchers : ℕ → Node → Node → List Dispatcher
new_dispatchers channel funder fundee = fresh (end_at channel funder) Funder ∷ fresh (end_at channel fundee) Fundee ∷ []

-- those of a node begin anew, at what their ends have decided as the node comes back
abbrev pub restarts : {K : Type 0} → Node → Channels K → Dispatcher → Dispatcher
restarts n w d = if is_node d.end.node n then restarted (decided_for d w) d else d

abbrev pub all_restart : {K : Type 0} → Node → Channels K → List Dispatcher → List Dispatcher
all_restart n w ds = map (restarts n w) ds

-- the hook was handed in, and has no slot yet
abbrev pub is_unused : {K : Type 0} → ℕ → World K → Bool
is_unused hook w = nat_lt hook w.hooks && not (list_any (λ h. h == hook) w.used)

abbrev pub may_register : {K : Type 0} → End → ℕ → World K → Bool
may_register e hook w = is_unused hook w && is_some (dispatcher_at e w.dispatchers)

-- the end's serves the event, of which its hooks say v
abbrev pub served_at : End → Verdict → Option (ℕ × ChannelEvent) → List Dispatcher → List Dispatcher
served_at e v None ds = ds
served_at e v (Some p) ds = at_dispatcher e (serving p.1 v) ds

-- where the channels are so after the step, and the hooks say v of an event
abbrev pub dispatchers_by : {K : Type 0} → (k : Ghosts K) → Verdict → Step K k → World K → Channels K → List Dispatcher
dispatchers_by k v (step.Open o) w new =
    if may_open o w.channels then w.dispatchers ++ new_dispatchers o.channel o.funder o.fundee else w.dispatchers
dispatchers_by k v (step.Restart n) w new = all_restart n new w.dispatchers
dispatchers_by k v (step.StopBefore e a) w new = if may_act e a w then all_restart e.node new w.dispatchers
    else w.dispatchers
dispatchers_by k v (step.StopAfter e a) w new = if may_act e a w then all_restart e.node new w.dispatchers
    else w.dispatchers
dispatchers_by k v (step.Dispatch e) w new = served_at e v (next_event e w) w.dispatchers
dispatchers_by k v (step.Register e hook) w new =
    if may_register e hook w then at_dispatcher e (registered hook) w.dispatchers else w.dispatchers
dispatchers_by k v s w new = w.dispatchers

abbrev pub used_by : {K : Type 0} → (k : Ghosts K) → Step K k → World K → List ℕ
used_by k (step.Register e hook) w = if may_register e hook w then w.used ++ hook ∷ [] else w.used
used_by k s w = w.used

-- ---- what a step makes of all; the hooks say v of an event that is dispatched in it

abbrev pub happens : {K : Type 0} → (k : Ghosts K) → Verdict → Step K k → World K → World K
happens k v s w =
    let new = moved_by k (plain k s w) w.channels in
    record { channels = new; dispatchers = dispatchers_by k v s w new; used = used_by k s w; hooks = w.hooks }

-- steps, each with what the hooks say in it
abbrev pub run : {K : Type 0} → (k : Ghosts K) → List (Step K k × Verdict) → World K → World K
run k [] w = w
run k (s ∷ ss) w = run k ss (happens k s.1 s.0 w)

-- the steps of channels that they are
abbrev pub plains : {K : Type 0} → (k : Ghosts K) → List (Step K k × Verdict) → World K → List (ChannelStep K k)
plains k [] w = []
plains k (s ∷ ss) w = cons_option (plain k s.0 w) (plains k ss (happens k s.1 s.0 w))

-- ---- what is told of a step, in the world before it

abbrev pub dispatch_lines : End → Verdict → Option (ℕ × ChannelEvent) → List Line
dispatch_lines e v None = line.Idle ∷ []
dispatch_lines e v (Some p) = line.Dispatched e p.0 v ∷ []

abbrev pub register_lines : Bool → List Line
register_lines true = []
register_lines false = line.Idle ∷ []

abbrev pub step_lines : {K : Type 0} → (k : Ghosts K) → Verdict → Step K k → World K → List Line
step_lines k v (step.Dispatch e) w = dispatch_lines e v (next_event e w)
step_lines k v (step.Register e hook) w = register_lines (may_register e hook w)
step_lines k v s w = lines_by k (plain k s w) w.channels

abbrev pub run_lines : {K : Type 0} → (k : Ghosts K) → List (Step K k × Verdict) → World K → List Line
run_lines k [] w = []
run_lines k (s ∷ ss) w = step_lines k s.1 s.0 w ++ run_lines k ss (happens k s.1 s.0 w)

-- ---- of nodes that no hook was handed in to: a dispatcher without hooks says nothing against an event

abbrev pub unhooked : {K : Type 0} {k : Ghosts K} → List (Step K k) → List (Step K k × Verdict)
unhooked ss = map (λ s. (s, Continue)) ss

-- ---- by what a step may fail

abbrev pub MayFailBy : {K : Type 0} → (k : Ghosts K) → Option (ChannelStep K k) → Refusal → Channels K → Type 0
MayFailBy k None r w = r ≡ refusal.Memory
MayFailBy k (Some s) r w = failing.MayFail k s r w

abbrev pub MayFail : {K : Type 0} → (k : Ghosts K) → Step K k → Refusal → World K → Type 0
MayFail k s r w = MayFailBy k (plain k s w) r w.channels

-- one of the steps, in the world before it
abbrev pub SomeMayFail : {K : Type 0} → (k : Ghosts K) → List (Step K k × Verdict) → Refusal → World K → Type 0
SomeMayFail k [] r w = ⊥
SomeMayFail k (s ∷ ss) r w = MayFail k s.0 r w ⊎ SomeMayFail k ss r (happens k s.1 s.0 w)
