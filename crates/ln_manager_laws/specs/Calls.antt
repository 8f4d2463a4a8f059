-- The calls of one link, one after the other, whatever its peer sends and its keys answer.
use Rattle.std.specs.Prelude.{ℕ, List, [], ◌∷◌, true, Option, Some, None, option_map, Result, Ok, Err, if◌then◌else◌}
use Rattle.ln_msgs.specs.declared.messages.message.Message.{Message}
use Rattle.ln_refusals.specs.declared.refusal.Refusal.{Refusal}
use Rattle.ln_keys.specs.Signer.{Signer}
use Rattle.ln_channel.specs.declared.command.Command as command
use Rattle.ln_channel.specs.declared.machine.Stage.{Stage}
use Rattle.ln_channel.specs.Asking.{with_named}
use Rattle.ln_channel.specs.End.{End, end_dropped}
use Rattle.ln_channel.specs.Record.{saved_end, came_back}
use Rattle.ln_channel.specs.State.{State, begun, refused, drops}
use Rattle.ln_channel.specs.Step.{Done, commanded, connected}
use Rattle.ln_store.specs.Store.{Records}
use Rattle.ln_link.specs.Saving.{handled_beside, reached}
use Rattle.ln_link.specs.Calls.{left_by}

-- A link, with its end as the link has it. Where it has halted, the end is what a lost connection leaves of it as it
-- was before the call that halted the link, as its record has no more.
pub record Seat (K : Type 0) : Type 0 where
  pub link : State K
  pub end : Option End  -- once both sides have signed the opening

abbrev pub working : {K : Type 0} → State K → Seat K
working l = record { link = l; end = saved_end l.stage }

-- a link as it begins, from this stage
abbrev pub begun_seat : {K : Type 0} → K → Stage → Seat K
begun_seat keys s = working (begun keys s)

-- ---- a call

pub data Call (K : Type 0) : Type 0 where
  SetKeys : (keys : K) → Call K
  NameFunding : (txid : List ℕ) (output : ℕ) → Call K
  Handle : (known : Records) (m : Message) → Call K  -- over a store that has these records
  Command : (c : command.Command) → Call K
  Connect : Call K
  DropConnection : Call K
  -- any call, for want of memory or of a save: wherever that leaves the link, it answers nothing more
  Halt : (left : State K) → Call K
  -- the link comes back from its record, which tells by what its channel has failed
  Load : (keys : K) (failure : Option Refusal) → Call K

-- a connection saves nothing, and leaves the base where it stands
abbrev pub connected_by : {K : Type 0} → Result Done Refusal → State K → State K
connected_by (Ok d) l = reached d l
connected_by (Err r) l = l

-- what a call makes of a link, where it is done or refused
abbrev pub made : {K : Type 0} → (K → Signer) → Call K → State K → State K
made signer (SetKeys keys) l = record l { keys = keys }
made signer (NameFunding txid output) l = record l { stage = with_named txid output l.stage }
made signer (Handle known m) l = left_by (handled_beside known (signer l.keys) l m) (λ r. refused r l) l
made signer (Command c) l = left_by (commanded (signer l.keys) l c) (λ r. l) l
made signer Connect l = connected_by (connected (signer l.keys) l) l
made signer DropConnection l = drops l
made signer (Halt left) l = l
made signer (Load keys failure) l = l

-- the end of a link that has halted stays as it is
abbrev pub seated : {K : Type 0} → Seat K → State K → Seat K
seated x l = if x.link.halted then record x { link = l } else working l

abbrev pub loaded : {K : Type 0} → K → Option Refusal → Option End → Seat K → Seat K
loaded keys failure (Some e) x = working (came_back keys failure (end_dropped e))
loaded keys failure None x = x

abbrev pub called : {K : Type 0} → (K → Signer) → Call K → Seat K → Seat K
called signer (Halt left) x = record { link = record left { halted = true }; end = option_map end_dropped x.end }
called signer (Load keys failure) x = loaded keys failure x.end x
called signer k x = seated x (made signer k x.link)

-- ---- one after the other

abbrev pub all_called : {K : Type 0} → (K → Signer) → List (Call K) → Seat K → Seat K
all_called signer [] x = x
all_called signer (k ∷ ks) x = all_called signer ks (called signer k x)
