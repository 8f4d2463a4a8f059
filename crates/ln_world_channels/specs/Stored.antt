-- What an end's store has: nothing until both have signed the opening, and from then on the record of the end as it is,
-- which can be loaded. So a restart finds what the last call has left.
use Rattle.std.specs.Prelude.{◌≡◌, ℕ, List, Option, Some, None}
use Rattle.std.specs.FinMap as map
use Rattle.ln_refusals.specs.declared.refusal.Refusal.{Refusal}
use Rattle.ln_keys.specs.declared.role.Role.{Role}
use Rattle.ln_channel.specs.End.{End as ChannelEnd}
use Rattle.ln_channel.specs.Record.{saved_end}
use Rattle.ln_channel.specs.State.{State}
use Rattle.ln_store.specs.Store.{Records}
use Rattle.ln_store.specs.Record.{record_bytes}
use Rattle.ln_link.specs.Record.{items_of}
use Rattle.ln_link.specs.Calls.{Has}
use Rattle.ln_world_channels.specs.declared.step.End.{End}
use Rattle.ln_world_channels.specs.declared.step.Node.{Node}
use Rattle.ln_world_channels.specs.Both.{Both}
use Rattle.ln_world_channels.specs.WorldChannel.{WorldChannel, side_of, place_of}
use Rattle.ln_world_channels.specs.World.{World, channel}

-- ---- what a store has of a link

abbrev pub HasNothing : Option ChannelEnd → Records → Type 0
HasNothing None rs = rs ≡ map.empty
HasNothing (Some e) rs = Unit {0}

pub record IsKept {K : Type 0} (l : State K) (rs : Records) : Type 0 where
  pub has_the_record : Has l.failure (saved_end l.stage) rs  -- of an end that both have signed
  pub has_nothing_before : HasNothing (saved_end l.stage) rs

-- ---- the record itself

-- its bytes; none before both have signed the opening
abbrev pub end_record : Option Refusal → Option ChannelEnd → Option (List ℕ)
end_record failure None = None
end_record failure (Some e) = Some (record_bytes (items_of failure e))

abbrev pub link_record : {K : Type 0} → State K → Option (List ℕ)
link_record l = end_record l.failure (saved_end l.stage)

-- of the end of this side, where the node has one
abbrev pub side_record : {K : Type 0} → Option Role → Both K → Option (List ℕ)
side_record None p = None
side_record (Some side) p = link_record (place_of side p).link

abbrev pub record_there : {K : Type 0} → Node → Option (WorldChannel K) → Option (List ℕ)
record_there n None = None
record_there n (Some c) = side_record (side_of n c) c.both

-- of an end of a world
abbrev pub record_at : {K : Type 0} → End → World K → Option (List ℕ)
record_at e w = record_there e.node (channel e.channel w.channels)
