-- By what a step may fail: for want of memory (60), and where an end acts or opens its channel also by an end that has
-- no record as that leaves it, so that it can't be saved (70). A restart and a reload find what was saved.
use Rattle.std.specs.Prelude.{◌≡◌, ◌⊎◌, ℕ, List, [], ◌∷◌, Option, Some, None, true}
use Rattle.ln_refusals.specs.declared.refusal.Refusal.{Refusal}
use Rattle.ln_refusals.specs.declared.refusal.Refusal.TheVariants as refusal
use Rattle.ln_keys.specs.declared.keys.ChannelKeys.{Ghosts}
use Rattle.ln_keys.specs.declared.role.Role.{Role}
use Rattle.ln_keys.specs.Signer.{Signer}
use Rattle.ln_channel.specs.End.{End as ChannelEnd}
use Rattle.ln_channel.specs.Record.{saved_end}
use Rattle.ln_channel.specs.State.{State}
use Rattle.ln_link.specs.Record.{NoRecord}
use Rattle.ln_world_channels.specs.declared.step.Act.{Act}
use Rattle.ln_world_channels.specs.declared.step.End.{End}
use Rattle.ln_world_channels.specs.declared.step.Node.{Node}
use Rattle.ln_world_channels.specs.declared.step.Open.{Open}
use Rattle.ln_world_channels.specs.declared.step.RecordLeft.{RecordLeft}
use Rattle.ln_world_channels.specs.declared.step.RecordLeft.TheVariants as record_left
use Rattle.ln_world_channels.specs.declared.step.Step.{Step}
use Rattle.ln_world_channels.specs.declared.step.Step.TheVariants as step
use Rattle.ln_world_channels.specs.declared.settings.Settings.{Settings}
use Rattle.ln_world_channels.specs.Settings.{channel_id_of}
use Rattle.ln_world_channels.specs.Both.{Both, Move, By, Stops, HaltsAfter, moves, unheard}
use Rattle.ln_world_channels.specs.WorldChannel.{WorldChannel, side_of, place_of, acted_unheard, begun_by}
use Rattle.ln_world_channels.specs.WorldChannel.{opening_moves}
use Rattle.ln_world_channels.specs.World.{World, settings_of, channel, may_open, happens}

-- ---- what is to be saved has no record

abbrev pub LacksRecord : Option Refusal → Option ChannelEnd → Type 0
LacksRecord failure None = ⊥
LacksRecord failure (Some e) = NoRecord failure e

abbrev pub LinkLacks : {K : Type 0} → State K → Type 0
LinkLacks l = LacksRecord l.failure (saved_end l.stage)

-- one of these moves leaves the end that acts without a record
abbrev pub MoveLacks : {K : Type 0} → (K → Signer) → Move → Both K → Type 0
MoveLacks signer (By side a) p = LinkLacks (unheard signer a (place_of side p)).link
MoveLacks signer (Stops side a) p = LinkLacks (unheard signer a (place_of side p)).link
MoveLacks signer (HaltsAfter side a) p = LinkLacks (unheard signer a (place_of side p)).link
MoveLacks signer m p = ⊥

abbrev pub MovesLack : {K : Type 0} → (K → Signer) → List ℕ → List Move → Both K → Type 0
MovesLack signer id [] p = ⊥
MovesLack signer id (m ∷ ms) p = MoveLacks signer m p ⊎ MovesLack signer id ms (moves signer id m p)

-- the opening does
abbrev pub OpeningLacks : {K : Type 0} → (k : Ghosts K) → Open K k → Settings → Settings → Type 0
OpeningLacks k o funder fundee =
    MovesLack k.signer (channel_id_of o.channel) opening_moves (begun_by k o funder fundee).both

-- the end of this side, where the node has one
abbrev pub SideLacks : {K : Type 0} → Option Role → Both K → Type 0
SideLacks None p = ⊥
SideLacks (Some side) p = LinkLacks (place_of side p).link

-- the node's end, as the act leaves it
abbrev pub ActLacks : {K : Type 0} → (K → Signer) → Node → Act → WorldChannel K → Type 0
ActLacks signer n a c = SideLacks (side_of n c) (acted_unheard signer n a c).both

abbrev pub ActLacksIn : {K : Type 0} → (K → Signer) → Node → Act → Option (WorldChannel K) → Type 0
ActLacksIn signer n a None = ⊥
ActLacksIn signer n a (Some c) = ActLacks signer n a c

-- of the channel that the end is of
abbrev pub ActLacksAt : {K : Type 0} → (K → Signer) → End → Act → List (WorldChannel K) → Type 0
ActLacksAt signer e a cs = ActLacksIn signer e.node a (channel e.channel cs)

-- it is to have the record as the act leaves it, after a save that failed
abbrev pub FailedSaveLacks : {K : Type 0} → (K → Signer) → RecordLeft → End → Act → List (WorldChannel K) → Type 0
FailedSaveLacks signer record_left.Old e a cs = ⊥
FailedSaveLacks signer record_left.New e a cs = ActLacksAt signer e a cs

-- ---- in a step, and in a list of steps

abbrev pub ByRecord : Refusal → Type 0 → Type 0
ByRecord r lacks = (r ≡ refusal.Memory) ⊎ ((r ≡ refusal.Damaged) × lacks)

-- a channel that may be opened
abbrev pub OpenLacks : {K : Type 0} → (k : Ghosts K) → Open K k → World K → Type 0
OpenLacks k o w =
    (may_open o w ≡ true) × OpeningLacks k o (settings_of o.funder w.settings) (settings_of o.fundee w.settings)

abbrev pub MayFail : {K : Type 0} → (k : Ghosts K) → Step K k → Refusal → World K → Type 0
MayFail k (step.Open o) r w = ByRecord r (OpenLacks k o w)
MayFail k (step.Do e a) r w = ByRecord r (ActLacksAt k.signer e a w.channels)
MayFail k (step.SaveFails e a left) r w = ByRecord r (FailedSaveLacks k.signer left e a w.channels)
MayFail k (step.StopAfter e a) r w = ByRecord r (ActLacksAt k.signer e a w.channels)
MayFail k s r w = r ≡ refusal.Memory

-- one of the steps, in the world before it
abbrev pub SomeMayFail : {K : Type 0} → (k : Ghosts K) → List (Step K k) → Refusal → World K → Type 0
SomeMayFail k [] r w = ⊥
SomeMayFail k (s ∷ ss) r w = MayFail k s r w ⊎ SomeMayFail k ss r (happens k s w)
