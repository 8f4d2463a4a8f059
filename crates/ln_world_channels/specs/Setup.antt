-- What the steps of a world set a channel up with.
use Rattle.std.specs.Prelude.{◌≡◌, ℕ, List, [], ◌∷◌, Option, Some, None, ◌==◌, ◌&&◌, if◌then◌else◌}
use Rattle.ln_keys.specs.declared.keys.ChannelKeys.{Ghosts}
use Rattle.ln_channel_laws.specs.Setup.{Setup, AreSetUp}
use Rattle.ln_world_channels.specs.declared.settings.Settings.{Settings}
use Rattle.ln_world_channels.specs.declared.step.Step.{Step}
use Rattle.ln_world_channels.specs.declared.step.Step.TheVariants as step
use Rattle.ln_world_channels.specs.Settings.{opening_by}
use Rattle.ln_world_channels.specs.WorldChannel.{WorldChannel}
use Rattle.ln_world_channels.specs.World.{World, settings_of, may_open}
use Rattle.ln_world_channels.specs.Promises.{AtEnds}
use Rattle.ln_world_channels.specs.Course.{over}

-- by what was set for the nodes of a channel: limits on HTLCs, and closing fees
abbrev pub setup_by : ℕ → ℕ → Settings → Settings → Setup
setup_by satoshis push funder fundee = record {
  opening = opening_by satoshis push funder fundee;
  funder = funder.fees;
  fundee = fundee.fees;
}

-- of a step that opens the channel with this number
abbrev pub setup_in : {K : Type 0} → (k : Ghosts K) → ℕ → Step K k → World K → List Setup
setup_in k n (step.Open o) w =
    if may_open o w && o.channel == n
    then setup_by o.satoshis o.push (settings_of o.funder w.settings) (settings_of o.fundee w.settings) ∷ []
    else []
setup_in k n s w = []

abbrev pub all_setups : {K : Type 0} → (k : Ghosts K) → ℕ → List (Step K k) → World K → List Setup
all_setups k n ss w = over k (setup_in k n) ss w

-- the channel is there where it was opened, which was once, and its ends are set up so
abbrev pub OpensAsSet : {K : Type 0} → List Setup → Option (WorldChannel K) → Type 0
OpensAsSet [] c = c ≡ None
OpensAsSet (s ∷ []) (Some c) = AtEnds (AreSetUp s) c.both.x.link.stage c.both.y.link.stage
OpensAsSet (s ∷ []) None = ⊥
OpensAsSet (s ∷ t ∷ ss) c = ⊥
