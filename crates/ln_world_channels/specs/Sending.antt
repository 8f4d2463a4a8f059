-- What each end of a channel sends over a list of steps, over all its connections (BOLT 2, "Closing Initiation:
-- shutdown").
use Rattle.std.specs.Prelude.{ℕ, List, [], ◌∷◌, false}
use Rattle.ln_msgs.specs.declared.messages.message.Message.{Message}
use Rattle.ln_keys.specs.declared.keys.ChannelKeys.{Ghosts}
use Rattle.ln_keys.specs.declared.role.Role.{Role}
use Rattle.ln_keys.specs.declared.role.Role.TheVariants.{Funder, Fundee}
use Rattle.ln_keys.specs.Signer.{Signer}
use Rattle.ln_channel.specs.State.{State}
use Rattle.ln_channel.specs.Step.{handled, commanded}
use Rattle.ln_channel_laws.specs.Promises.{AddsBefore}
use Rattle.ln_world_channels.specs.declared.step.Act.{Act}
use Rattle.ln_world_channels.specs.declared.step.Act.TheVariants as act
use Rattle.ln_world_channels.specs.declared.step.Step.{Step}
use Rattle.ln_world_channels.specs.Both.{Both, SimEnd, Move, By, Disconnects, Halts, Restarts, Stops, HaltsAfter, Meet}
use Rattle.ln_world_channels.specs.Both.{sent_by, greets}
use Rattle.ln_world_channels.specs.Both.{first_message}
use Rattle.ln_world_channels.specs.World.{World, channel}
use Rattle.ln_world_channels.specs.Course.{in_channel, over}

-- ---- in a move

abbrev pub delivery_sends : {K : Type 0} → (K → Signer) → List ℕ → List Message → State K → List Message
delivery_sends signer id [] l = []
delivery_sends signer id (m ∷ ms) l = sent_by id (handled (signer l.keys) l m)

abbrev pub act_sends : {K : Type 0} → (K → Signer) → List ℕ → Act → SimEnd K → List Message
act_sends signer id act.Deliver p = delivery_sends signer id p.inbox p.link
act_sends signer id (act.Send c) p = sent_by id (commanded (signer p.link.keys) p.link c)

-- the end of this side; where its node stops after an act, or the act's save fails and the store has it all the same,
-- what the act hands out counts as sent, though nobody gets it
abbrev pub sends : {K : Type 0} → (K → Signer) → Role → List ℕ → Move → Both K → List Message
sends signer Funder id (By Funder a) p = act_sends signer id a p.x
sends signer Funder id (By Fundee a) p = []
sends signer Funder id (Disconnects side) p = []
sends signer Funder id (Halts side) p = []
sends signer Funder id (Restarts side) p = []
sends signer Funder id (Stops Funder a) p = act_sends signer id a p.x
sends signer Funder id (Stops Fundee a) p = []
sends signer Funder id (HaltsAfter Funder a) p = act_sends signer id a p.x
sends signer Funder id (HaltsAfter Fundee a) p = []
sends signer Funder id Meet p = greets (first_message signer p.x.link)
sends signer Fundee id (By Funder a) p = []
sends signer Fundee id (By Fundee a) p = act_sends signer id a p.y
sends signer Fundee id (Disconnects side) p = []
sends signer Fundee id (Halts side) p = []
sends signer Fundee id (Restarts side) p = []
sends signer Fundee id (Stops Funder a) p = []
sends signer Fundee id (Stops Fundee a) p = act_sends signer id a p.y
sends signer Fundee id (HaltsAfter Funder a) p = []
sends signer Fundee id (HaltsAfter Fundee a) p = act_sends signer id a p.y
sends signer Fundee id Meet p = greets (first_message signer p.y.link)

-- ---- over a list of steps

-- the end of this side of the channel with this number, since it was opened
abbrev pub sent_in : {K : Type 0} → (k : Ghosts K) → ℕ → Role → Step K k → World K → List Message
sent_in k n side s w = in_channel k (sends k.signer side) s w (channel n w.channels)

abbrev pub all_sent : {K : Type 0} → (k : Ghosts K) → ℕ → Role → List (Step K k) → World K → List Message
all_sent k n side ss w = over k (sent_in k n side) ss w

-- of all that either end sends no update_add_htlc stands after its shutdown
abbrev pub NoneAddsLate : {K : Type 0} → (k : Ghosts K) → ℕ → List (Step K k) → World K → Type 0
NoneAddsLate k n ss w = AddsBefore false (all_sent k n Funder ss w) × AddsBefore false (all_sent k n Fundee ss w)
