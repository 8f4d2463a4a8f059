-- By what a step fails that fails by an end without a record.
use Rattle.std.proofs.Common.{◌≡◌, ℕ, List, ◌∷◌, get_or, position, sym, subst, inl, inr, Some, ◌==◌}
use Rattle.ln_msgs.specs.declared.messages.message.Message.{Message}
use Rattle.ln_refusals.specs.declared.refusal.Refusal.{Refusal}
use Rattle.ln_keys.specs.declared.role.Role.{Role}
use Rattle.ln_keys.specs.declared.role.Role.TheVariants.{Funder, Fundee}
use Rattle.ln_keys.specs.Signer.{Signer}
use Rattle.ln_world_channels.specs.declared.step.Act.{Act}
use Rattle.ln_world_channels.specs.declared.step.End.{End}
use Rattle.ln_world_channels.specs.declared.step.Node.{Node}
use Rattle.ln_world_channels.specs.Both.{Both, SimEnd, unheard, delivered_unheard}
use Rattle.ln_world_channels.specs.WorldChannel.{WorldChannel, side_of, place_of, side_unheard}
use Rattle.ln_world_channels.specs.Failing.{ByRecord, LinkLacks, SideLacks, ActLacks, ActLacksIn, ActLacksAt}
use Rattle.ln_world_channels.proofs.Places.{found_where}

pub by_record : (r : Refusal) (P Q : Type 0) → (P → Q) → ByRecord r P → ByRecord r Q
by_record r P Q f (inl e) = inl e
by_record r P Q f (inr h) = inr (h.0, f h.1)

module _ {K : Type 0} (signer : K → Signer) where
  -- an end that takes the message in front
  pub lacks_delivered : (m : Message) (ms inbox : List Message) (p : SimEnd K) → inbox ≡ m ∷ ms
      → LinkLacks (delivered_unheard signer (m ∷ ms) p).link → LinkLacks (delivered_unheard signer inbox p).link
  lacks_delivered m ms inbox p e = subst (λ l. LinkLacks (delivered_unheard signer l p).link) (sym e)

  -- the side of the node
  side_lacks : (a : Act) (side : Role) (p : Both K) → LinkLacks (unheard signer a (place_of side p)).link
      → SideLacks (Some side) (side_unheard signer a (Some side) p)
  side_lacks a Funder p h = h
  side_lacks a Fundee p h = h

  pub acts_lacks : (n : Node) (a : Act) (c : WorldChannel K) (side : Role) → side_of n c ≡ Some side
      → LinkLacks (unheard signer a (place_of side c.both)).link → ActLacks signer n a c
  acts_lacks n a c side e h =
      subst (λ o. SideLacks o (side_unheard signer a o c.both)) (sym e) (side_lacks a side c.both h)

  -- the channel that is found
  pub lacks_there : (e : End) (a : Act) (cs : List (WorldChannel K)) (i : ℕ) (d : WorldChannel K)
      → Some i ≡ position (λ c. c.number == e.channel) cs → ActLacks signer e.node a (get_or cs i d)
      → ActLacksAt signer e a cs
  lacks_there e a cs i d is h = subst (ActLacksIn signer e.node a) (sym (found_where e.channel cs i d is)) h
