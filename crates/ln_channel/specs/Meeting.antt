-- A funder and a fundee that open a channel with each other (BOLT 2, "Channel Establishment v1").
use Rattle.std.specs.Prelude.{◌≡◌, Ok}
use Rattle.ln_msgs.specs.declared.messages.opening.AcceptChannel.{AcceptChannel}
use Rattle.ln_msgs.specs.declared.messages.opening.FundingCreated.{FundingCreated}
use Rattle.ln_msgs.specs.declared.messages.opening.FundingSigned.{FundingSigned}
use Rattle.ln_keys.specs.Role.{other_role}
use Rattle.ln_keys.specs.Signer.{Signer}
use Rattle.ln_keys.specs.Partners.{ArePartners}
use Rattle.ln_channel.specs.declared.config.Config.{Config}
use Rattle.ln_channel.specs.declared.config.OpenSpec.{OpenSpec}
use Rattle.ln_channel.specs.declared.opening.Opened.{Opened}
use Rattle.ln_channel.specs.Config.{IsFitConfig, IsFitSpec}
use Rattle.ln_channel.specs.Opening.{Agreement, open_message, open_taken, accept_taken, created_taken, signed_taken}

-- the funder, of keys a, and the fundee, of keys b, are on one chain, and what each brings fits
pub record CanOpen (a b : Signer) (s : OpenSpec) (c : Config) : Type 0 where
  pub partners : ArePartners a b
  pub chain : s.config.chain_hash ≡ c.chain_hash
  pub spec : IsFitSpec s
  pub config : IsFitConfig c

-- the four messages, each taken by the other end, leave these ends
pub record Opens (a b : Signer) (s : OpenSpec) (c : Config) (funder fundee : Opened) : Type 0 where
  pub agreement : Agreement
  pub accept : AcceptChannel
  pub created : FundingCreated
  pub signed : FundingSigned
  pub open_channel : open_taken b c (open_message a s) ≡ Ok (agreement, accept)
  pub accept_channel : accept_taken a s accept ≡ Ok (funder, created)
  pub funding_created : created_taken b agreement created ≡ Ok (fundee, signed)
  pub funding_signed : signed_taken a funder.dance signed ≡ Ok tt

-- the two ends of one channel: they know the same opening, with the roles turned, and hold each other's points
pub record AreEnds (a b : Signer) (funder fundee : Opened) : Type 0 where
  pub channel : fundee.dance.channel ≡ funder.dance.channel
  pub opening : fundee.dance.log.opening ≡ funder.dance.log.opening
  pub roles : fundee.dance.log.role ≡ other_role funder.dance.log.role
  pub open_channel : fundee.terms.open_channel ≡ funder.terms.open_channel
  pub accept_channel : fundee.terms.accept_channel ≡ funder.terms.accept_channel
  pub funders_point : fundee.dance.peer.point ≡ a.point_of 0
  pub fundees_point : funder.dance.peer.point ≡ b.point_of 0
