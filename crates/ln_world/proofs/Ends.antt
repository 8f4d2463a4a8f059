-- Each end of each channel of a world is tidy and fit.
use Rattle.std.proofs.Common.{◌≡◌, ℕ, List, Bool}
use Rattle.ln_keys.specs.Signer.{Signer}
use Rattle.ln_keys.specs.declared.role.Role.{Role}
use Rattle.ln_keys.specs.declared.role.Role.TheVariants.{Funder, Fundee}
use Rattle.ln_channel.specs.declared.machine.ConnectionState.{ConnectionState}
use Rattle.ln_channel.specs.End.{End, end_dropped}
use Rattle.ln_world_channels.proofs.Dropped.{are_dropped}
use Rattle.ln_channel.specs.State.{State, is_down}
use Rattle.ln_world_channels.specs.Both.{Both}
use Rattle.ln_world_channels.specs.WorldChannel.{place_of}
use Rattle.ln_world_channels.proofs.Mirror.{link_at}
use Rattle.ln_world_channels.proofs.Kept.{IsRun}
use Rattle.std.proofs.Common.{true}
use Rattle.ln_world.proofs.Tidies.{EndIs, both_are}

-- a link of an open channel, which hasn't failed, of an end of the channel with this id
pub record IsLink {K : Type 0} (id : List ℕ) (s : State K) : Type 0 where
  pub halted : Bool
  pub keys : K
  pub connection : ConnectionState
  pub end : End
  pub link : s ≡ link_at halted keys connection end
  pub down : halted ≡ true → is_down connection ≡ true
  pub dropped : is_down connection ≡ true → end_dropped end ≡ end
  pub is : EndIs end
  pub channel : end.dance.channel ≡ id

module _ {K : Type 0} (signer : K → Signer) (id : List ℕ) (p : Both K) (r : IsRun signer id p) where
  unfoldable pub x_is : IsLink id p.x.link
  x_is = record {
    halted = r.mirrors.x_halted;
    keys = r.funders;
    connection = _;
    end = _;
    link = r.mirrors.x_link;
    down = r.mirrors.x_down;
    dropped = (are_dropped (signer r.funders) (signer r.fundees) r.steps r.funder r.fundee).x;
    is = (both_are (signer r.funders) (signer r.fundees) r.spec r.config r.funder r.fundee r.keys r.opens r.steps).0;
    channel = r.mirrors.x_channel;
  }

  unfoldable pub y_is : IsLink id p.y.link
  y_is = record {
    halted = r.mirrors.y_halted;
    keys = r.fundees;
    connection = _;
    end = _;
    link = r.mirrors.y_link;
    down = r.mirrors.y_down;
    dropped = (are_dropped (signer r.funders) (signer r.fundees) r.steps r.funder r.fundee).y;
    is = (both_are (signer r.funders) (signer r.fundees) r.spec r.config r.funder r.fundee r.keys r.opens r.steps).1;
    channel = r.mirrors.y_channel;
  }

  unfoldable pub is_link : (side : Role) → IsLink id (place_of side p).link
  is_link Funder = x_is
  is_link Fundee = y_is
