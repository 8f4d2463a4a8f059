-- Who is found to have lost data, where an end comes back with an older record of its own (BOLT 2, "Message
-- Retransmission").
use Rattle.std.specs.Prelude.{◌≡◌, ◌≢◌, ◌↔◌, ◌<◌, ⊤, Option, Some, None}
use Rattle.ln_refusals.specs.declared.lost_data.LostData.TheVariants.{Own, Peer}
use Rattle.ln_refusals.specs.declared.refusal.Refusal.{Refusal}
use Rattle.ln_refusals.specs.declared.refusal.Refusal.TheVariants as refusal
use Rattle.ln_keys.specs.Signer.{Signer}
use Rattle.ln_dance.specs.Dance.{Dancer}
use Rattle.ln_dance.specs.Resume.{reestablish_message, resume_fault}
use Rattle.ln_channel.specs.End.{End, end_dropped}
use Rattle.ln_channel_laws.specs.Ends.{Ends}

-- why an end refuses the other's channel_reestablish, if it does
abbrev pub refused_of : Signer → Signer → Dancer → Dancer → Option Refusal
refused_of keys other_keys other d = resume_fault keys (reestablish_message other_keys other) d

-- nothing else than that the peer has lost data
abbrev pub AtMostPeerLost : Option Refusal → Type 0
AtMostPeerLost None = ⊤
AtMostPeerLost (Some r) = r ≡ refusal.ReestablishNumber Peer

-- an end of keys a as an older record has it, and the other end, of keys b, as it is now
pub record TellsWhoLost (a b : Signer) (older now : Dancer) : Type 0 where
  -- the other end serves it, or finds that its peer has lost data
  pub other_end : AtMostPeerLost (refused_of b a older now)
  -- it finds that it has lost data exactly where the other end can revoke the commitment that it still holds
  pub older_end : refused_of a b now older ≡ Some (refusal.ReestablishNumber Own)
      ↔ (older.numbers.commitment < now.numbers.revoked)
  -- and never that the other end has
  pub blames_no_peer : refused_of a b now older ≢ Some (refusal.ReestablishNumber Peer)

-- what an end is loaded as
abbrev pub loaded : End → Dancer
loaded e = (end_dropped e).dance

-- either end, loaded from a record of before
pub record BothTellWhoLost (a b : Signer) (before now : Ends) : Type 0 where
  pub x : TellsWhoLost a b (loaded before.x) now.y.dance
  pub y : TellsWhoLost b a (loaded before.y) now.x.dance
