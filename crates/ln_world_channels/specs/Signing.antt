-- What each commitment_signed in flight between the ends of a channel is over (BOLT 2, "Committing Updates So Far:
-- commitment_signed").
use Rattle.ln_keys.specs.Signer.{Signer}
use Rattle.ln_channel.specs.End.{End}
use Rattle.ln_channel_laws.specs.Signing.{Signs}
use Rattle.ln_world_channels.specs.Both.{Both}
use Rattle.ln_world_channels.specs.Promises.{AtEnds}

-- by the keys that either link has
abbrev pub LinksSign : {K : Type 0} → (K → Signer) → Both K → End → End → Type 0
LinksSign signer p x y =
    Signs (signer p.x.link.keys) (signer p.y.link.keys) x y p.y.inbox
    × Signs (signer p.y.link.keys) (signer p.x.link.keys) y x p.x.inbox

-- each is over what its signer has covered, for the commitment that is next for the end that it comes to
abbrev pub SignCovered : {K : Type 0} → (K → Signer) → Both K → Type 0
SignCovered signer p = AtEnds (LinksSign signer p) p.x.link.stage p.y.link.stage
