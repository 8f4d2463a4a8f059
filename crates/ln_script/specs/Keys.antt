-- The keys of a script's channels: toy keys that tell no two channels' ends apart but by channel and side.
use Rattle.std.specs.Prelude.{ℕ, List, [], ◌∷◌, ◌++◌, replicate}
use Rattle.std.proofs.Common.{refl}
use Rattle.ln_keys.specs.declared.keys.ChannelKeys.{Ghosts}
use Rattle.ln_keys.specs.declared.toy_keys.ToyKeys.{ToyKeys}
use Rattle.ln_keys.specs.Toy.{toy_signer}
use Rattle.ln_keys.proofs.ToyPartners.{are_partners}
use Rattle.ln_world_channels.specs.declared.step.Partners.{Partners}

-- what toy keys answer
abbrev pub toy : Ghosts ToyKeys
toy = record { signer = λ k. toy_signer k }

-- 31 bytes of the channel's number and one of the side, 0 for the funder and 1 for the fundee
abbrev pub tag_of : ℕ → ℕ → List ℕ
tag_of channel side = replicate 31 channel ++ side ∷ []

abbrev pub keys_of : ℕ → ℕ → ℕ → ToyKeys
keys_of channel own other =
    record { seed = tag_of channel own; tag = tag_of channel own; peer_tag = tag_of channel other }

-- the keys of a channel's two ends: partners, as each one's tag is the other's peer's
unfoldable pub partners_of : ℕ → Partners ToyKeys toy
partners_of channel = record {
  funder = keys_of channel 0 1;
  fundee = keys_of channel 1 0;
  partners = ∣ are_partners (keys_of channel 0 1) (keys_of channel 1 0) (refl, refl) ∣₁;
}
