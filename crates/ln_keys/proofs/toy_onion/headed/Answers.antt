use Rattle.std.proofs.Common.{◌+◌, ◌∷◌, length, take, drop, replicate, ap, ◌∙◌, refl}
use Rattle.std.proofs.lemmas.List.{take_at}
use Rattle.ln_keys.specs.ToyOnion.{toy_key}
use Rattle.ln_keys.proofs.Packets.{written}
use Rattle.ln_keys.proofs.toy_onion.headed.Goals as goal

pub returns : goal.returns
unfolding toy_key
returns c =
    ap (take 34) (c.put.ensures ∙ ap (λ k. written 1 k (replicate 1366 0)) c.key.ensures)
    ∙ take_at (0 ∷ toy_key) (drop (1 + length toy_key) (replicate 1366 0)) 34 refl
