use Rattle.std.proofs.Common.{◌++◌, length, drop, replicate, ap, ◌∙◌, zero-add}
use Rattle.std.proofs.lemmas.List.{drop-replicate}
use Rattle.ln_keys.specs.ToyOnion.{filled}
use Rattle.ln_keys.proofs.toy_onion.room_of.Goals as goal

pub returns : goal.returns
unfolding filled
returns c =
    c.put.ensures ∙ ap (λ l. c.args.bytes.now ++ l)
    (ap (λ n. drop n (replicate 1300 0)) (zero-add (length c.args.bytes.now))
    ∙ drop-replicate (length c.args.bytes.now) 1300 0)
