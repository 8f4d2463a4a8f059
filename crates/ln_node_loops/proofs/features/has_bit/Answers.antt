use Rattle.std.proofs.Common.{◌∙◌, ◌%◌, ◌<◌, ◌==◌, length, get_or, reverse, sym, ap, arith}
use Rattle.std.proofs.lemmas.List.{get_or-reverse}
use Rattle.std.proofs.lemmas.Bool.Decides.{nat_tests}
use Rattle.std.specs.Int.{bit_at}
use Rattle.ln_node_loops.proofs.features.has_bit.Goals as goal

pub returns : goal.returns
returns c =
    let features = c.args.features.now in
    let place = c.from-place.result in
    let bit = c.args.bit % 8 in
    let within : place < length features = grind (arith, nat_tests) in
    c.is_set.ensures
    ∙ ap (λ b. bit_at b bit == 1) (sym (get_or-reverse features place 0 within))
    ∙ ap (λ n. bit_at (get_or (reverse features) n 0) bit == 1) c.from-place.ensures
