use Rattle.std.proofs.Common.{ℕ, List, ◌<◌, length, get_or, subst, arith}
use Rattle.std.proofs.lemmas.Str.{IsCharBoundary-after_ascii}
use Rattle.ln_script.proofs.word.end_of.Goals as goal

pub range_from-requires : goal.range_from-requires
range_from-requires c = λ one.
    let ascii : get_or c.args.word.now 0 0 < 128 =
    subst (λ (w : List ℕ). get_or w 0 0 < 128) c.as_bytes.ensures.value (omega arith) in
    let some : 0 < length c.args.word.now = subst (λ (w : List ℕ). 0 < length w)
    c.as_bytes.ensures.value (omega arith) in
    IsCharBoundary-after_ascii c.args.word.now 0 c.utf8.word some ascii
