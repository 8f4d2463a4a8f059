use Rattle.std.proofs.Common.{◌≡◌, take, ap, ◌∙◌, subst, arith}
use Rattle.std.specs.Io.KnownBytes.{Consumes}
use Rattle.ln_node_loops.proofs.Hearing.{finds}
use Rattle.ln_node_loops.proofs.reader.read_message.Goals as goal

pub returns : goal.returns
returns g c =
    let told = c.length_in-len.ensures.is_told in
    let two : c.in-Ok-eq2.field-0 ≡ 2 = grind (arith, c.in-Ok-eq2.field-0-test, c.in-Ok-eq2.field-0-is) in
    finds _ _ _ _ c.length_in-len.result _ c.length_in-len.ensures.fits
    (subst (Consumes _ _) (ap (λ n. take n c.fill.new.buffer) two ∙ ap (take 2) told) c.in-Ok-eq2.ensures.fills.1)
    c.read_bytes.ensures
