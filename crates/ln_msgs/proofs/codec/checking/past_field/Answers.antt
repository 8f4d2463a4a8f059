use Rattle.std.proofs.Common.{◌*◌, ap, sym, subst, ◌∙◌}
use Rattle.ln_bytes.specs.Reading.{Reads}
use Rattle.ln_msgs.specs.Codec.Checking.{behind, behind_field}
use Rattle.ln_msgs.specs.Messages.Forms.{kind_of}
use Rattle.ln_msgs.proofs.Checking.{list_behind}
use Rattle.ln_msgs.proofs.codec.checking.past_field.Goals as goal

pub returns-in-Listed : goal.returns-in-Listed
returns-in-Listed c =
    let count = c.in_ok-count in
    let same = ap (λ k. behind_field (kind_of k) c.args.bytes.now) c.in-Listed.is
    ∙ list_behind count.count count.rest.now c.args.bytes.now count.ensures
    ∙ ap (λ n. behind (64 * n) count.rest.now) (sym c.from-in-Listed.ensures) in
    subst (Reads (λ rest. rest.now) c.past-in-Listed.result) (sym same) c.past-in-Listed.ensures
