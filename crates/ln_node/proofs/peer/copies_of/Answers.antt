use Rattle.std.proofs.Common.{ap, sym, ◌∙◌, ◌++◌, ◌∷◌, [], take}
use Rattle.std.proofs.lemmas.List.{take_more}
use Rattle.ln_node.proofs.peer.copies_of.Goals as goal

pub loop-record-preserved : goal.loop-record-preserved
loop-record-preserved c =
    let records = c.args.records.now in
    let i = c.loop-record.record-index in
    let one = c.record-item.result in
    c.in_ok-push.ensures.items ∙ ap (λ l. l ++ c.in_ok-copy_of_one.field-0 ∷ []) c.loop-record.invariant
    ∙ ap (λ x. take i records ++ x ∷ []) (c.in_ok-copy_of_one.ensures ∙ c.record-item.is)
    ∙ sym (take_more records i one c.loop-record-test.true)
