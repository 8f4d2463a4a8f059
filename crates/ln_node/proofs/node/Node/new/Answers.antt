use Rattle.std.proofs.Common.{◌∙◌}
use Rattle.std.proofs.lemmas.Result.{IfOk-weaker}
use Rattle.ln_node.proofs.node.Node.new.Goals as goal

pub returns-clause-begins_with_an_empty_book : goal.returns-clause-begins_with_an_empty_book
returns-clause-begins_with_an_empty_book g c =
    IfOk-weaker c.with_book.result _ _ (λ n is. is ∙ c.in_ok-book.ensures.begins_with_all)
    c.with_book.ensures.begins_with_the_book
