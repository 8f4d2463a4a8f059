use Rattle.std.proofs.Common.{sym, ◌∙◌}
use Rattle.ln_host.proofs.question.asked_saved.Goals as goal

pub returns-then-is_connected-clause-asked : goal.returns-then-is_connected-clause-asked
returns-then-is_connected-clause-asked c =
    let e = sym c.is_connected.ensures ∙ c.if-is_connected.true in λ end s. rw e (c.asked_open.ensures.asked end s)
