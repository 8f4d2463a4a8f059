use Rattle.std.proofs.Common.{sym, ◌∙◌}
use Rattle.ln_node_loops.proofs.Idle.{declines, obeys}
use Rattle.ln_node_loops.proofs.turn.order_turn.Goals as goal

pub returns-then-is_reserved : goal.returns-then-is_reserved
returns-then-is_reserved g c =
    declines g.E.End.acts _ _ _ _ _ (sym c.is_reserved.ensures ∙ c.if-is_reserved.true) c.decline.ensures

pub returns : goal.returns
returns g c =
    obeys g.E.End.acts _ _ _ _ _ _ _ _ _ (sym c.is_reserved.ensures ∙ c.if-is_reserved.false)
    c.obey_turn-obeyed.ensures.obeys c.over.ensures.written c.over.ensures.answered
