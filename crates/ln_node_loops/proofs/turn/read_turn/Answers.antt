use Rattle.std.proofs.Common.{sym, ◌∙◌}
use Rattle.ln_node_loops.proofs.Idle.{passes, answers}
use Rattle.ln_node_loops.proofs.turn.read_turn.Goals as goal

pub returns-in-OfConnection : goal.returns-in-OfConnection
returns-in-OfConnection g c =
    passes g.E.End.acts _ _ _ _ _ (sym c.kind_of.ensures ∙ c.in-OfConnection.is) c.idle_turn.ensures

pub returns-in-Ping : goal.returns-in-Ping
returns-in-Ping g c =
    answers g.E.End.acts _ _ _ _ _ _ _ (sym c.kind_of.ensures ∙ c.in-Ping.is) c.ping_turn.ensures.outputs
    c.ping_turn.ensures.goes
