use Rattle.std.proofs.Common.{ap, ◌∙◌, ◌++◌, ◌∷◌, []}
use Rattle.ln_node_loops.proofs.Serving.{called, one-hook-more}
use Rattle.ln_node_loops.proofs.dispatch.dispatch_loop.Goals as goal

pub loop-preserved-in-Some-Event : goal.loop-preserved-in-Some-Event
loop-preserved-in-Some-Event g c =
    called g.T.Table.registers g.T.Table.says _ _ _ _ _ _ _ _ _ c.in-Some-Event.channel c.in-Some-Event.number
    c.in-Some-Event.event c.dispatch.result c.loop.invariant c.dispatch.ensures.calls
    (c.in-Some-Event.ensures.appends ∙ ap (λ t. g.S.Receives.taken c.loop.seat ++ t ∷ []) c.in-Some-Event.field-0-is)
    c.dispatch.ensures.says_the_verdict

pub loop-preserved-in-Some-Register : goal.loop-preserved-in-Some-Register
loop-preserved-in-Some-Register g c =
    one-hook-more g.T.Table.registers g.T.Table.says _ _ _ _ _ _ _ _ c.in-Some-Register.hook
    c.loop.invariant c.register.ensures
    (c.in-Some-Register.ensures.appends
    ∙ ap (λ t. g.S.Receives.taken c.loop.seat ++ t ∷ []) c.in-Some-Register.field-0-is)
