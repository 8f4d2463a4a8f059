use Rattle.std.proofs.Common.{refl, sym, ◌∙◌}
use Rattle.ln_node.proofs.Renewing.{renewed, renews, stays}
use Rattle.ln_node.proofs.opening.NodeLinkEnd.load.Goals as goal

pub returns-then-lacks_record : goal.returns-then-lacks_record
returns-then-lacks_record g c =
    rw (← c.deref_mut.ensures.value, c.deref_mut-then-lacks_record.ensures.value, ← c.deref.ensures)
    (renews g.K.ChannelKeys.signer _ c.load-answer.result _ _ _
    (sym c.lacks_record.ensures ∙ c.if-lacks_record.true) (c.load-answer.ensures, refl)
    (renewed _ _ _ _ _
    (rw c.deref_mut-then-lacks_record.ensures.value at c.begin_anew.ensures)))

pub returns : goal.returns
returns g c =
    rw (← c.deref_mut.ensures.value)
    (stays g.K.ChannelKeys.signer _ c.load-answer.result _
    (sym c.lacks_record.ensures ∙ c.if-lacks_record.false) (c.load-answer.ensures, refl))
