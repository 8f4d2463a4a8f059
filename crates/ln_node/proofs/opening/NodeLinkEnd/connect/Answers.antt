use Rattle.std.proofs.Common.{refl, sym, ◌∙◌}
use Rattle.ln_node.proofs.Renewing.{refused, connected, goes-on}
use Rattle.ln_node.proofs.opening.NodeLinkEnd.connect.Goals as goal

pub returns-in-Ok : goal.returns-in-Ok
returns-in-Ok g c =
    connected g.K.ChannelKeys.signer _ _ _ _ _ _
    (sym (rw c.deref.ensures at (c.is_unopened.ensures _ c.channel_machine.ensures)) ∙ c.if-is_unopened.true)
    (rw (c.deref-then-is_unopened.ensures, c.deref_mut.ensures.value, c.in-Ok.is)
    at c.begin_anew.ensures) (
      rw (c.deref_mut-in-Ok.ensures.value, c.deref_mut.ensures.value, ← c.observed.ensures)
          at c.connect-said.ensures,
      refl,
    )

pub returns-in-Err : goal.returns-in-Err
returns-in-Err g c =
    rw c.deref_mut.ensures.value
    (refused g.K.ChannelKeys.signer _ _ _ _ _
    (sym (rw c.deref.ensures at (c.is_unopened.ensures _ c.channel_machine.ensures)) ∙ c.if-is_unopened.true)
    (rw (c.deref-then-is_unopened.ensures, c.deref_mut.ensures.value, c.in-Err.is)
    at c.begin_anew.ensures))

pub returns : goal.returns
returns g c =
    goes-on g.K.ChannelKeys.signer _ _ _
    (sym (rw c.deref.ensures at (c.is_unopened.ensures _ c.channel_machine.ensures)) ∙ c.if-is_unopened.false)
    (rw (c.deref_mut-2.ensures.value, ← c.observed-2.ensures) at c.connect-said-2.ensures, refl)
