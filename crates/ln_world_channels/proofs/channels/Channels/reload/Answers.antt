use Rattle.std.proofs.Common.{None, Some, sym, ap, ◌∙◌}
use Rattle.ln_world_channels.specs.WorldChannel.{moved, restart_moves}
use Rattle.ln_world_channels.proofs.Moving.{on_ok}
use Rattle.ln_world_channels.proofs.Places.{searched, placed, nowhere, not_found, still_once}
use Rattle.ln_world_channels.proofs.channels.Channels.reload.Goals as goal

pub returns-in_default-clause-moved : goal.returns-in_default-clause-moved
returns-in_default-clause-moved g c =
    let n = c.args.end.channel in
    let cs = c.self.inside.items.items in
    rw (← c.self.view_is) (nowhere g.K.ChannelKeys.signer n (restart_moves c.args.end.node) cs
    (not_found n cs (sym (searched n cs _ _ None c.in_default.is c.place_of.ensures c.deref.ensures.value))))

pub invariant_of-self : goal.invariant_of-self
invariant_of-self g c =
    still_once c.self.inside.items.items c.in-Some.i _ c.restart.new.self c.index_mut.ensures.value
    c.restart.ensures.number c.self.invariant

pub returns-clause-moved : goal.returns-clause-moved
returns-clause-moved g c =
    let n = c.args.end.channel in
    let cs = c.self.inside.items.items in
    let moves = restart_moves c.args.end.node in
    rw (← c.self.view_is) (on_ok c.restart.result (λ e. placed g.K.ChannelKeys.signer n moves cs c.in-Some.i _
    c.restart.new.self c.self.invariant
    (searched n cs _ _ (Some c.in-Some.i) c.in-Some.is c.place_of.ensures c.deref.ensures.value)
    (e ∙ ap (moved g.K.ChannelKeys.signer moves) c.index_mut.ensures.value)) c.restart.ensures.moved)
