use Rattle.std.proofs.Common.{None, Some, sym, ap, ◌∙◌}
use Rattle.ln_world_channels.specs.WorldChannel.{moved, halt_moves}
use Rattle.ln_world_channels.proofs.Places.{searched, placed, nowhere, not_found, still_once}
use Rattle.ln_world_channels.proofs.channels.Channels.halt.Goals as goal

pub returns-in-None : goal.returns-in-None
returns-in-None g c =
    let n = c.args.end.channel in
    let cs = c.self.inside.items.items in
    rw (← c.self.view_is) (nowhere g.K.ChannelKeys.signer n (halt_moves c.args.end.node) cs
    (not_found n cs (sym (searched n cs _ _ None c.in-None.is c.place_of.ensures c.deref.ensures.value))))

pub invariant_of-self : goal.invariant_of-self
invariant_of-self g c =
    still_once c.self.inside.items.items c.in-Some.i _ c.halt.new.self c.index_mut.ensures.value
    c.halt.ensures.number c.self.invariant

pub returns-in-Some : goal.returns-in-Some
returns-in-Some g c =
    let n = c.args.end.channel in
    let cs = c.self.inside.items.items in
    let moves = halt_moves c.args.end.node in
    rw (← c.self.view_is) (placed g.K.ChannelKeys.signer n moves cs c.in-Some.i _ c.halt.new.self c.self.invariant
    (searched n cs _ _ (Some c.in-Some.i) c.in-Some.is c.place_of.ensures c.deref.ensures.value)
    (c.halt.ensures.moved ∙ ap (moved g.K.ChannelKeys.signer moves) c.index_mut.ensures.value))
