use Rattle.std.proofs.Common.{None, Some, sym, ap, ◌∙◌}
use Rattle.ln_world_channels.specs.World.{channel, has_halted_there}
use Rattle.ln_world_channels.proofs.Places.{searched, not_found, found_where}
use Rattle.ln_world_channels.proofs.channels.Channels.has_halted.Goals as goal

pub returns-in-None : goal.returns-in-None
returns-in-None g c =
    let n = c.args.end.channel in
    let cs = c.self.inside.items.items in
    ap (has_halted_there c.args.end.node)
    (sym (not_found n cs (sym (searched n cs _ _ None c.in-None.is c.place_of.ensures c.deref.ensures.value)))
    ∙ ap (channel n) c.self.view_is)

pub returns-in-Some : goal.returns-in-Some
returns-in-Some g c =
    let n = c.args.end.channel in
    let cs = c.self.inside.items.items in
    let found = found_where n cs c.in-Some.i _
    (searched n cs _ _ (Some c.in-Some.i) c.in-Some.is c.place_of.ensures c.deref.ensures.value) in
    c.has_halted.ensures ∙ ap (has_halted_there c.args.end.node)
    (ap Some c.index.ensures ∙ sym found ∙ ap (channel n) c.self.view_is)
