use Rattle.std.proofs.Common.{is_none, refl, ap, ◌∙◌}
use Rattle.ln_world_channels.specs.World.{channel}
use Rattle.ln_world_channels.proofs.Places.{searched, same_test}
use Rattle.ln_world_channels.proofs.channels.Channels.is_free.Goals as goal

pub returns : goal.returns
returns g c =
    let n = c.args.number in
    let cs = c.self.inside.items.items in
    same_test n cs c.place_of.result c.is_none.result
    (searched n cs _ _ c.place_of.result refl c.place_of.ensures c.deref.ensures.value) c.is_none.ensures
    ∙ ap (λ ds. is_none (channel n ds)) c.self.view_is
