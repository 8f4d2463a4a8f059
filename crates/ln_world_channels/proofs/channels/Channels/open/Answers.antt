use Rattle.std.proofs.Common.{◌≡◌, ◌++◌, ◌∷◌, [], None, is_ok, sym, ap, ◌∙◌, subst}
use Rattle.ln_world_channels.specs.World.{channel, AreOnce}
use Rattle.ln_world_channels.proofs.Places.{once-push, once-either}
use Rattle.ln_world_channels.proofs.channels.Channels.open.Goals as goal

pub invariant_of-self-2 : goal.invariant_of-self-2
invariant_of-self-2 g c =
    let old = c.self.inside.items.items in
    let none : channel c.in_ok-channel.channel.number old ≡ None =
    ap (λ d. channel d.number old) c.in_ok-channel.ensures.opened
    ∙ ap (channel c.args.wish.now.channel) c.self.view_is ∙ c.requires.number in
    subst AreOnce (sym c.push.ensures.items)
    (once-either (is_ok c.push.result) (old ++ c.in_ok-channel.channel ∷ []) old
    (once-push c.in_ok-channel.channel old none c.self.invariant) c.self.invariant)
