use Rattle.std.proofs.Common.{sym, ap, ◌∙◌}
use Rattle.ln_world_channels.specs.World.{may_open}
use Rattle.ln_world_dispatch.specs.World.{World}
use Rattle.ln_world_dispatch.proofs.Opening.{opened_so}
use Rattle.ln_world_dispatch.proofs.nodes.Nodes.open.Goals as goal

pub returns-in_ok-join-clause-world : goal.returns-in_ok-join-clause-world
returns-in_ok-join-clause-world g c =
    opened_so g.K.ChannelKeys c.args.wish c.args.self.now c.pass.new.self c.join.new.self
    (ap (λ (w : World _). may_open c.args.wish w.channels) (sym c.self.view_is)
    ∙ sym c.may_open-may_open.ensures.test ∙ c.if-may_open.true) c.in_ok-pass.ensures.world
    c.in_ok-join.ensures.joined
