use Rattle.std.proofs.Common.{map, subst}
use Rattle.ln_world_channels.specs.WorldChannel.{is_node}
use Rattle.ln_world_dispatch.specs.Slots.{AreAside}
use Rattle.ln_world_dispatch.proofs.Stepping.{restarted_so}
use Rattle.ln_world_dispatch.proofs.world.World.restart.Goals as goal

pub returns-clause-stepped : goal.returns-clause-stepped
returns-clause-stepped g c =
    restarted_so g.K.ChannelKeys g.H.Serve.calls c.args.node c.args.self.now.state c.step.new.self
    (map (λ t. (t.now.items, map (λ p. p.items) t.past.items)) c.args.self.now.hooks.tables.items) _
    c.args.self.now.hooks.offered.items _ c.args.lines.now.items c.step.new.lines.items
    c.in_ok-step.ensures.world c.in_ok-step.ensures.told
    (subst (λ ds. AreAside g.H.Serve.calls (λ d. is_node d.end.node c.args.node) ds
    (map (λ t. (t.now.items, map (λ p. p.items) t.past.items)) c.args.self.now.hooks.tables.items)
    (map (λ t. (t.now.items, map (λ p. p.items) t.past.items)) c.set_aside.new.self.tables.items)) c.dispatchers.ensures
    c.in_ok-set_aside.ensures.set_aside)
    c.in_ok-set_aside.ensures.offered
