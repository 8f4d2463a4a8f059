use Rattle.std.proofs.Common.{map, refl, sym, subst, ◌∙◌}
use Rattle.ln_world_channels.specs.WorldChannel.{is_node}
use Rattle.ln_world_dispatch.specs.Slots.{AreAside}
use Rattle.ln_world_dispatch.proofs.Stepping.{stopped_before, unstopped_before}
use Rattle.ln_world_dispatch.proofs.world.World.stop_before.Goals as goal

pub returns-in_ok-set_aside-clause-stepped : goal.returns-in_ok-set_aside-clause-stepped
returns-in_ok-set_aside-clause-stepped g c =
    stopped_before g.K.ChannelKeys g.H.Serve.calls c.args.end c.args.what c.args.self.now.state c.step.new.self
    (map (λ t. (t.now.items, map (λ p. p.items) t.past.items)) c.args.self.now.hooks.tables.items)
    (map (λ t. (t.now.items, map (λ p. p.items) t.past.items)) c.set_aside.new.self.tables.items)
    c.args.self.now.hooks.offered.items _ c.args.lines.now.items c.step.new.lines.items
    (sym c.may_act-may_act.ensures ∙ c.if-may_act.true) c.in_ok-step.ensures.world c.in_ok-step.ensures.told
    (subst (λ ds. AreAside g.H.Serve.calls (λ d. is_node d.end.node c.args.end.node) ds
    (map (λ t. (t.now.items, map (λ p. p.items) t.past.items)) c.args.self.now.hooks.tables.items)
    (map (λ t. (t.now.items, map (λ p. p.items) t.past.items)) c.set_aside.new.self.tables.items)) c.dispatchers.ensures
    c.in_ok-set_aside.ensures.set_aside) c.in_ok-set_aside.ensures.offered

pub returns-else-may_act-clause-stepped : goal.returns-else-may_act-clause-stepped
returns-else-may_act-clause-stepped g c =
    unstopped_before g.K.ChannelKeys g.H.Serve.calls c.args.end c.args.what c.args.self.now.state c.step.new.self
    (map (λ t. (t.now.items, map (λ p. p.items) t.past.items)) c.args.self.now.hooks.tables.items) _
    c.args.self.now.hooks.offered.items _ c.args.lines.now.items c.step.new.lines.items
    (sym c.may_act-may_act.ensures ∙ c.if-may_act.false) c.in_ok-step.ensures.world c.in_ok-step.ensures.told refl refl
