use Rattle.std.proofs.Common.{map, refl, sym, ◌∙◌}
use Rattle.ln_world_dispatch.proofs.Stepping.{opened_so, unopened_so}
use Rattle.ln_world_dispatch.proofs.world.World.open.Goals as goal

pub returns-in_ok-open-clause-stepped : goal.returns-in_ok-open-clause-stepped
returns-in_ok-open-clause-stepped g c =
    opened_so g.K.ChannelKeys g.H.Serve.calls c.args.wish c.args.self.now.state c.step.new.self
    (map (λ t. (t.now.items, map (λ p. p.items) t.past.items)) c.args.self.now.hooks.tables.items)
    (map (λ t. (t.now.items, map (λ p. p.items) t.past.items)) c.open.new.self.tables.items)
    c.args.self.now.hooks.offered.items _ c.args.lines.now.items c.step.new.lines.items
    (sym c.may_open-may_open.ensures ∙ c.if-may_open.true) c.in_ok-step.ensures.world c.in_ok-step.ensures.told
    c.in_ok-open.ensures.joined c.in_ok-open.ensures.offered

pub returns-else-may_open-clause-stepped : goal.returns-else-may_open-clause-stepped
returns-else-may_open-clause-stepped g c =
    unopened_so g.K.ChannelKeys g.H.Serve.calls c.args.wish c.args.self.now.state c.step.new.self
    (map (λ t. (t.now.items, map (λ p. p.items) t.past.items)) c.args.self.now.hooks.tables.items) _
    c.args.self.now.hooks.offered.items _ c.args.lines.now.items c.step.new.lines.items
    (sym c.may_open-may_open.ensures ∙ c.if-may_open.false) c.in_ok-step.ensures.world c.in_ok-step.ensures.told
    refl refl
