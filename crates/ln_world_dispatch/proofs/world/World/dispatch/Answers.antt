use Rattle.std.proofs.Common.{map, refl, sym, ◌∙◌}
use Rattle.ln_world_dispatch.proofs.Stepping.{undispatched_so, no_event}
use Rattle.ln_world_dispatch.proofs.world.World.dispatch.Goals as goal

pub returns-in_default-clause-stepped : goal.returns-in_default-clause-stepped
returns-in_default-clause-stepped g c =
    undispatched_so g.K.ChannelKeys g.H.Serve.calls c.args.end c.args.self.now.state c.args.self.now.state
    (map (λ t. (t.now.items, map (λ p. p.items) t.past.items)) c.args.self.now.hooks.tables.items) _
    c.args.self.now.hooks.offered.items _ c.args.lines.now.items c.report_idle.new.lines.items
    (no_event c.args.end c.args.self.now.state (sym c.place.ensures.place ∙ c.in_default.is)) refl
    c.in_ok-report_idle.ensures.told refl refl
