use Rattle.std.proofs.Common.{rules, map, refl, sym, subst, ◌∙◌}
use Rattle.ln_world_dispatch.specs.Slots.{SlotsAt}
use Rattle.ln_world_dispatch.proofs.Stepping.{unregistered_so, never_missed, registered_so, no_slot}
use Rattle.ln_world_dispatch.proofs.world.World.register.Goals as goal

pub returns-in_default-clause-stepped : goal.returns-in_default-clause-stepped
returns-in_default-clause-stepped g c =
    unregistered_so g.K.ChannelKeys g.H.Serve.calls c.args.end c.args.hook c.args.self.now.state c.args.self.now.state
    (map (λ t. (t.now.items, map (λ p. p.items) t.past.items)) c.args.self.now.hooks.tables.items) _
    c.args.self.now.hooks.offered.items _ c.args.lines.now.items c.report_idle.new.lines.items
    (no_slot c.args.end c.args.hook c.args.self.now.state (sym c.place.ensures.place ∙ c.in_default.is)) refl
    c.in_ok-report_idle.ensures.told refl refl

pub returns-in_default-take-clause-stepped : goal.returns-in_default-take-clause-stepped
returns-in_default-take-clause-stepped g c =
    never_missed g.K.ChannelKeys g.H.Serve.calls c.args.end c.args.hook c.args.self.now.state _
    (map (λ t. (t.now.items, map (λ p. p.items) t.past.items)) c.args.self.now.hooks.tables.items) _
    c.args.self.now.hooks.offered.items _ c.args.lines.now.items _
    (search rules) (sym c.in_default-take.is ∙ c.take.ensures.taken)

pub returns-clause-stepped : goal.returns-clause-stepped
returns-clause-stepped g c =
    registered_so g.K.ChannelKeys g.H.Serve.calls c.args.end c.args.hook c.in-Some.place c.in-Some-take.served
    c.args.self.now.state c.step.new.self
    (map (λ t. (t.now.items, map (λ p. p.items) t.past.items)) c.args.self.now.hooks.tables.items)
    (map (λ t. (t.now.items, map (λ p. p.items) t.past.items)) c.slot.new.self.tables.items)
    c.args.self.now.hooks.offered.items _ c.args.lines.now.items c.step.new.lines.items
    (search rules) (sym c.in-Some-take.is ∙ c.take.ensures.taken)
    (sym c.in-Some.is ∙ c.place.ensures.place)
    (subst (λ ts. SlotsAt g.H.Serve.calls c.in-Some.place
    (map (λ t. (t.now.items, map (λ p. p.items) t.past.items)) ts) c.in-Some-take.served
    (map (λ t. (t.now.items, map (λ p. p.items) t.past.items)) c.slot.new.self.tables.items)) c.take.ensures.tables
    c.in_ok-slot.ensures.slotted) (c.in_ok-slot.ensures.offered ∙ c.take.ensures.left)
    c.in_ok-step.ensures.world c.in_ok-step.ensures.told
