use Rattle.std.proofs.Common.{ap, map}
use Rattle.ln_world_dispatch.proofs.Calling.{slots_at_place}
use Rattle.ln_world_dispatch.proofs.hooks.Hooks.slot.Goals as goal

pub returns-clause-slotted : goal.returns-clause-slotted
returns-clause-slotted g c =
    slots_at_place g.H.Serve.calls (λ t. t.now.items) (λ t. map (λ p. p.items) t.past.items)
    c.args.place c.args.self.now.tables.items c.index_mut.result.now c.slot.new.self c.args.hook
    c.requires c.index_mut.ensures.value c.in_ok-slot.ensures.slotted
    (ap (λ l. map (λ p. p.items) l) c.in_ok-slot.ensures.past)
