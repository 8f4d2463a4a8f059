use Rattle.std.proofs.Common.{map, ap}
use Rattle.ln_world_dispatch.proofs.Calling.{calls_at_place}
use Rattle.ln_world_dispatch.proofs.hooks.Hooks.call.Goals as goal

pub returns-clause-calls_each_hook : goal.returns-clause-calls_each_hook
returns-clause-calls_each_hook g c =
    calls_at_place g.H.Serve.calls (λ t. t.now.items) (λ t. map (λ p. p.items) t.past.items) c.args.place
    c.args.self.now.tables.items c.index_mut.result.now c.call.new.self c.args.event.now c.call.result
    c.requires c.index_mut.ensures.value c.call.ensures.calls_each_hook
    (ap (λ l. map (λ p. p.items) l) c.call.ensures.past)
