use Rattle.std.proofs.Common.{rules, refl}
use Rattle.ln_hooks.proofs.Chains.{called-none, called-turn, called-all}
use Rattle.ln_hooks.specs.Chain.{shown_to}
use Rattle.ln_hooks.proofs.table.call_each.Goals as goal

pub loop-i-init : goal.loop-i-init
loop-i-init g c = called-none (λ h. h) _ c.args.hooks.now.items c.args.event.now

pub loop-i-preserved : goal.loop-i-preserved
loop-i-preserved g c =
    called-turn (λ h. h) (shown_to g.H.Serve.calls) c.loop-i.i c.args.hooks.now.items c.loop-i.hooks.items
    c.args.event.now c.loop-i.verdict c.index_mut-hook.result.now c.serve.result
    c.serve.new.self c.joined-verdict.result
    c.loop-i.invariant (search rules) c.index_mut-hook.ensures.value
    (record { shown = c.args.event; shows = refl; met = c.serve.ensures.called_once })
    c.joined-verdict.ensures

pub returns : goal.returns
returns g c = record {
  calls_each_hook = called-all (λ h. h) (shown_to g.H.Serve.calls) c.loop-i.i c.args.hooks.now.items
      c.loop-i.hooks.items c.args.event.now c.loop-i.verdict c.loop-i.invariant (search rules);
}
