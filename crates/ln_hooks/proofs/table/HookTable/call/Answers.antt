use Rattle.std.specs.Fn.{Called}
use denote.Param.Callables.{along_mut, held_mut}
use Rattle.ln_hooks.specs.Chain.{IsCalledOn}
use Rattle.ln_hooks.proofs.Chains.{says-same}
use Rattle.ln_hooks.proofs.table.HookTable.call.Goals as goal

-- a hook is called as its closure is
pub returns : goal.returns
returns g c = record {
  calls_each_hook =
      says-same (λ h event answer h'. IsCalledOn
      (λ f x a f'. Called (along_mut (λ b. (b.vtable, b.value)) (held_mut g.dyn-1.0)) f (x, tt) a f')
      h.call event answer h'.call) (λ h. h.call) _ c.args.self.now.hooks.items c.args.event.now
      c.call_each.result c.call_each.new.hooks.items c.call_each.ensures.calls_each_hook (λ h event answer h' k. k);
}
