use Rattle.std.proofs.Common.{◌≡◌, ◌≤◌, length, drop}
use Rattle.std.specs.Vec.{vec_len, vec_capacity}
use Rattle.std.specs.Fn.{Called}
use denote.Param.Callables.{along_mut, held_mut}
use Rattle.ln_hooks.proofs.Chains.{Leaves}
use Rattle.ln_hooks.proofs.table.HookTable.call_run.Given as goal

-- `step` of the closures in a clause of the function: that of the box's own closure
abbrev pub invariant-loop-event : goal.invariant-loop-event
invariant-loop-event g l =
    Leaves (λ h. h.call)
    (λ f x a f'. Called (along_mut (λ b. (b.vtable, b.value)) (held_mut g.dyn-1.0)) f (x, tt) a f')
    l.fn.self.hooks.items l.events l.verdicts.items l.self.hooks.items (drop l.event-index l.events)
    × (vec_len l.verdicts ≡ l.event-index)
    × (length l.events ≤ vec_capacity l.verdicts)
