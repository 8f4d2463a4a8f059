use Rattle.ln_hooks.proofs.Chains.{AreCalledUpTo}
use Rattle.ln_hooks.specs.Chain.{shown_to}
use Rattle.ln_hooks.proofs.table.call_each.Given as goal

-- the first hooks were called
abbrev pub invariant-loop-i : goal.invariant-loop-i
invariant-loop-i g l =
    AreCalledUpTo (λ h. h) (shown_to g.H.Serve.calls) l.i l.fn.hooks.items l.hooks.items l.event l.verdict
