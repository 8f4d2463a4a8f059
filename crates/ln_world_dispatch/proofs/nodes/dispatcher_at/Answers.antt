use Rattle.std.proofs.Common.{Some, sym, ap, ◌∙◌}
use Rattle.ln_world_dispatch.specs.Kept.{KeptDispatcher}
use Rattle.ln_world_dispatch.proofs.Keeping.{kept_none, kept_found}
use Rattle.ln_world_dispatch.proofs.nodes.dispatcher_at.Goals as goal

pub returns-in-None-clause-dispatcher : goal.returns-in-None-clause-dispatcher
returns-in-None-clause-dispatcher c = sym (kept_none c.args.end c.args.dispatchers.now (sym c.index_of.ensures
    ∙ c.in-None.is))

pub returns-in-Some-clause-dispatcher : goal.returns-in-Some-clause-dispatcher
returns-in-Some-clause-dispatcher c =
    let found = kept_found c.args.end c.args.dispatchers.now c.in-Some.i c.index-dispatchers-i.result
    (sym c.in-Some.is ∙ c.index_of.ensures) in
    sym (found ∙ sym (ap (λ (k : KeptDispatcher). Some k.dispatcher) c.index-dispatchers-i.is))
