use Rattle.std.proofs.Common.{rules}
use Rattle.std.proofs.Math.Seq.{map-set_same}
use Rattle.ln_world_dispatch.specs.Kept.{KeptDispatcher, decided_at, Keeps}
use Rattle.ln_world_dispatch.proofs.Keeping.{each_set, each_get}
use Rattle.ln_world_dispatch.proofs.nodes.let_go_at.Goals as goal

pub returns-in-Some-clause-same_dispatchers : goal.returns-in-Some-clause-same_dispatchers
returns-in-Some-clause-same_dispatchers g c =
    map-set_same (λ (k : KeptDispatcher). k.dispatcher) c.args.dispatchers.now c.in-Some.i c.let_go_one.new.dispatcher _
    c.let_go_one.ensures.same_dispatcher

pub returns-in-Some-clause-keep : goal.returns-in-Some-clause-keep
returns-in-Some-clause-keep g c = λ h.
    each_set (Keeps (decided_at c.args.channels.now)) c.args.dispatchers.now c.in-Some.i c.let_go_one.new.dispatcher h
    (c.let_go_one.ensures.keeps
    (each_get (Keeps (decided_at c.args.channels.now)) c.args.dispatchers.now c.in-Some.i c.index-dispatchers-i.result
    (search rules) h))
