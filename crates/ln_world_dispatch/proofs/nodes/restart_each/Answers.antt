use Rattle.std.proofs.Common.{ap, sym, ◌∙◌, arith}
use Rattle.std.proofs.Math.ListN.{get_or-map, length-map}
use Rattle.std.proofs.lemmas.List.{map-set}
use Rattle.ln_world_channels.proofs.Places.{all_more}
use Rattle.ln_world_dispatch.specs.World.{restarts}
use Rattle.ln_world_dispatch.specs.Kept.{KeptDispatcher, dispatchers_of, Keeps}
use Rattle.ln_world_dispatch.proofs.Keeping.{each_set, each_get}
use Rattle.ln_world_dispatch.proofs.nodes.restart_each.Goals as goal

pub loop-i-preserved : goal.loop-i-preserved
loop-i-preserved g c = (
  map-set (λ (k : KeptDispatcher). k.dispatcher) c.loop-i.dispatchers c.loop-i.i c.restart_one.new.dispatcher
      ∙ all_more (restarts c.args.node c.args.channels.now) (dispatchers_of c.args.dispatchers.now)
      (dispatchers_of c.loop-i.dispatchers)
      c.loop-i.i c.index-dispatchers-i.result.dispatcher c.restart_one.new.dispatcher.dispatcher c.loop-i.invariant.0
      (let long = length-map c.args.dispatchers.now (λ (k : KeptDispatcher). k.dispatcher) in omega (arith, long))
      (c.restart_one.ensures.restarted
      ∙ ap (restarts c.args.node c.args.channels.now)
      (sym (get_or-map (λ (k : KeptDispatcher). k.dispatcher) c.loop-i.dispatchers c.loop-i.i
      c.index-dispatchers-i.result))),
  λ decided h.
      let now = c.loop-i.invariant.1 decided h in
      each_set (Keeps decided) c.loop-i.dispatchers c.loop-i.i c.restart_one.new.dispatcher now
      (c.restart_one.ensures.keeps decided
      (each_get (Keeps decided) c.loop-i.dispatchers c.loop-i.i c.index-dispatchers-i.result (omega arith) now)),
)
