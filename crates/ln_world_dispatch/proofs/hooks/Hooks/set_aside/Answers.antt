use Rattle.std.proofs.Common.{rules, map, ap, sym, ◌∙◌, arith}
use Rattle.std.proofs.Math.ListN.{get_or-map, length-map}
use Rattle.ln_world_channels.specs.WorldChannel.{is_node}
use Rattle.ln_world_dispatch.specs.Kept.{KeptDispatcher, dispatchers_of}
use Rattle.ln_world_dispatch.proofs.Calling.{aside_more}
use Rattle.ln_world_dispatch.proofs.hooks.Hooks.set_aside.Goals as goal

pub loop-i-preserved : goal.loop-i-preserved
loop-i-preserved g c = (
  aside_more g.H.Serve.calls (λ t. t.now.items) (λ t. map (λ p. p.items) t.past.items)
      (λ d. is_node d.end.node c.args.node) c.loop-i.i
      (dispatchers_of c.args.dispatchers.now) c.loop-i.self.tables.items
      (map (λ t. (t.now.items, map (λ p. p.items) t.past.items)) c.args.self.now.tables.items)
      c.index_mut.result.now c.begin_anew.new.tables c.index-dispatchers-i.result.dispatcher
      (let long = length-map c.args.dispatchers.now (λ (k : KeptDispatcher). k.dispatcher) in omega (arith, long))
      (search rules) c.loop-i.invariant.0
      (ap (λ (k : KeptDispatcher). k.dispatcher) c.index-dispatchers-i.is
      ∙ sym (get_or-map (λ (k : KeptDispatcher). k.dispatcher) c.args.dispatchers.now c.loop-i.i
      c.index-dispatchers-i.result))
      c.index_mut.ensures.value c.in_ok-begin_anew.ensures.set_aside,
  search rules,
  search rules,
)
