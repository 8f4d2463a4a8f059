use Rattle.std.proofs.Common.{suc, ◌≡◌, ◌+◌, arith, subst, take, set, ◌∙◌}
use Rattle.std.proofs.lemmas.List.{length-set}
use Rattle.ln_world_channels.specs.Promises.{Each}
use Rattle.ln_world_dispatch.specs.Kept.{Keeps}
use Rattle.ln_world_dispatch.proofs.Keeping.{each_more, each_of_all}
use Rattle.ln_world_dispatch.proofs.nodes.forget_each.Goals as goal

pub loop-i-preserved : goal.loop-i-preserved
loop-i-preserved c = (
  λ decided.
      subst (λ n. Each (Keeps decided) (take n (set c.loop-i.dispatchers c.loop-i.i c.forget.new.self)))
      (let e : suc c.loop-i.i ≡ c.loop-i.i + 1 = omega arith in e)
      (each_more (Keeps decided) c.loop-i.dispatchers c.loop-i.i c.forget.new.self (omega arith)
      (c.loop-i.invariant.0 decided) (c.forget.ensures.keeps decided)),
  length-set c.loop-i.dispatchers c.loop-i.i c.forget.new.self ∙ c.loop-i.invariant.1,
)

pub returns : goal.returns
returns c = record {
  keep = λ decided. each_of_all (Keeps decided) c.loop-i.dispatchers c.loop-i.i (omega arith)
      (c.loop-i.invariant.0 decided);
}
