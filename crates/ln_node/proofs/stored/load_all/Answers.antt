use Rattle.std.proofs.Common.{◌++◌, ◌∙◌, length, sym, ap, subst, arith}
use Rattle.std.specs.Vec.Iter.{into_iter_items}
use Rattle.ln_node.specs.Stored.{AreLoaded}
use Rattle.ln_node.proofs.Loading.{none, one-more, no-more, as-many}
use Rattle.ln_node.proofs.stored.load_all.Goals as goal

pub loop-one-preserved : goal.loop-one-preserved
loop-one-preserved g c =
    let first = into_iter_items c.into_iter-one-iterator.result in (
      λ rest are. subst (λ x. AreLoaded g.S.RecordStore.store_view first (x ++ rest)) (sym c.in_ok-push.ensures.items)
          (one-more g.S.RecordStore.store_view first (into_iter_items c.next.new.self) c.loop-one.loaded.items
          c.in-Some.one c.in_ok-load_one.field-0
          (λ more came. c.loop-one.invariant.0 more
          (subst (λ x. AreLoaded g.S.RecordStore.store_view x more) (sym c.in-Some.ensures.steps.0) came))
          c.in_ok-load_one.ensures.comes_back rest are),
      omega (arith, c.in-Some.ensures.steps.1, c.loop-one.invariant.1, ap length c.in-Some.ensures.steps.0),
    )

pub returns : goal.returns
returns g c =
    let all = subst (λ x. AreLoaded g.S.RecordStore.store_view x c.loop-one.loaded.items)
    c.into_iter-one-iterator.ensures.into_iter_gives.0
    (no-more g.S.RecordStore.store_view _ _
    (λ rest are. c.loop-one.invariant.0 rest
    (subst (λ x. AreLoaded g.S.RecordStore.store_view x rest)
    (sym (none _ (sym c.loop-one.invariant.1 ∙ c.in-None.ensures.steps.0))) are))) in
    record { come_back = all; are_as_many = as-many g.S.RecordStore.store_view _ _ all }
