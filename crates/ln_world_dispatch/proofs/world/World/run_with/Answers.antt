use Rattle.std.proofs.Common.{rules, ◌++◌, ◌∷◌, [], map, refl, sym, ap, ◌∙◌}
use Rattle.std.proofs.lemmas.Result.{err_from_is_err_and}
use Rattle.ln_world_dispatch.proofs.Running.{ran_none_so, ran_one, ran_many, one_done, all_done, as_many, has_run_all}
use Rattle.ln_world_dispatch.proofs.Running.{may_fail_all, none_left}
use Rattle.ln_world_dispatch.proofs.world.World.run_with.Goals as goal

pub loop-step-init : goal.loop-step-init
loop-step-init g c = (
  (
    [],
    (
      refl,
      ran_none_so g.K.ChannelKeys g.H.Serve.calls c.args.hooks.items _ _ _ c.args.lines.now.items
          c.in_ok-world.ensures.state
          (ap (λ l. map (λ t. (t.now.items, map (λ p. p.items) t.past.items)) l)
          c.in_ok-world.ensures.no_tables)
          c.in_ok-world.ensures.offered,
    ),
  ),
  search rules,
)

pub step-requires : goal.step-requires
step-requires g c =
    as_many (λ t. (t.now.items, map (λ p. p.items) t.past.items)) c.loop-step.world.hooks.tables.items _
    (ran_many g.K.ChannelKeys g.H.Serve.calls c.args.hooks.items _ _ _ _ _ _ c.loop-step.invariant.0.1.1)

pub loop-step-preserved : goal.loop-step-preserved
loop-step-preserved g c =
    let so = c.loop-step.invariant.0 in (
      (
        so.0 ++ c.in-Some.step ∷ [],
        (
          one_done so.0 c.in-Some.step _ _ _ so.1.0 c.in-Some.ensures.steps.0,
          ran_one g.K.ChannelKeys g.H.Serve.calls c.args.hooks.items so.0 c.in-Some.step _ _ _ _ _ _ _ _ _ so.1.1
              c.in_ok-step.ensures.stepped,
        ),
      ),
      search rules,
    )

pub returns-in_err-step-clause-fails : goal.returns-in_err-step-clause-fails
returns-in_err-step-clause-fails g c =
    let e = c.in_err-step.field-0.0 in
    let so = c.loop-step.invariant.0 in
    let p = err_from_is_err_and c.from_residual-in_err-step.result c.from_residual-in_err-step.ensures.1 in
    rw (p.1, p.2) (may_fail_all g.K.ChannelKeys g.H.Serve.calls c.args.hooks.items so.0 _ c.args.steps.items
    c.in-Some.step
    (ap (λ l. so.0 ++ l) (sym c.in-Some.ensures.steps.0) ∙ so.1.0 ∙ c.into_iter-step-iterator.ensures.into_iter_gives.0)
    e _ _ _ _ _ so.1.1 c.in_err-step.ensures.fails)

pub returns-clause-has_run : goal.returns-clause-has_run
returns-clause-has_run g c =
    let so = c.loop-step.invariant.0 in
    has_run_all g.K.ChannelKeys g.H.Serve.calls c.args.hooks.items so.0 c.args.steps.items
    (all_done so.0 _ _ so.1.0 (none_left _ (sym c.loop-step.invariant.1 ∙ c.in-None.ensures.steps.0))
    ∙ c.into_iter-step-iterator.ensures.into_iter_gives.0) _ _ _ _ _ so.1.1
