use Rattle.std.proofs.lemmas.Result.{err_from_is_err_and}
use Rattle.std.proofs.Common.{rules, map, length, sym, ap, ◌∙◌, arith}
use Rattle.ln_world_dispatch.proofs.Running.{as_many, none_left}
use Rattle.ln_script.proofs.Telling.{ahead_first, ahead_one, ahead_end, ahead_stops, as_many_stand}
use Rattle.ln_script.proofs.report.print_each.Goals as goal

pub loop-step-init : goal.loop-step-init
loop-step-init g c = record {
  ahead = ahead_first g.H.Serve.calls _ _ _ c.requires;
  failures = omega arith;
  len = search rules;
}

pub print_step-requires : goal.print_step-requires
print_step-requires g c =
    as_many (λ t. (t.now.items, map (λ p. p.items) t.past.items)) c.loop-step.world.dispatchers.hooks.tables.items _
    (as_many_stand g.H.Serve.calls _ c.loop-step.invariant.ahead.stand)

pub loop-step-preserved : goal.loop-step-preserved
loop-step-preserved g c =
    let given = c.in-Some.ensures.steps in
    record {
      ahead = ahead_one g.H.Serve.calls _ _ _ _ c.in-Some.step _ _ _ given.0 c.loop-step.invariant.ahead
          c.in_ok-print_step.ensures.prints_it;
      failures = omega (arith, c.loop-step.invariant.failures, c.print_step.ensures.no_fewer_failures);
      len = omega (arith, c.loop-step.invariant.len, given.1, ap length given.0);
    }

pub returns-clause-prints_it : goal.returns-clause-prints_it
returns-clause-prints_it g c =
    ahead_end g.H.Serve.calls _ _ _ _ _ _ (none_left _ (sym c.loop-step.invariant.len ∙ c.in-None.ensures.steps.0))
    c.into_iter-step-iterator.ensures.into_iter_gives.0 c.loop-step.invariant.ahead

pub returns-in_err-print_step-clause-stops : goal.returns-in_err-print_step-clause-stops
returns-in_err-print_step-clause-stops g c =
    let p = err_from_is_err_and c.from_residual.result c.from_residual.ensures.1 in
    rw (p.1, p.2) (ahead_stops g.H.Serve.calls _ _ _ _ _ _ _ c.in-Some.step _ _ _ _ c.in-Some.ensures.steps.0
    c.into_iter-step-iterator.ensures.into_iter_gives.0 c.loop-step.invariant.ahead c.loop-step.invariant.failures
    c.in_err-print_step.ensures.front c.in_err-print_step.ensures.cause)
