use Rattle.std.proofs.Common.{◌+◌, List, ℕ, sym, ap, subst₂, ◌∙◌, ◌∷◌, drop}
use Rattle.std.proofs.lemmas.List.{drop_more, drop_all}
use Rattle.std.specs.FinMap as map
use Rattle.sqlite.specs.Held.{state}
use Rattle.ln_sqlite.specs.Within.{IsWithin}
use Rattle.ln_sqlite.specs.declared.together.Job.{Job}
use Rattle.ln_sqlite.proofs.Within.{steps, done}
use Rattle.ln_sqlite.proofs.together.put_all.Goals as goal

pub returns-in-Err-clause-leaves_the_last : goal.returns-in-Err-clause-leaves_the_last
returns-in-Err-clause-leaves_the_last g c clean live _ before records was =
    let mid = c.loop-job.invariant.reaches (c.save_row.ensures.was_clean clean) before records was in
    c.in-Err.ensures.leaves_the_last_within clean live before mid.reached mid.is_within

pub returns-in-Err-clause-leaves_the_old_at_a_stop : goal.returns-in-Err-clause-leaves_the_old_at_a_stop
returns-in-Err-clause-leaves_the_old_at_a_stop g c clean before records was trees left =
    let mid = c.loop-job.invariant.reaches (c.save_row.ensures.was_clean clean) before records was in
    mid.stops trees
    (c.save_row.ensures.leaves_the_old_at_a_stop_within clean before mid.reached mid.is_within trees left)

pub loop-job-preserved : goal.loop-job-preserved
loop-job-preserved g c =
    let all = c.args.jobs.now in
    let at = c.loop-job.job-index in
    let job = c.job-item.result in
    steps g.S.Store c.args.connection.now all c.loop-job.connection (drop at all) c.save_row.new.connection job
    (drop (at + 1) all) c.loop-job.invariant
    (drop_more all at job c.loop-job-test.true ∙ ap (λ (j : Job). j ∷ drop (at + 1) all) (sym c.job-item.is))
    (λ clean. c.save_row.ensures.was_clean clean)
    (λ clean before records was. subst₂ (λ (id bytes : List ℕ). IsWithin (state g.S.Store c.save_row.new.connection)
    before (map.insert records id bytes)) c.as_slice.ensures c.as_slice-in-loop-job.ensures
    (c.in-Ok.ensures.puts_within clean before records was))
    (λ clean before records was. c.save_row.ensures.leaves_the_old_at_a_stop_within clean before records was)

pub returns-clause-puts_all : goal.returns-clause-puts_all
returns-clause-puts_all g c clean _ =
    done g.S.Store c.args.connection.now c.args.jobs.now c.loop-job.connection
    (drop c.loop-job.job-index c.args.jobs.now) c.loop-job.invariant
    (drop_all c.loop-job.job-index c.args.jobs.now c.loop-job-test.false) clean

pub returns-clause-leaves_the_old_at_a_stop : goal.returns-clause-leaves_the_old_at_a_stop
returns-clause-leaves_the_old_at_a_stop g c clean before records was =
    (c.loop-job.invariant.reaches clean before records was).stops
