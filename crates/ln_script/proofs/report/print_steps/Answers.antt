use Rattle.std.proofs.lemmas.Result.{err_from_is_err_and}
use Rattle.std.proofs.Common.{[], refl}
use Rattle.ln_script.proofs.Reports.{on_err_so, told_all, nothing_done}
use Rattle.ln_script.proofs.Telling.{all_stand, begun, told_each, all_stop}
use Rattle.ln_script.proofs.report.print_steps.Goals as goal

pub print_each-requires : goal.print_each-requires
print_each-requires g c =
    all_stand g.H.Serve.calls c.args.hooks.items [] _ _
    (begun g.H.Serve.calls c.args.hooks.items _ _ _ _ _ _ c.in_ok-world.ensures.dispatchers c.in_ok-world.ensures.nodes
    c.in_ok-world.ensures.no_tables c.in_ok-world.ensures.offered)

pub returns-clause-prints_it : goal.returns-clause-prints_it
returns-clause-prints_it g c =
    told_all g.H.Serve.calls c.args.hooks.items c.args.steps.items c.args.steps.items _ _ _ _ _ refl
    (told_each g.H.Serve.calls c.args.hooks.items [] c.args.steps.items _ _ _
    (begun g.H.Serve.calls c.args.hooks.items _ _ _ _ _ _ c.in_ok-world.ensures.dispatchers c.in_ok-world.ensures.nodes
    c.in_ok-world.ensures.no_tables c.in_ok-world.ensures.offered)
    c.in_ok-print_each.ensures.prints_it)

pub returns-in_err-print_each-clause-front : goal.returns-in_err-print_each-clause-front
returns-in_err-print_each-clause-front g c =
    on_err_so _ _ (all_stop g.H.Serve.calls c.args.hooks.items c.args.steps.items _ _ _ _ _ _
    (begun g.H.Serve.calls c.args.hooks.items _ _ _ _ _ _ c.in_ok-world.ensures.dispatchers c.in_ok-world.ensures.nodes
    c.in_ok-world.ensures.no_tables c.in_ok-world.ensures.offered)
    c.in_err-print_each.ensures.stops).0

pub returns-in_err-print_each-clause-cause : goal.returns-in_err-print_each-clause-cause
returns-in_err-print_each-clause-cause g c =
    let p = err_from_is_err_and c.from_residual-in_err-print_each.result c.from_residual-in_err-print_each.ensures.1 in
    rw (p.1, p.2) (all_stop g.H.Serve.calls c.args.hooks.items c.args.steps.items _ _ _ _ _ _
    (begun g.H.Serve.calls c.args.hooks.items _ _ _ _ _ _ c.in_ok-world.ensures.dispatchers c.in_ok-world.ensures.nodes
    c.in_ok-world.ensures.no_tables c.in_ok-world.ensures.offered)
    c.in_err-print_each.ensures.stops).1

pub returns-in_err-world-clause-front : goal.returns-in_err-world-clause-front
returns-in_err-world-clause-front g c =
    on_err_so _ _ (nothing_done g.H.Serve.calls c.args.hooks.items c.args.steps.items _)
