use Rattle.std.proofs.Common.{sym, ◌∙◌}
use Rattle.ln_world_channels.proofs.Moving.{on_ok}
use Rattle.ln_world_dispatch.specs.Dispatcher.{serving}
use Rattle.ln_world_dispatch.proofs.Keeping.{kept_stay, kept_moves}
use Rattle.ln_world_dispatch.proofs.nodes.write_at.Goals as goal

pub returns-in-None-clause-written : goal.returns-in-None-clause-written
returns-in-None-clause-written c =
    kept_stay c.args.end (serving c.args.event c.args.verdict) c.args.dispatchers.now
    (sym c.index_of.ensures ∙ c.in-None.is)

pub returns-in-Some-clause-written : goal.returns-in-Some-clause-written
returns-in-Some-clause-written c =
    on_ok c.write.result (λ e. kept_moves c.args.end (serving c.args.event c.args.verdict) c.args.dispatchers.now
    c.in-Some.i _ c.write.new.self (sym c.in-Some.is ∙ c.index_of.ensures) e) c.write.ensures.written
