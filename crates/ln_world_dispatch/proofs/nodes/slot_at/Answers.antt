use Rattle.std.proofs.Common.{sym, ◌∙◌}
use Rattle.ln_world_channels.proofs.Moving.{on_ok}
use Rattle.ln_world_dispatch.specs.Dispatcher.{registered}
use Rattle.ln_world_dispatch.proofs.Keeping.{kept_stay, kept_moves}
use Rattle.ln_world_dispatch.proofs.nodes.slot_at.Goals as goal

pub returns-in-None-clause-slotted : goal.returns-in-None-clause-slotted
returns-in-None-clause-slotted c =
    kept_stay c.args.end (registered c.args.hook) c.args.dispatchers.now (sym c.index_of.ensures ∙ c.in-None.is)

pub returns-in-Some-clause-slotted : goal.returns-in-Some-clause-slotted
returns-in-Some-clause-slotted c =
    on_ok c.slot.result (λ e. kept_moves c.args.end (registered c.args.hook) c.args.dispatchers.now c.in-Some.i
    _ c.slot.new.self (sym c.in-Some.is ∙ c.index_of.ensures) e) c.slot.ensures.slotted
