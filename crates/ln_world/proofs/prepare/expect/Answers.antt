use Rattle.ln_world_channels.proofs.Moving.{on_ok}
use Rattle.ln_book_tables.specs.declared.entry.Entry.TheVariants as entry
use Rattle.ln_history.specs.History.{with_entry}
use Rattle.ln_world.proofs.Places.{books}
use Rattle.ln_world.proofs.prepare.expect.Goals as goal

pub returns-clause-set : goal.returns-clause-set
returns-clause-set c =
    on_ok c.expect.result (λ e. books c.args.node (with_entry (entry.Expect c.args.invoice)) c.args.nodes.now.items _
    c.in_ok-i.i _ c.index_mut.result.now _ c.in_ok-i.ensures.same c.in_ok-i.ensures.place c.index_mut.ensures.value e)
    c.expect.ensures.enters_the_invoice
