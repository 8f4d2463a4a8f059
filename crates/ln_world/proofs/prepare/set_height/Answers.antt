use Rattle.ln_book_tables.specs.declared.entry.Entry.TheVariants as entry
use Rattle.ln_history.specs.History.{with_entry}
use Rattle.ln_world.proofs.Places.{books}
use Rattle.ln_world.proofs.prepare.set_height.Goals as goal

pub returns-clause-set : goal.returns-clause-set
returns-clause-set c =
    books c.args.node (with_entry (entry.Height c.args.height)) c.args.nodes.now.items _ c.in_ok-i.i _
    c.index_mut.result.now _ c.in_ok-i.ensures.same c.in_ok-i.ensures.place c.index_mut.ensures.value
    c.set_height.ensures
