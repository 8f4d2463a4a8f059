use Rattle.std.proofs.Common.{◌≡◌, drop}
use Rattle.ln_book_tables.specs.Due.{due_htlcs}
use Rattle.ln_book.specs.Commands.{first_due}
use Rattle.ln_book.proofs.commands.first_due.Given as goal

-- none of those before has one
abbrev pub invariant-loop-index : goal.invariant-loop-index
invariant-loop-index g l =
    first_due (g.O.Onion.services l.onion) l.channel
    (drop l.index (due_htlcs l.tables.htlcs))
    ≡ first_due (g.O.Onion.services l.onion) l.channel (due_htlcs l.tables.htlcs)
