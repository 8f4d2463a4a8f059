use Rattle.std.proofs.Common.{◌<◌, ◌≤◌, ◌∙◌, ap, sym, length, option_map, rules}
use Rattle.ln_book_tables.specs.Due.{due_htlcs}
use Rattle.ln_book.specs.Commands.{unboxed}
use Rattle.ln_book.proofs.Due.{found_there, none_there}
use Rattle.ln_book.proofs.commands.first_due.Goals as goal

pub returns-in-Some-clause-command : goal.returns-in-Some-clause-command
returns-in-Some-clause-command g c =
    let within : c.loop-index.index < length (due_htlcs c.args.tables.now.htlcs) = search rules in
    found_there (g.O.Onion.services c.args.onion.now) c.args.channel.now
    c.args.tables.now.htlcs c.loop-index.index c.due_at-htlc.result.now (unboxed c.in-Some.found) within
    c.due_at-htlc.ensures (sym c.in_ok-found.ensures.command ∙ ap (option_map unboxed) c.in-Some.is)
    c.loop-index.invariant

pub returns-clause-command : goal.returns-clause-command
returns-clause-command g c =
    let all : length (due_htlcs c.args.tables.now.htlcs) ≤ c.loop-index.index = search rules in
    none_there (g.O.Onion.services c.args.onion.now) c.args.channel.now
    c.args.tables.now.htlcs c.loop-index.index all c.loop-index.invariant
