use Rattle.std.proofs.Common.{ap, sym, ◌∙◌}
use Rattle.std.specs.Prelude.{is_none, not}
use Rattle.ln_book_tables.specs.declared.htlc.OutgoingLeg.TheVariants as outgoing
use Rattle.ln_book_tables.specs.Replay.{is_offered, put_outgoing, with_htlcs}
use Rattle.ln_book.proofs.Lists.{none_changed, some_shown}
use Rattle.ln_book.proofs.book.keep_result.Goals as goal

pub returns-then-is_none-clause-done : goal.returns-then-is_none-clause-done
returns-then-is_none-clause-done c =
    let t = c.args.tables.now in
    ap (λ hs. with_htlcs hs t) (sym (none_changed (is_offered c.args.key)
    (put_outgoing (outgoing.Resolved c.args.key c.args.how.now)) t.htlcs
    (ap is_none (sym c.offered.ensures)
    ∙ ap (λ b. not b) (some_shown (λ x. x.now) c.offered.result ∙ c.if-is_none.ensures))))
