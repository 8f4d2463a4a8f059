use Rattle.std.proofs.Common.{◌∙◌, ap, length}
use Rattle.ln_book_tables.specs.Due.{is_due, due_htlcs}
use Rattle.ln_book_tables.proofs.InSlots.{as_many_in}
use Rattle.ln_book_tables.proofs.indexed.IndexedHtlcs.due_count.Goals as goal

pub returns : goal.returns
returns c =
    c.len.ensures ∙ c.self.inside.indices.due.ok.0 ∙ ap length c.self.invariant.indexed.due
    ∙ as_many_in is_due c.self.inside.slots.items ∙ ap (λ hs. length (due_htlcs hs)) c.self.view_is
