use Rattle.std.proofs.Common.{◌++◌, ap, sym, ◌∙◌, append-nil}
use Rattle.std.specs.FinMap as map
use Rattle.ln_sqlite.proofs.copies.Copies.ids.Goals as goal
use Rattle.ln_sqlite.proofs.Maps.{same_keys}

pub returns-clause-gives_each_id_in_order : goal.returns-clause-gives_each_id_in_order
returns-clause-gives_each_id_in_order c =
    sym (append-nil c.loop-id.ids.items) ∙ ap (λ ks. c.loop-id.ids.items ++ ks) (sym c.in-None.ensures.steps.0)
    ∙ c.loop-id.invariant
    ∙ c.into_iter-id-iterator.ensures.into_iter_gives ∙ c.keys-id-items.ensures.rest
    ∙ sym (same_keys c.self.inside.records.entries c.keys-id-items.ensures.ordered)
    ∙ ap map.keys c.self.view_is
