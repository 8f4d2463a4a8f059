use Rattle.std.proofs.Common.{◌≡◌, sym, subst, true}
use Rattle.std.proofs.lemmas.Bool.{and_parts}
use Rattle.ln_store.specs.Sides.{count_of}
use Rattle.ln_store.specs.Window.{are_numbered}
use Rattle.ln_store.proofs.Removing.{first_numbered}
use Rattle.ln_store.proofs.views.covered_of.Goals as goal

pub returns-then-covered-window-clause-ids : goal.returns-then-covered-window-clause-ids
returns-then-covered-window-clause-ids c =
    let first = count_of c.args.side c.args.updates.now.base.next_ids in
    first_numbered c.saturating_sub-covered.result first c.window_of-window.result.now
    (subst (λ us. are_numbered first us ≡ true) (sym c.window_of-window.ensures) (and_parts _ _ c.requires).1)
