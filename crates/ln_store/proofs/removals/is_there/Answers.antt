use Rattle.std.proofs.Common.{◌∙◌, sym}
use Rattle.ln_store.proofs.Removing.{held}
use Rattle.ln_store.proofs.removals.is_there.Goals as goal

pub returns-then-is_in_window : goal.returns-then-is_in_window
returns-then-is_in_window c = λ adds h e.
    c.if-is_in_window.true
    ∙ held c.args.side c.args.live.now c.args.first c.args.added c.args.id _ adds h e
    (sym c.if-is_in_window.true ∙ c.is_in_window.ensures)

pub returns-else-is_in_window : goal.returns-else-is_in_window
returns-else-is_in_window c = λ adds h e.
    c.is_in_base.ensures
    ∙ held c.args.side c.args.live.now c.args.first c.args.added c.args.id _ adds h e
    (sym c.if-is_in_window.false ∙ c.is_in_window.ensures)
