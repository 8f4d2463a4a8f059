use Rattle.std.proofs.Common.{◌≡◌, ap, ◌∙◌, sym, Some}
use Rattle.ln_book.proofs.Same.{same-use, alike, alike-again}
use Rattle.ln_book.proofs.switch.uses.is_again.Goals as goal

pub returns-in-Some : goal.returns-in-Some
returns-in-Some c = (
  λ is. c.in-Some.is ∙ ap Some (same-use c.in-Some.last c.args.used (sym c.eq.ensures ∙ is)),
  λ is. let some : Some c.in-Some.last ≡ Some c.args.used = sym c.in-Some.is ∙ is in
      let same : c.in-Some.last ≡ c.args.used = cc in
      c.eq.ensures ∙ ap (λ x. alike c.in-Some.last x) (sym same) ∙ alike-again c.in-Some.last,
)
