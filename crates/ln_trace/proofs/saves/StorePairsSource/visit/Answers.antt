use Rattle.std.proofs.lemmas.Result.{MatchResult-weaker}
use Rattle.ln_trace.proofs.saves.StorePairsSource.visit.Goals as goal

pub returns : goal.returns
returns g c =
    MatchResult-weaker c.visit.result c.visit.ensures
    (λ _ rest.
    (c.visit_pair.new.self, rw (c.to_value.ensures.text, c.display.ensures) at c.in_ok-visit_pair.ensures, rest))
    (λ _ h. h)
