use Rattle.std.proofs.Common.{ap, sym, ◌∙◌}
use Rattle.std.specs.FinMap as map
use Rattle.ln_sqlite.proofs.copies.Copies.find.Goals as goal
use Rattle.ln_sqlite.proofs.Maps.{got}

pub returns : goal.returns
returns c =
    c.get.ensures.value ∙ sym (got c.self.inside.records.entries c.args.id.now)
    ∙ ap (λ m. map.get m c.args.id.now) c.self.view_is
