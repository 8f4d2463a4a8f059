use Rattle.std.proofs.Common.{ap, ◌∙◌}
use Rattle.std.specs.FinMap as map
use Rattle.ln_sqlite.proofs.copies.Copies.take_out.Goals as goal
use Rattle.ln_sqlite.proofs.Maps.{take}

pub returns : goal.returns
returns c =
    take c.self.inside.records.entries c.remove.new.self.entries c.args.id.now c.remove.ensures.updates.0
    ∙ ap (λ m. map.remove m c.args.id.now) c.self.view_is
