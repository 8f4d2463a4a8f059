use Rattle.std.proofs.Common.{ap}
use Rattle.ln_book.specs.Value.{of_value}
use Rattle.ln_book.proofs.switch.saying.shown.Goals as goal

pub returns : goal.returns
returns g c = ap of_value c.of.ensures
