-- What is a side's in a record.
use Rattle.std.specs.Prelude.{ℕ, List}
use Rattle.ln_keys.specs.declared.role.Role.{Role}
use Rattle.ln_keys.specs.declared.role.Role.TheVariants.{Funder, Fundee}
use Rattle.ln_log.specs.declared.update.Update.{Update}
use Rattle.ln_store.specs.declared.record.Sides.{Sides}
use Rattle.ln_store.specs.declared.record.Window.{Window}

abbrev pub count_of : Role → Sides → ℕ
count_of Funder s = s.funder
count_of Fundee s = s.fundee

abbrev pub window_of : Role → Window → List Update
window_of Funder w = w.funder
window_of Fundee w = w.fundee
