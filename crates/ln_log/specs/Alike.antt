-- Lists that no call of a log tells apart: the same kept value stands for both.
use Rattle.ln_log.specs.Log.{Log}
use Rattle.ln_log.specs.Kept.{Kept, IsWindowOf}

abbrev pub AreAlike : Log → Log → Type 0
AreAlike l m = (k : Kept) × (IsWindowOf k l × IsWindowOf k m)
