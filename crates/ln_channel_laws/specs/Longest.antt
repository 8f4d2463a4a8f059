-- The base of an end moves on as far as its decided events allow (BOLT 2, "Normal Operation").
use Rattle.std.specs.Prelude.{◌≡◌}
use Rattle.ln_log.specs.Window.{MayBeBase}
use Rattle.ln_channel.specs.Base.{allowed, based}
use Rattle.ln_channel.specs.End.{End}
use Rattle.ln_channel_laws.specs.Ends.{Ends}

-- all that an end holds as irrevocably committed, up to its first undecided event, can be its base; and as it is saved,
-- that is its base
pub record IsLongest (e : End) : Type 0 where
  pub may : MayBeBase e.dance.log (allowed e)
  pub is : (based e).dance.log.first ≡ allowed e

abbrev pub BothAreLongest : Ends → Type 0
BothAreLongest p = IsLongest p.x × IsLongest p.y
