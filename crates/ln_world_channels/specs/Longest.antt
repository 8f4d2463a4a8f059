-- The base of each end of a channel is the longest that its decided events allow (BOLT 2, "Normal Operation").
use Rattle.std.specs.Prelude.{◌≡◌}
use Rattle.ln_channel.specs.Base.{allowed}
use Rattle.ln_channel.specs.End.{End}
use Rattle.ln_world_channels.specs.Both.{Both}
use Rattle.ln_world_channels.specs.Promises.{AtEnds}

-- all that it holds as irrevocably committed, up to its first undecided event, is its base
abbrev pub HasLongest : End → Type 0
HasLongest e = e.dance.log.first ≡ allowed e

abbrev pub HaveLongest : End → End → Type 0
HaveLongest x y = HasLongest x × HasLongest y

abbrev pub BasesAreLongest : {K : Type 0} → Both K → Type 0
BasesAreLongest p = AtEnds HaveLongest p.x.link.stage p.y.link.stage
