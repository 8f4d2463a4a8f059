-- What a book reads off an end as its node starts.
use Rattle.std.specs.Prelude.{List, [], ◌∷◌, Option, Some, None}
use Rattle.ln_channel.specs.End.{End}
use Rattle.ln_book.specs.Rebuild.{ChannelSnapshot, channel_snapshot_of}

-- of one that both have signed
abbrev pub snapshot_by : Option End → List ChannelSnapshot
snapshot_by None = []
snapshot_by (Some e) = channel_snapshot_of e ∷ []
