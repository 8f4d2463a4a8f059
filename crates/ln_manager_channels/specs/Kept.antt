-- What is kept of a node's channels, as calls have it.
use Rattle.ln_manager_channels.specs.declared.parts.ChannelParts.{ChannelParts}
use Rattle.ln_manager_channels.specs.Calls.{Parts}

abbrev pub parts_of : {K : Type 0} → ChannelParts K → Parts K
parts_of p = record { links = p.links.items; records = p.records.items; numbers = p.numbers; book = p.book }
