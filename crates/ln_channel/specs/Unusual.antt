-- Which values usual peers refuse at an opening (BOLT 2, "Channel Establishment v1"; BOLT 3, "Dust Limits").
use Rattle.std.specs.Prelude.{nat_lt, Option, Some, None, if◌then◌else◌}
use Rattle.ln_channel.specs.declared.config.Config.{Config}
use Rattle.ln_channel.specs.declared.config.OpenSpec.{OpenSpec}
use Rattle.ln_channel.specs.declared.unusual.Unusual.{Unusual}
use Rattle.ln_channel.specs.declared.unusual.Unusual.TheVariants.{DustLimit, Reserve, ToSelfDelay, AcceptedHtlcs}
use Rattle.ln_channel.specs.declared.unusual.Unusual.TheVariants.{Feerate}

-- satoshi, blocks and HTLCs
abbrev pub unusual_config : Config → Option Unusual
unusual_config c =
    if nat_lt c.dust_limit 354 then Some DustLimit
    else (if nat_lt c.limits.reserve c.dust_limit then Some Reserve
    else (if nat_lt 2016 c.to_self_delay then Some ToSelfDelay
    else (if nat_lt c.limits.accepted 5 then Some AcceptedHtlcs
    else None)))

abbrev pub or_unusual : Option Unusual → Option Unusual → Option Unusual
or_unusual None second = second
or_unusual (Some first) second = Some first

-- and satoshi per 1000 weight
abbrev pub unusual_spec : OpenSpec → Option Unusual
unusual_spec s = or_unusual (unusual_config s.config) (if nat_lt s.feerate 253 then Some Feerate else None)
