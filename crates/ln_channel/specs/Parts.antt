-- The parts of an end.
use Rattle.ln_dance.specs.Dance.{Dancer}
use Rattle.ln_close.specs.declared.closing.Closing.{Closing}
use Rattle.ln_channel.specs.declared.opening.Terms.{Terms}
use Rattle.ln_channel.specs.declared.channel.Readiness.{Readiness}
use Rattle.ln_channel.specs.Ledger.{Ledger}
use Rattle.ln_channel.specs.End.{End}

abbrev pub end_with : Dancer → Closing → Terms → Readiness → Ledger → End
end_with d c t m l = record { dance = d; closing = c; terms = t; readiness = m; ledger = l }
