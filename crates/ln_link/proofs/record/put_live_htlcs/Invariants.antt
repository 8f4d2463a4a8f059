use Rattle.std.proofs.Common.{◌≡◌, ◌++◌, drop, map}
use Rattle.std.specs.List.{filter_map}
use Rattle.ln_log.specs.Updates.{offered}
use Rattle.ln_link.specs.Record.{live_of}
use Rattle.ln_link.proofs.record.put_live_htlcs.Given as goal

-- what is there and what is still to come
abbrev pub invariant-loop-update : goal.invariant-loop-update
invariant-loop-update l =
    l.live.items ++ map (live_of l.side) (filter_map offered (drop l.update-index l.updates))
    ≡ l.fn.live.items ++ map (live_of l.side) (filter_map offered l.updates)
