use Rattle.std.proofs.Common.{◌≡◌, ◌++◌, drop, map}
use Rattle.ln_log.specs.View.{live_adds, htlc_of}
use Rattle.ln_log.proofs.plain.push_live.Given as goal

-- what is there and what is still to come
abbrev pub invariant-loop-update : goal.invariant-loop-update
invariant-loop-update l = l.htlcs.items ++ map (htlc_of l.owner) (live_adds (drop l.update-index l.adds) l.outcomes)
    ≡ l.fn.htlcs.items ++ map (htlc_of l.owner) (live_adds l.adds l.outcomes)
