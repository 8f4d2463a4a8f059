use Rattle.std.proofs.Common.{◌≡◌, ◌++◌, drop}
use Rattle.ln_watch.specs.Htlc.{live_htlcs}
use Rattle.ln_watch.proofs.htlc.append_live.Given as goal

-- what is there and what is still to come
abbrev pub invariant-loop-htlc : goal.invariant-loop-htlc
invariant-loop-htlc l = l.live.items ++ live_htlcs l.owner l.own l.adds l.removals (drop l.htlc-index l.htlcs)
    ≡ l.fn.live.items ++ live_htlcs l.owner l.own l.adds l.removals l.htlcs
