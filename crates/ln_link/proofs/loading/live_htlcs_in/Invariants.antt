use Rattle.std.proofs.Common.{◌≡◌, [], drop}
use Rattle.ln_link.specs.Loading.{live_htlcs_from}
use Rattle.ln_link.proofs.loading.live_htlcs_in.Given as goal

-- after those so far come those of the rest
abbrev pub invariant-loop-htlc : goal.invariant-loop-htlc
invariant-loop-htlc l =
    live_htlcs_from l.side l.adds.items (drop l.htlc-index l.live) ≡ live_htlcs_from l.side [] l.live
