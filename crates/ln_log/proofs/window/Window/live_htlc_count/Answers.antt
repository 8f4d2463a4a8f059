use Rattle.std.proofs.Common.{arith}
use Rattle.ln_log.proofs.Viewed.{live_call}
use Rattle.ln_log.proofs.window.Window.live_htlc_count.Goals as goal

pub returns : goal.returns
returns c = λ l s.
    omega (
      arith,
      c.saturating_sub.ensures,
      c.count_adds.ensures.count,
      c.count_adds-2.ensures.count,
      c.count_removals.ensures.count,
      c.count_removals-2.ensures.count,
      live_call _ l c.args.side _ _ _ _ s (c.counts-counts.ensures.own l s)
          (c.counts-counts.ensures.peer l s) (c.front-own.ensures.updates l s) (c.front-peer.ensures.updates l s),
    )
