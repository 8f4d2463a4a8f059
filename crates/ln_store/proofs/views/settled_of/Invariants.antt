use Rattle.std.proofs.Common.{◌≡◌, ◌≤◌, ◌+◌, ◌*◌, ◌^◌, drop}
use Rattle.ln_log.specs.Updates.{total, is_failed, is_fulfilled}
use Rattle.ln_store.specs.Views.{live_htlcs_of}
use Rattle.ln_store.proofs.views.settled_of.Given as goal

abbrev pub invariant-loop-htlc : goal.invariant-loop-htlc
invariant-loop-htlc l = record {
  failed : l.settled.failed + total is_failed (live_htlcs_of l.side (drop l.htlc-index l.live)) l.outcomes
      ≡ total is_failed (live_htlcs_of l.side l.live) l.outcomes;
  fulfilled : l.settled.fulfilled + total is_fulfilled (live_htlcs_of l.side (drop l.htlc-index l.live)) l.outcomes
      ≡ total is_fulfilled (live_htlcs_of l.side l.live) l.outcomes;
  failed_fits : l.settled.failed ≤ 2 ^ 64 * l.htlc-index;
  fulfilled_fits : l.settled.fulfilled ≤ 2 ^ 64 * l.htlc-index;
}
