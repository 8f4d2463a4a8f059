use Rattle.std.proofs.Common.{◌≡◌, ◌≤◌, ◌*◌, ◌^◌, take, sum_by}
use Rattle.ln_store.specs.Window.{live_amount}
use Rattle.ln_store.proofs.window.live_amounts.Given as goal

abbrev pub invariant-loop-htlc : goal.invariant-loop-htlc
invariant-loop-htlc l = record {
  amount : l.amount ≡ sum_by live_amount (take l.htlc-index l.live);
  amount_fits : l.amount ≤ 2 ^ 64 * l.htlc-index;
}
