use Rattle.std.proofs.Common.{ap, ◌+◌, arith}
use Rattle.ln_log.specs.RecordForm.{standing_after}
use Rattle.ln_log.proofs.Restored.{live_both}
use Rattle.ln_log.proofs.Standings.{standing_is}
use Rattle.ln_log.proofs.loading.standing_behind.Goals as goal

pub returns-clause-gives_the_standing : goal.returns-clause-gives_the_standing
returns-clause-gives_the_standing c =
    standing_is _ (standing_after c.args.next c.args.had c.args.live_htlcs.now c.args.own.now c.args.live_htlcs_peer.now
    c.args.peer.now)
    (ap (λ n. c.args.next + n) c.count_adds.ensures.count)
    (omega (
      arith,
      c.count_live.ensures.count,
      c.count_live-2.ensures.count,
      live_both c.args.live_htlcs.now c.args.own.now c.args.peer.now _ c.in_ok-outcomes.ensures.keeps_the_removals,
    ))
    c.in_ok-account.ensures.in_flight
    (omega (arith, c.in_ok-account.ensures.got, c.in_ok-account.ensures.spent))
