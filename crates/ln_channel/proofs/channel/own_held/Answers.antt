use Rattle.std.proofs.Common.{refl, subst, ◌≤◌}
use Rattle.ln_log.specs.Log.{Log}
use Rattle.ln_channel.proofs.channel.own_held.Goals as goal

pub returns-clause-ordered : goal.returns-clause-ordered
returns-clause-ordered c = subst (λ (l : Log). l.current.own ≤ l.acknowledged.own) (c.log-log.ensures _ refl)
    (c.counts.ensures.ordered _ refl).own_current
