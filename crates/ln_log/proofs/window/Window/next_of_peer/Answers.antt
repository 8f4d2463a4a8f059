use Rattle.std.proofs.Common.{sym, subst, arith, ◌≤◌}
use Rattle.ln_log.specs.Kept.{Kept, IsWindowOf}
use Rattle.ln_log.proofs.Handed.{next_is}
use Rattle.ln_log.proofs.window.Window.next_of_peer.Goals as goal

pub returns : goal.returns
returns c = λ l s.
    omega (
      arith,
      next_is _ l c.args.count _ (subst (λ (k : Kept). IsWindowOf k l) (sym c.self.view_is) s)
          (subst (λ (k : Kept). k.first.peer ≤ c.args.count) (sym c.self.view_is) c.requires.behind_the_base)
          (c.between-updates.ensures.updates l s),
      c.count_adds.ensures.count,
      c.from.ensures,
    )
