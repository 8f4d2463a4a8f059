use Rattle.std.proofs.Common.{ap, ◌∙◌}
use Rattle.ln_log.specs.declared.log.Pair.TheVariants as pair
use Rattle.ln_log.specs.Log.{Counts, covered, live_in}
use Rattle.ln_log.proofs.Whole.{kept_of, counts_whole}
use Rattle.ln_log.proofs.log.UpdateLog.live_htlc_count.Goals as goal

pub returns : goal.returns
returns c = λ l e.
    c.live_htlc_count.ensures _ (kept_of _ _ _ _ l c.self.view_is c.self.invariant e)
    ∙ ap (λ (n : Counts). live_in (covered l n)) (counts_whole (pair.Current c.args.side) l)
