use Rattle.std.proofs.Common.{subst, sym}
use Rattle.ln_watch.specs.Summary.{IsSummary, IsKept}
use Rattle.ln_watch.proofs.watch.Kept.copy.Goals as goal

pub returns-in-Ok-clause-is_of_a_link : goal.returns-in-Ok-clause-is_of_a_link
returns-in-Ok-clause-is_of_a_link c =
    subst IsSummary (sym c.in-Ok.ensures.copy) (subst IsKept c.in-Some.is c.args.self.now.is_of_a_link)
