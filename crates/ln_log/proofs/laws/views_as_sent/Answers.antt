use Rattle.ln_log.proofs.Sent.{same_views, turned_views}
use Rattle.ln_log.proofs.laws.views_as_sent.Goals as goal

pub returns-clause-depends_on_the_updates_as_sent : goal.returns-clause-depends_on_the_updates_as_sent
returns-clause-depends_on_the_updates_as_sent c = same_views

pub returns-clause-is_the_same_from_the_other_side : goal.returns-clause-is_the_same_from_the_other_side
returns-clause-is_the_same_from_the_other_side c = turned_views
