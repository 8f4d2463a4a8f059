use Rattle.ln_log.proofs.Alike.{same_signing, same_proposal, same_taking, same_view, same_unacknowledged}
use Rattle.ln_log.proofs.Alike.{same_own_next}
use Rattle.ln_log.proofs.Alike.{alike_proposed, alike_taken, alike_signed, alike_accepted, alike_learned, alike_dropped}
use Rattle.ln_log.proofs.base_laws.alike_lists_are_not_told_apart.Goals as goal

pub returns-clause-same_refusals : goal.returns-clause-same_refusals
returns-clause-same_refusals c = λ l m u h. (
  same_signing h.0 l m h.1.0 h.1.1,
  same_proposal h.0 l m u h.1.0 h.1.1,
  same_taking h.0 l m u h.1.0 h.1.1,
)

pub returns-clause-same_next_id : goal.returns-clause-same_next_id
returns-clause-same_next_id c = λ l m h. same_own_next h.0 l m h.1.0 h.1.1

pub returns-clause-same_views : goal.returns-clause-same_views
returns-clause-same_views c = λ l m p h. same_view p h.0 l m h.1.0 h.1.1

pub returns-clause-same_unacknowledged : goal.returns-clause-same_unacknowledged
returns-clause-same_unacknowledged c = λ l m h. same_unacknowledged h.0 l m h.1.0 h.1.1

pub returns-clause-proposed : goal.returns-clause-proposed
returns-clause-proposed c = alike_proposed

pub returns-clause-taken : goal.returns-clause-taken
returns-clause-taken c = alike_taken

pub returns-clause-moved : goal.returns-clause-moved
returns-clause-moved c =
    λ l m h. (alike_signed l m h, alike_accepted l m h, alike_learned l m h, alike_dropped l m h)
