use Rattle.ln_dance.proofs.Parted.{signed_again, same_updates, signs_so, so_proposed, so_received, so_accepted}
use Rattle.ln_dance.proofs.Parted.{so_dropped, so_told}
use Rattle.ln_dance.proofs.reconnect.signature_is_sent_again.Goals as goal

pub returns-clause-same_signature : goal.returns-clause-same_signature
returns-clause-same_signature c = signed_again

pub returns-clause-same_updates : goal.returns-clause-same_updates
returns-clause-same_updates c = same_updates

pub returns-clause-at_first : goal.returns-clause-at_first
returns-clause-at_first c = signs_so

pub returns-clause-after_proposal : goal.returns-clause-after_proposal
returns-clause-after_proposal c = so_proposed

pub returns-clause-after_update : goal.returns-clause-after_update
returns-clause-after_update c = so_received

pub returns-clause-after_signature : goal.returns-clause-after_signature
returns-clause-after_signature c = so_accepted

pub returns-clause-after_break : goal.returns-clause-after_break
returns-clause-after_break c = so_dropped

pub returns-clause-after_same_point : goal.returns-clause-after_same_point
returns-clause-after_same_point c = so_told
