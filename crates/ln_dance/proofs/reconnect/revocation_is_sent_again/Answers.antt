use Rattle.ln_dance.proofs.Parted.{revoked_again, revokes_so}
use Rattle.ln_dance.proofs.reconnect.revocation_is_sent_again.Goals as goal

pub returns-clause-same_revocation : goal.returns-clause-same_revocation
returns-clause-same_revocation c = revoked_again

pub returns-clause-at_first : goal.returns-clause-at_first
returns-clause-at_first c = revokes_so
