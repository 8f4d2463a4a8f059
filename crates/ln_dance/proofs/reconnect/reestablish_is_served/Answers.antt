use Rattle.ln_dance.proofs.Parted.{served, lacked_signature, lacked_revocation}
use Rattle.ln_dance.proofs.reconnect.reestablish_is_served.Goals as goal

pub returns-clause-served : goal.returns-clause-served
returns-clause-served c = served

pub returns-clause-signature_where_lacked : goal.returns-clause-signature_where_lacked
returns-clause-signature_where_lacked c = lacked_signature

pub returns-clause-revocation_where_lacked : goal.returns-clause-revocation_where_lacked
returns-clause-revocation_where_lacked c = lacked_revocation
