use Rattle.std.proofs.Common.{refl}
use Rattle.ln_log.proofs.Moves.{party_proposed, party_received, party_signed, party_accepted, party_acknowledged}
use Rattle.ln_log.proofs.Moves.{party_dropped}
use Rattle.ln_log.proofs.laws.moves_exactly.Goals as goal

pub returns-clause-a_proposal_is_its_move : goal.returns-clause-a_proposal_is_its_move
returns-clause-a_proposal_is_its_move c = party_proposed

pub returns-clause-a_taken_update_is_no_move : goal.returns-clause-a_taken_update_is_no_move
returns-clause-a_taken_update_is_no_move c = party_received

pub returns-clause-a_signature_is_its_move : goal.returns-clause-a_signature_is_its_move
returns-clause-a_signature_is_its_move c = party_signed

pub returns-clause-a_taken_signature_is_its_move : goal.returns-clause-a_taken_signature_is_its_move
returns-clause-a_taken_signature_is_its_move c = party_accepted

pub returns-clause-a_taken_revocation_is_its_move : goal.returns-clause-a_taken_revocation_is_its_move
returns-clause-a_taken_revocation_is_its_move c = party_acknowledged

pub returns-clause-a_lost_connection_is_its_move : goal.returns-clause-a_lost_connection_is_its_move
returns-clause-a_lost_connection_is_its_move c = party_dropped

pub returns-clause-a_shutdown_is_its_move : goal.returns-clause-a_shutdown_is_its_move
returns-clause-a_shutdown_is_its_move c = λ s f l. refl

pub returns-clause-a_close_is_its_move : goal.returns-clause-a_close_is_its_move
returns-clause-a_close_is_its_move c = λ s f fee l. refl
