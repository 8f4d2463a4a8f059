use Rattle.ln_msgs.proofs.Framing.{any_pieces_heard, any_pieces_only}
use Rattle.ln_msgs.proofs.frames.framer.any_pieces.Goals as goal

pub returns-clause-has_heard_what_came : goal.returns-clause-has_heard_what_came
returns-clause-has_heard_what_came c = any_pieces_heard

pub returns-clause-has_answered_no_others : goal.returns-clause-has_answered_no_others
returns-clause-has_answered_no_others c = any_pieces_only
