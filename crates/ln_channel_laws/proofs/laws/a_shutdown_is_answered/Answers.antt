use Rattle.ln_channel_laws.proofs.Readiness.ShutdownAnswered.{all_answered}
use Rattle.ln_channel_laws.proofs.laws.a_shutdown_is_answered.Goals as goal

pub returns : goal.returns
returns c = all_answered
