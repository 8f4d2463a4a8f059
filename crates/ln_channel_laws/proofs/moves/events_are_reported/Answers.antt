use Rattle.ln_channel_laws.proofs.Events.EventsOverRuns.{events_so}
use Rattle.ln_channel_laws.proofs.moves.events_are_reported.Goals as goal

pub returns : goal.returns
returns c = events_so
