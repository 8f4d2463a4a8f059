use Rattle.ln_channel_laws.proofs.Events.EventsOverRuns.{in_step_so}
use Rattle.ln_channel_laws.proofs.moves.undecided_events_are_the_machines.Goals as goal

pub returns : goal.returns
returns c = in_step_so
