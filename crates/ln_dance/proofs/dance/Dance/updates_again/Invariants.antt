use Rattle.std.proofs.Common.{◌≡◌, take, map}
use Rattle.ln_dance.specs.Messages.{update_message}
use Rattle.ln_dance.proofs.dance.Dance.updates_again.Given as goal

abbrev pub invariant-loop-update : goal.invariant-loop-update
invariant-loop-update l = l.messages.items ≡ map (update_message l.channel) (take l.update-index l.update-items)
