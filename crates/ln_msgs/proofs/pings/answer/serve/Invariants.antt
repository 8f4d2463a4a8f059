-- The frames so far were served, and the rest is left.
use Rattle.std.proofs.Common.{length}
use Rattle.ln_msgs.specs.Pings.Served.{Serves}
use Rattle.ln_msgs.proofs.pings.answer.serve.Given as goal

abbrev pub invariant-frames : goal.invariant-frames
invariant-frames l = Serves l.bytes l.rest l.initial.out l.out

abbrev pub decreases-frames : goal.decreases-frames
decreases-frames l = length l.rest
