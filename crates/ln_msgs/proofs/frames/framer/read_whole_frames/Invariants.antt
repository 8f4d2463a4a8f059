-- The frames so far say the messages so far, and the rest is left.
use Rattle.std.proofs.Common.{length, map}
use Rattle.ln_msgs.specs.Messages.Typed.{heard}
use Rattle.ln_msgs.specs.Frames.Framer.{HearsSoFar}
use Rattle.ln_msgs.proofs.frames.framer.read_whole_frames.Given as goal

abbrev pub invariant-frames : goal.invariant-frames
invariant-frames l = HearsSoFar l.bytes (map heard l.messages.items) l.rest

abbrev pub decreases-frames : goal.decreases-frames
decreases-frames l = length l.rest
