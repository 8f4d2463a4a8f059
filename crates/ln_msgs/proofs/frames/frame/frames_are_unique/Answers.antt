use Rattle.ln_msgs.proofs.UniqueFrames.{unique_frames}
use Rattle.ln_msgs.proofs.frames.frame.frames_are_unique.Goals as goal

pub returns : goal.returns
returns c = unique_frames
