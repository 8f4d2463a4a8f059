-- What one piece of a stream gave: the messages of its whole frames, and the pongs that wait to be written.
use Rattle.std.specs.Prelude.{◌≡◌, ℕ, ◌+◌, ◌<◌, List, ◌++◌, length}
use Rattle.ln_msgs.specs.declared.pings.answer.Stop.{Stop}
use Rattle.ln_msgs.specs.declared.pings.answer.Stop.TheVariants as stops
use Rattle.ln_msgs.specs.Messages.Message.{Heard}
use Rattle.ln_msgs.specs.Frames.Frame.{Hears, HasNoFrame, IsFaulty}
use Rattle.ln_msgs.specs.Pings.Answer.{replies, pongs, told}
use Rattle.ln_msgs.specs.Pings.Outgoing.{Waiting}

-- the front of the bytes is whole frames, whose replies wait now after what waited; the rest is left
pub record Serves (bytes rest : List ℕ) (old new : Waiting) : Type 0 where
  pub heard : List Heard
  pub front : List ℕ
  pub hears : Hears heard front
  pub bytes_are : bytes ≡ front ++ rest
  pub waiting : new.bytes ≡ old.bytes ++ replies heard
  pub counted : new.pongs ≡ told (old.pongs + pongs heard)

-- why the rest is left
abbrev pub StopsAt : List ℕ → Stop → Type 0
StopsAt rest stops.NoFrame = HasNoFrame rest × (length rest < 65537)
StopsAt rest stops.Full = Unit {0}
StopsAt rest (stops.Fault f) = IsFaulty rest f
