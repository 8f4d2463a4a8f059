-- The channel that a host is asked about: whether it has no record of it yet.
use Rattle.std.specs.Prelude.{ℕ, List, Option, Some, None}
use Rattle.ln_host.specs.declared.question.Question.{Question}
use Rattle.ln_host.specs.declared.question.Question.TheVariants as question

abbrev pub channel_asked : Option Question → Option (List ℕ)
channel_asked (Some (question.New channel)) = Some channel
channel_asked (Some (question.First channel view)) = Some channel
channel_asked q = None
