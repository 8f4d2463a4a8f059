-- What was said between the ends of a node's channels and its book of payments.
use Rattle.std.specs.Prelude.{ℕ, List, [], ◌∷◌, fold, Option, Some, None, Result}
use Rattle.ln_book.specs.Value.{of_value}
use Rattle.ln_hooks.specs.declared.event.ChannelEvent.{ChannelEvent}
use Rattle.ln_hooks.specs.declared.verdict.Verdict.{Verdict}
use Rattle.ln_channel.specs.declared.command.Command.{Command}
use Rattle.ln_channel.specs.End.{End}
use Rattle.ln_book.specs.declared.switch.uses.Use.{Use}
use Rattle.ln_book.specs.declared.switch.saying.Saying.{Saying}
use Rattle.ln_book.specs.declared.switch.saying.Saying.TheVariants as saying

abbrev pub took_one : List ℕ → Command → Saying
took_one channel c = saying.Took channel (of_value c)

-- what is said where a command is handed out
abbrev pub took : List ℕ → Option Command → List Saying
took channel None = []
took channel (Some c) = took_one channel c ∷ []

abbrev pub answered : List ℕ → Result ℕ ℕ → Saying
answered channel a = saying.Answered channel a

abbrev pub settled : List ℕ → ChannelEvent → Saying
settled channel e = saying.Settled channel (of_value e)

abbrev pub decided : List ℕ → ℕ → ChannelEvent → Verdict → Saying
decided channel n e verdict = saying.Decided channel n (of_value e) verdict

abbrev pub dropped : End → Saying
dropped e = saying.Dropped (of_value e)

abbrev pub uses : Use → Saying
uses u = saying.Uses u

-- what was said last of the use of an end, after this
abbrev pub used_by : Option Use → Saying → Option Use
used_by last (saying.Took channel c) = last
used_by last (saying.Answered channel a) = last
used_by last (saying.Settled channel e) = last
used_by last (saying.Decided channel n e verdict) = last
used_by last (saying.Dropped e) = last
used_by last (saying.Uses u) = Some u

abbrev pub last_use : List Saying → Option Use
last_use ss = fold used_by None ss
