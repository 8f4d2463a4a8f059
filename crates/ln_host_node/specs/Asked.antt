-- What a node asks about a message: it knows itself which channels there are.
use Rattle.std.specs.Prelude.{Option, Some, None}
use Rattle.ln_keys.specs.declared.role.Role.TheVariants as role
use Rattle.ln_host.specs.declared.question.Question.{Question}
use Rattle.ln_host.specs.declared.question.Question.TheVariants as question

abbrev pub asked_of : Question → Option Question
asked_of (question.New channel) = None
asked_of (question.First channel view) = Some (question.Signatures role.Fundee 0 view)
asked_of (question.Signatures side n view) = Some (question.Signatures side n view)
asked_of (question.Secret n point) = Some (question.Secret n point)
asked_of (question.Close terms) = Some (question.Close terms)
asked_of (question.OwnSecret n) = Some (question.OwnSecret n)

abbrev pub asked : Option Question → Option Question
asked None = None
asked (Some q) = asked_of q
