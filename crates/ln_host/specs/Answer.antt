-- A host's answer to the question about a message.
use Rattle.std.specs.Prelude.{ℕ, List, [], ◌∷◌, length, replicate, true, false, ◌==◌, Option, Some, None}
use Rattle.std.specs.Prelude.{Result, Ok, Err, if◌then◌else◌}
use Rattle.ln_refusals.specs.Refusal.{refusal_number}
use Rattle.ln_host.specs.declared.answer.Answer.{Answer}
use Rattle.ln_host.specs.declared.answer.HostRefusal.{HostRefusal}
use Rattle.ln_host.specs.declared.answer.HostRefusal.TheVariants as host
use Rattle.ln_host.specs.declared.keys.HostKeys.{HostKeys}
use Rattle.ln_host.specs.declared.question.Question.{Question}
use Rattle.ln_host.specs.declared.question.Question.TheVariants as question

abbrev pub refusal_number_of : HostRefusal → ℕ
refusal_number_of (host.Refused r) = refusal_number r
refusal_number_of host.Asks = 80
refusal_number_of host.Answer = 81

-- nothing was asked
abbrev pub nothing : Answer
nothing = record { is_right = false; secret = replicate 32 0; known = None }

abbrev pub right : Answer
right = record nothing { is_right = true }

abbrev pub knows : List ℕ → Answer
knows channel = record nothing { known = Some channel }

-- a byte that is one of these
abbrev pub by_byte : Result Answer HostRefusal → Result Answer HostRefusal → ℕ → Result Answer HostRefusal
by_byte zero_says one_says n = if n == 0 then zero_says else (if n == 1 then one_says else Err host.Answer)

-- no byte, one byte, more
abbrev pub one_byte : (ℕ → Result Answer HostRefusal) → List ℕ → Result Answer HostRefusal
one_byte by [] = Err host.Asks
one_byte by (n ∷ []) = by n
one_byte by (n ∷ m ∷ ns) = Err host.Answer

-- whether it is right
abbrev pub judged : List ℕ → Result Answer HostRefusal
judged bytes = one_byte (by_byte (Ok nothing) (Ok right)) bytes

-- the same, or 2 where the host has a record of the channel
abbrev pub judged_first : List ℕ → List ℕ → Result Answer HostRefusal
judged_first channel bytes =
    one_byte (λ n. if n == 2 then Ok (knows channel) else by_byte (Ok nothing) (Ok right) n) bytes

-- whether the host has none
abbrev pub judged_new : List ℕ → List ℕ → Result Answer HostRefusal
judged_new channel bytes = one_byte (by_byte (Ok (knows channel)) (Ok nothing)) bytes

-- the own secret
abbrev pub told_secret : List ℕ → Result Answer HostRefusal
told_secret bytes =
    if length bytes == 0 then Err host.Asks
    else (if length bytes == 32 then Ok (record nothing { secret = bytes }) else Err host.Answer)

abbrev pub answer_to : Question → List ℕ → Result Answer HostRefusal
answer_to (question.New channel) bytes = judged_new channel bytes
answer_to (question.First channel v) bytes = judged_first channel bytes
answer_to (question.Signatures r n v) bytes = judged bytes
answer_to (question.Secret n p) bytes = judged bytes
answer_to (question.Close t) bytes = judged bytes
answer_to (question.OwnSecret n) bytes = told_secret bytes

-- what the bytes tell: 80 where there is a question and no byte, 81 where they are no answer to it
abbrev pub answer_of : Option Question → List ℕ → Result Answer HostRefusal
answer_of None bytes = if length bytes == 0 then Ok nothing else Err host.Answer
answer_of (Some q) bytes = answer_to q bytes

-- keys that have been told it
abbrev pub keys_told : List ℕ → Answer → HostKeys
keys_told first_point a = record { first_point = first_point; is_right = a.is_right; secret = a.secret }
