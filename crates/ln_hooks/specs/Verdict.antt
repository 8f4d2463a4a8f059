-- What hooks answer to an event, and what a table of them says of it.
use Rattle.std.specs.Prelude.{ℕ, List, [], ◌∷◌, Bool, true, false, ◌==◌, Option, Some, None}
use Rattle.std.specs.List.{list_any}
use Rattle.ln_hooks.specs.declared.verdict.FailureCode.{FailureCode}
use Rattle.ln_hooks.specs.declared.verdict.FailureCode.TheVariants as code
use Rattle.ln_hooks.specs.declared.verdict.Verdict.{Verdict}
use Rattle.ln_hooks.specs.declared.verdict.Verdict.TheVariants.{Continue, Fail, Hold}

-- BOLT 4, "Failure Messages": PERM is 0x4000 = 16384, UPDATE is 0x1000 = 4096
abbrev pub code_number : FailureCode → ℕ
code_number code.TemporaryChannelFailure = 4103
code_number code.UnknownNextPeer = 16394
code_number code.AmountBelowMinimum = 4107
code_number code.FeeInsufficient = 4108
code_number code.IncorrectCltvExpiry = 4109
code_number code.ExpiryTooSoon = 4110
code_number code.IncorrectOrUnknownPaymentDetails = 16399
code_number code.FinalIncorrectCltvExpiry = 18
code_number code.FinalIncorrectHtlcAmount = 19
code_number code.ExpiryTooFar = 21
code_number code.InvalidOnionPayload = 16406

-- the codes by which a hook may fail a payment: none has the BADONION bit, 0x8000
abbrev pub lawful_codes : List ℕ
lawful_codes = 4103 ∷ 16394 ∷ 4107 ∷ 4108 ∷ 4109 ∷ 4110 ∷ 16399 ∷ 18 ∷ 19 ∷ 21 ∷ 16406 ∷ []

abbrev pub is_lawful : ℕ → Bool
is_lawful number = list_any (λ c. c == number) lawful_codes

-- the code of the first Fail
abbrev pub first_code : List Verdict → Option FailureCode
first_code [] = None
first_code (Continue ∷ answers) = first_code answers
first_code (Fail c ∷ answers) = Some c
first_code (Hold ∷ answers) = first_code answers

-- one of them is Hold
abbrev pub has_hold : List Verdict → Bool
has_hold [] = false
has_hold (Continue ∷ answers) = has_hold answers
has_hold (Fail c ∷ answers) = has_hold answers
has_hold (Hold ∷ answers) = true

abbrev pub verdict_by : Option FailureCode → Bool → Verdict
verdict_by (Some c) held = Fail c
verdict_by None true = Hold
verdict_by None false = Continue

-- the first Fail of the answers, in order of registration, else Hold where one of them is, else Continue
abbrev pub verdict : List Verdict → Verdict
verdict answers = verdict_by (first_code answers) (has_hold answers)

-- an answer where another hook holds the payment
abbrev pub or_hold : Verdict → Verdict
or_hold Continue = Hold
or_hold (Fail c) = Fail c
or_hold Hold = Hold

-- what is said so far, and what a further hook's answer makes of it
abbrev pub joined : Verdict → Verdict → Verdict
joined Continue answer = answer
joined (Fail c) answer = Fail c
joined Hold answer = or_hold answer
