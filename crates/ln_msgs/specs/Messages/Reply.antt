-- How a peer is told that its message is refused (BOLT 1, "The error and warning Messages").
use Rattle.std.specs.Prelude.{ℕ, List, [], ◌∷◌, ◌++◌, Option, Some, None, ◌==◌, ◌&&◌, nat_le, if◌then◌else◌, codes}
use Rattle.std.specs.Fmt.{decimal}
use Rattle.ln_msgs.specs.Codec.Field.{Str}
use Rattle.ln_msgs.specs.Messages.Message.{Wire}
use Rattle.ln_refusals.specs.Refusal.{refusal_number}
use Rattle.ln_refusals.specs.declared.refusal.Refusal.{Refusal}

-- `refused` and the number, in ASCII
abbrev pub text_of_number : ℕ → List ℕ
text_of_number n = codes "refused " ++ decimal n

-- a message of this type, of error or warning, with that text
abbrev pub refused_wire : ℕ → List ℕ → ℕ → Wire
refused_wire typ id n = record { typ = typ; values = Str id ∷ Str (text_of_number n) ∷ []; records = [] }

-- an error, type 17, for 20 to 35; a warning, type 1, for 36; nothing for any other number
abbrev pub reply_by_number : List ℕ → ℕ → Option Wire
reply_by_number id n = if nat_le 20 n && nat_le n 35 then Some (refused_wire 17 id n)
    else (if n == 36 then Some (refused_wire 1 id n) else None)

abbrev pub reply_to : Refusal → List ℕ → Option Wire
reply_to refusal id = reply_by_number id (refusal_number refusal)
