-- What a text in hexadecimal is printed as, from what reading its bytes gave.
use Rattle.std.proofs.Common.{◌≡◌, ◌≢◌, ◌⊎◌, ℕ, List, Result, Ok, Err, sym, ap, ◌∙◌, inl, inr, refl}
use Rattle.hex.specs.Hex.{decode_of}
use Rattle.hex.specs.declared.error.FromHexError.{FromHexError}
use Rattle.ln_bytes.specs.declared.fault.Fault.{Fault}
use Rattle.ln_bytes.specs.declared.fault.Fault.TheVariants as faults
use Rattle.ln_refusals.specs.declared.refusal.Refusal.{Refusal}
use Rattle.ln_refusals.specs.declared.refusal.Refusal.TheVariants.{Memory}
use Rattle.ln_msgs.specs.Messages.Message.{Heard, message_at}
use Rattle.ln_refusals.specs.Refusal.{refusal_of}
use Rattle.ln_script.specs.declared.program.program_error.ProgramError.{ProgramError}
use Rattle.ln_script.specs.declared.program.program_error.ProgramError.TheVariants.{NotHex, Refused}
use Rattle.ln_text.specs.MessageText.{heard_text}
use Rattle.ln_script.specs.Text.{read_text, spelled_text, decoded}

pub is_memory : (f : Fault) → (f ≢ faults.Memory) ⊎ (f ≡ faults.Memory)
is_memory faults.Memory = inr refl
is_memory faults.Truncated = inl (λ e. absurd cc)
is_memory faults.NotMinimal = inl (λ e. absurd cc)
is_memory faults.TlvOrder = inl (λ e. absurd cc)
is_memory faults.TlvUnknownEven = inl (λ e. absurd cc)
is_memory faults.TlvLength = inl (λ e. absurd cc)
is_memory faults.UnknownEvenType = inl (λ e. absurd cc)
is_memory faults.TooLong = inl (λ e. absurd cc)
is_memory faults.FieldLength = inl (λ e. absurd cc)
is_memory faults.UnknownFeature = inl (λ e. absurd cc)
is_memory faults.Io = inl (λ e. absurd cc)

pub not_hex : (text : List ℕ) (e : FromHexError) → decode_of text ≡ Err e → decoded text ≡ Err NotHex
not_hex text e is = ap spelled_text is

pub is_shown : (text bytes : List ℕ) (h : Heard) → decode_of text ≡ Ok bytes → message_at bytes ≡ Ok h
    → decoded text ≡ Ok (heard_text h)
is_shown text bytes h spelled is = ap spelled_text spelled ∙ ap read_text is

refused_by : (text bytes : List ℕ) (f : Fault) → decode_of text ≡ Ok bytes → message_at bytes ≡ Err f
    → decoded text ≡ Err (Refused (refusal_of f))
refused_by text bytes f spelled is = ap spelled_text spelled ∙ ap read_text is

-- the refusal is that of the first fault, unless memory ran out
pub is_refused : (text bytes : List ℕ) (f : Fault) (r : Refusal) → decode_of text ≡ Ok bytes
    → (f ≢ faults.Memory → message_at bytes ≡ Err f) → r ≡ refusal_of f
    → (Refused r ≡ Refused Memory) ⊎ (decoded text ≡ Err (Refused r))
is_refused text bytes f r spelled gives is =
    elim (is_memory f) [
      | inl ours ↦ inr (refused_by text bytes f spelled (gives ours)
          ∙ ap (λ (x : Refusal). let it : Result (List ℕ) ProgramError = Err (Refused x) in it) (sym is))
      | inr memory ↦ inl (ap Refused (is ∙ ap refusal_of memory))
    ]
