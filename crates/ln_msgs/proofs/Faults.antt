-- Which faults the bytes of a message can have: 1 to 8, and so neither want of memory nor a failed call.
use Rattle.std.proofs.Common.{◌≡◌, ◌≢◌, ℕ, zero, suc, ◌<◌, ◌≤◌, List, [], ◌∷◌, length, Option, Some, None}
use Rattle.std.proofs.Common.{Result, Ok, Err, Bool, true, false, cond, refl, ap, subst, arith}
use Rattle.ln_bytes.specs.Fault.{fault_number}
use Rattle.ln_bytes.specs.Bigsize.{bigsize_at, long_at}
use Rattle.ln_bytes.specs.Reading.{◌>>=◌}
use Rattle.ln_bytes.specs.Tlv.{value_at, record_at, records_at, stream_at}
use Rattle.ln_bytes.specs.declared.fault.Fault.{Fault}
use Rattle.ln_bytes.specs.declared.fault.Fault.TheVariants.{Truncated, NotMinimal, TlvOrder, TlvUnknownEven, TlvLength}
use Rattle.ln_bytes.specs.declared.fault.Fault.TheVariants.{UnknownEvenType, TooLong, FieldLength, Memory, Io}
use Rattle.ln_msgs.specs.Frames.Frame.{IsFaulty}
use Rattle.ln_msgs.specs.Codec.Field.{Kind, Number, Fixed, Sized, Listed, bytes_at, number_at, string_at, items_at}
use Rattle.ln_msgs.specs.Codec.Field.{list_at, field_at, fields_at}
use Rattle.ln_msgs.specs.Messages.Table.{Form, kinds_of, form_of}
use Rattle.ln_msgs.specs.Messages.Message.{formed_at, payload_at, message_at}

-- a reading that refuses by 1 to 8 alone
pub record Tells {A : Type 0} (r : Result A Fault) : Type 0 where
  pub refused : (f : Fault) → r ≡ Err f → fault_number f ≤ 8

given : {A : Type 0} (x : A) → Tells (Ok x)
given x = record { refused = λ f e. absurd cc }

refuses : {A : Type 0} (g : Fault) → fault_number g ≤ 8 → Tells {A = A} (Err g)
refuses g h = record { refused = λ f e. let same : g ≡ f = cc in subst (λ k. fault_number k ≤ 8) same h }

either : {A : Type 0} (b : Bool) (r s : Result A Fault) → Tells r → Tells s → Tells (cond b r s)
either true r s p q = p
either false r s p q = q

steps : {A B : Type 0} (r : Result A Fault) (f : A → Result B Fault) → Tells r
    → ((x : A) → Tells (f x)) → Tells (r >>= f)
steps (Ok x) f p q = q x
steps (Err g) f p q = refuses g (p.refused g refl)

long_tells : (k least : ℕ) (rest : List ℕ) → Tells (long_at k least rest)
long_tells k least rest = either _ _ _ (refuses Truncated (omega arith))
    (either _ _ _ (refuses NotMinimal (omega arith)) (given _))

bigsize_tells : (bytes : List ℕ) → Tells (bigsize_at bytes)
bigsize_tells [] = refuses Truncated (omega arith)
bigsize_tells (b ∷ rest) = either _ _ _ (given _)
    (either _ _ _ (long_tells 2 253 rest) (either _ _ _ (long_tells 4 65536 rest) (long_tells 8 4294967296 rest)))

value_tells : (known_even : List ℕ) (typ : ℕ) (bytes : List ℕ) → Tells (value_at known_even typ bytes)
unfolding value_at
value_tells known_even typ bytes = steps _ _ (bigsize_tells bytes)
    (λ len. either _ _ _ (refuses TlvLength (omega arith))
    (either _ _ _ (given _) (refuses TlvUnknownEven (omega arith))))

record_tells : (known_even : List ℕ) (before : Option ℕ) (bytes : List ℕ) → Tells (record_at known_even before bytes)
unfolding record_at
record_tells known_even before bytes = steps _ _ (bigsize_tells bytes)
    (λ typ. either _ _ _ (refuses TlvOrder (omega arith)) (value_tells known_even typ.0 _))

records_tell : (turns : ℕ) (known_even : List ℕ) (before : Option ℕ) (bytes : List ℕ)
    → Tells (records_at turns known_even before bytes)
unfolding records_at
records_tell turns known_even before [] = given _
records_tell zero known_even before (b ∷ bytes) = refuses Truncated (omega arith)
records_tell (suc turns) known_even before (b ∷ bytes) =
    steps _ _ (record_tells known_even before (b ∷ bytes))
    (λ first. steps _ _ (records_tell turns known_even (Some first.0.typ) first.1) (λ others. given _))

stream_tells : (known_even bytes : List ℕ) → Tells (stream_at known_even bytes)
unfolding stream_at
stream_tells known_even bytes = records_tell (length bytes) known_even None bytes

number_tells : (size : ℕ) (bytes : List ℕ) → Tells (number_at size bytes)
number_tells size bytes = either _ _ _ (refuses Truncated (omega arith)) (given _)

bytes_tell : (size : ℕ) (bytes : List ℕ) → Tells (bytes_at size bytes)
bytes_tell size bytes = either _ _ _ (refuses Truncated (omega arith)) (given _)

string_tells : (bytes : List ℕ) → Tells (string_at bytes)
unfolding string_at
string_tells bytes = steps _ _ (number_tells 2 bytes) (λ len. bytes_tell len.0 len.1)

items_tell : (size count : ℕ) (bytes : List ℕ) → Tells (items_at size count bytes)
unfolding items_at
items_tell size zero bytes = given _
items_tell size (suc count) bytes = steps _ _ (bytes_tell size bytes)
    (λ first. steps _ _ (items_tell size count first.1) (λ others. given _))

list_tells : (size : ℕ) (bytes : List ℕ) → Tells (list_at size bytes)
unfolding list_at
list_tells size bytes = steps _ _ (number_tells 2 bytes) (λ count. items_tell size count.0 count.1)

field_tells : (k : Kind) (bytes : List ℕ) → Tells (field_at k bytes)
field_tells (Number size) bytes = steps _ _ (number_tells size bytes) (λ n. given _)
field_tells (Fixed size) bytes = steps _ _ (bytes_tell size bytes) (λ s. given _)
field_tells Sized bytes = steps _ _ (string_tells bytes) (λ s. given _)
field_tells (Listed size) bytes = steps _ _ (list_tells size bytes) (λ l. given _)

fields_tell : (ks : List Kind) (bytes : List ℕ) → Tells (fields_at ks bytes)
fields_tell [] bytes = given _
fields_tell (k ∷ ks) bytes = steps _ _ (field_tells k bytes)
    (λ first. steps _ _ (fields_tell ks first.1) (λ others. given _))

formed_tells : (form : Form) (typ : ℕ) (bytes : List ℕ) → Tells (formed_at form typ bytes)
unfolding formed_at
formed_tells form typ bytes = steps _ _ (fields_tell (kinds_of form) bytes)
    (λ values. steps _ _ (stream_tells form.known_even values.1)
    (λ records. either _ _ _ (given _) (refuses FieldLength (omega arith))))

payload_tells : (form : Option Form) (typ : ℕ) (bytes : List ℕ) → Tells (payload_at form typ bytes)
payload_tells (Some form) typ bytes = formed_tells form typ bytes
payload_tells None typ bytes = either _ _ _ (given _) (refuses UnknownEvenType (omega arith))

pub message_tells : (bytes : List ℕ) → Tells (message_at bytes)
unfolding message_at
message_tells bytes = either _ _ _ (refuses TooLong (omega arith))
    (steps _ _ (number_tells 2 bytes) (λ typ. payload_tells (form_of typ.0) typ.0 typ.1))

-- what is wrong with a message is neither a failed call nor want of memory
is_other : (bytes : List ℕ) (f g : Fault) → 8 < fault_number g → message_at bytes ≡ Err f → f ≢ g
is_other bytes f g high e same = absurd (omega (arith, (message_tells bytes).refused f e, ap fault_number same))

pub not_io : (bytes : List ℕ) (f : Fault) → IsFaulty bytes f → f ≢ Io
not_io bytes f is = is_other is.message f Io (omega arith) is.fault

pub not_memory : (bytes : List ℕ) (f : Fault) → IsFaulty bytes f → f ≢ Memory
not_memory bytes f is = is_other is.message f Memory (omega arith) is.fault
