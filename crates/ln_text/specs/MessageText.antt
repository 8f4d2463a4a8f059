-- The text of a message: a line for its type, one for each field in order, and one for each record.
use Rattle.std.specs.Prelude.{ℕ, List, [], ◌∷◌, ◌++◌, length, codes, Option, Some, None}
use Rattle.std.specs.List.{flat_map}
use Rattle.std.specs.Fmt.{decimal}
use Rattle.hex.specs.Hex.{encode_lower}
use Rattle.ln_bytes.specs.declared.record.Record.{Record}
use Rattle.ln_msgs.specs.Codec.Field.{Value, Num, Str, Many}
use Rattle.ln_msgs.specs.Messages.Table.{Form, form_of, names_of, name_of}
use Rattle.ln_msgs.specs.Messages.Message.{Wire, Heard, Known, Ignored}

-- a name, a space, a value, a line feed
abbrev pub line : List ℕ → List ℕ → List ℕ
line name value = name ++ (codes " " ++ (value ++ codes "\n"))

-- bytes in lower-case hexadecimal, a dash for none
abbrev pub bytes_text : List ℕ → List ℕ
bytes_text [] = codes "-"
bytes_text (b ∷ bs) = encode_lower (b ∷ bs)

unfoldable pub signature_line : List ℕ → List ℕ
signature_line signature = line (codes "htlc_signature") (bytes_text signature)

-- a number in decimal digits; of signatures their count and a line each
abbrev pub field_text : List ℕ → Value → List ℕ
field_text name (Num n) = line name (decimal n)
field_text name (Str bytes) = line name (bytes_text bytes)
field_text name (Many signatures) =
    line (codes "count") (decimal (length signatures)) ++ flat_map signature_line signatures

-- each value by its name
abbrev pub fields_text : List (List ℕ) → List Value → List ℕ
fields_text (name ∷ names) (value ∷ values) = field_text name value ++ fields_text names values
fields_text _ _ = []

abbrev pub record_text : Record → List ℕ
record_text r = line (codes "tlv " ++ decimal r.typ) (bytes_text r.value)

abbrev pub names_by : Option Form → List (List ℕ)
names_by None = []
names_by (Some form) = names_of form

-- type T NAME
unfoldable pub type_line : ℕ → List ℕ
type_line typ = codes "type " ++ (decimal typ ++ (codes " " ++ (name_of typ ++ codes "\n")))

-- the type's line, the fields by the names of the type's row, the records
unfoldable pub known_text : Wire → List ℕ
known_text w = type_line w.typ ++ fields_text (names_by (form_of w.typ)) w.values ++ flat_map record_text w.records

abbrev pub heard_text : Heard → List ℕ
heard_text (Known w) = known_text w
heard_text (Ignored typ) = codes "type " ++ (decimal typ ++ codes " ignored\n")
