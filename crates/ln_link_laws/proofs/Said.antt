-- Messages that can be written and read again: how long they are, and what their bytes tell of their fields.
use Rattle.std.proofs.Common.{◌≡◌, ℕ, zero, suc, ◌+◌, ◌*◌, ◌<◌, ◌≤◌, ◌^◌, List, [], ◌∷◌, ◌++◌, length}
use Rattle.std.proofs.Common.{refl}
use Rattle.std.proofs.Common.{sym, ap, ◌∙◌, subst, arith, Bool, true, false, cond, Option, Some, None, IsTrue, ◌==◌}
use Rattle.std.specs.List.{AllByRecursion, concat}
use Rattle.std.proofs.lemmas.List.{length-append}
use Rattle.std.proofs.lemmas.Bool.{eqb-true}
use Rattle.ln_bytes.specs.Endian.{big_bytes}
use Rattle.ln_bytes.specs.declared.record.Record.{Record}
use Rattle.ln_bytes.specs.Tlv.{record_bytes, stream_bytes, value_of, AreValid, AreFit, have_lengths}
use Rattle.ln_msgs.specs.Codec.Field.{Kind, Number, Fixed, Sized, Listed, Value, Num, Str, Many, IsOf, AreOf}
use Rattle.ln_msgs.specs.Codec.Field.{value_bytes, fields_bytes}
use Rattle.ln_msgs.specs.Messages.Table.{Form, kinds_of, form_of}
use Rattle.ln_msgs.specs.Messages.Message.{Wire, IsFormed, formed_bytes, wire_bytes}
use Rattle.ln_link.specs.Loading.{IsSaid}

-- ---- how long fields are

abbrev pub size_in : Kind → Value → ℕ
size_in (Number size) v = size
size_in (Fixed size) v = size
size_in Sized (Num n) = 0
size_in Sized (Str bytes) = 2 + length bytes
size_in Sized (Many items) = 0
size_in (Listed size) (Num n) = 0
size_in (Listed size) (Str bytes) = 0
size_in (Listed size) (Many items) = 2 + size * length items

abbrev pub sizes_in : List Kind → List Value → ℕ
sizes_in [] vs = 0
sizes_in (k ∷ ks) [] = 0
sizes_in (k ∷ ks) (v ∷ vs) = size_in k v + sizes_in ks vs

pub length-number : (size n : ℕ) → length (big_bytes size n) ≡ size
length-number zero n = refl
length-number (suc size) n = ap suc (length-number size n)

length-items : (size : ℕ) (items : List (List ℕ)) → AllByRecursion (λ item. length item ≡ size) items
    → length (concat items) ≡ size * length items
length-items size [] h = omega arith
length-items size (i ∷ is) h =
    let rest = length-items size is h.1 in
    let first = h.0 in
    omega (arith, length-append i (concat is), rest, first)

length-value : (k : Kind) (v : Value) → IsOf k v → length (value_bytes k v) ≡ size_in k v
length-value (Number size) (Num n) is = length-number size n
length-value (Number size) (Str bytes) is = absurd is
length-value (Number size) (Many items) is = absurd is
length-value (Fixed size) (Num n) is = absurd is
length-value (Fixed size) (Str bytes) is = is
length-value (Fixed size) (Many items) is = absurd is
length-value Sized (Num n) is = absurd is
length-value Sized (Str bytes) is =
    omega (arith, length-append (big_bytes 2 (length bytes)) bytes, length-number 2 (length bytes))
length-value Sized (Many items) is = absurd is
length-value (Listed size) (Num n) is = absurd is
length-value (Listed size) (Str bytes) is = absurd is
length-value (Listed size) (Many items) is =
    let all = length-items size items is.1 in
    omega (arith, length-append (big_bytes 2 (length items)) (concat items), length-number 2 (length items), all)

length-fields : (ks : List Kind) (vs : List Value) → AreOf ks vs → length (fields_bytes ks vs) ≡ sizes_in ks vs
length-fields [] [] are = refl
length-fields [] (v ∷ vs) are = absurd are
length-fields (k ∷ ks) [] are = absurd are
length-fields (k ∷ ks) (v ∷ vs) are =
    let first = length-value k v are.0 in
    let others = length-fields ks vs are.1 in
    omega (arith, length-append (value_bytes k v) (fields_bytes ks vs), first, others)

pub length-formed : (form : Form) (w : Wire) → AreOf (kinds_of form) w.values
    → length (formed_bytes (Some form) w) ≡ 2 + sizes_in (kinds_of form) w.values + length (stream_bytes w.records)
length-formed form w are =
    let typ = big_bytes 2 w.typ in
    let fields = fields_bytes (kinds_of form) w.values in
    let rest = stream_bytes w.records in
    let all = length-append (typ ++ fields) rest in
    let front = length-append typ fields in
    let two = length-number 2 w.typ in
    let size = length-fields (kinds_of form) w.values are in
    omega (arith, all, front, two, size)

-- ---- messages that are said

module _ (form : Form) (w : Wire) (known : form_of w.typ ≡ Some form) where
  said_formed : IsFormed form w → length (formed_bytes (Some form) w) ≤ 65535 → IsSaid w
  unfolding IsSaid
  said_formed formed short =
      let is : wire_bytes w ≡ formed_bytes (Some form) w = ap (λ f. formed_bytes f w) known in
      (subst (λ bytes. length bytes ≤ 65535) (sym is) short, (form, known, formed, is))

  pub said : IsFormed form w → 2 + sizes_in (kinds_of form) w.values + length (stream_bytes w.records) ≤ 65535
      → IsSaid w
  said formed few =
      let size = length-formed form w formed.values in
      said_formed formed (omega (arith, size, few))

-- without records
pub said_plain : (form : Form) (w : Wire) → form_of w.typ ≡ Some form → w.typ < 65536 → AreOf (kinds_of form) w.values
    → w.records ≡ [] → IsTrue (have_lengths form.lengths []) → 2 + sizes_in (kinds_of form) w.values ≤ 65535 → IsSaid w
said_plain form w known typ values none lengths few =
    let size : length (stream_bytes w.records) ≡ 0 = ap (λ rs. length (stream_bytes rs)) none in
    said form w known (record {
      typ = typ;
      values = values;
      valid = subst (AreValid form.known_even None) (sym none) tt;
      fit = subst AreFit (sym none) tt;
      lengths = subst (λ rs. IsTrue (have_lengths form.lengths rs)) (sym none) lengths;
    }) (omega (arith, few, size))

-- ---- what a message that is said has

pub record Says (form : Form) (w : Wire) : Type 0 where
  pub formed : IsFormed form w
  pub few : 2 + sizes_in (kinds_of form) w.values + length (stream_bytes w.records) ≤ 65535

same_form : (f g : Form) → Some f ≡ Some g → f ≡ g
same_form f g e = cc

pub what : (form : Form) (w : Wire) → form_of w.typ ≡ Some form → IsSaid w → Says form w
unfolding IsSaid
what form w known h =
    let other = h.1.0 in
    let same : other ≡ form = same_form other form (sym h.1.1 ∙ known) in
    let formed : IsFormed form w = subst (λ f. IsFormed f w) same h.1.2 in
    let bytes : wire_bytes w ≡ formed_bytes (Some form) w = ap (λ f. formed_bytes f w) known in
    let size = length-formed form w formed.values in
    let short : length (formed_bytes (Some form) w) ≤ 65535 = subst (λ b. length b ≤ 65535) bytes h.0 in
    record { formed = formed; few = omega (arith, size, short) }

-- ---- records

-- one of two is no longer than both
front_short : (a b : List ℕ) → length a ≤ length (a ++ b)
front_short a b = omega (arith, length-append a b)

abbrev pub has_no_more : Option (List ℕ) → ℕ → ℕ → Type 0
has_no_more None typ most = Unit {0}
has_no_more (Some v) typ most = length (record_bytes (record { typ = typ; value = v })) ≤ most

-- a record is no longer than the stream in which it stands
found_by : (b : Bool) (typ : ℕ) (r : Record) (rest : Option (List ℕ)) (most : ℕ) → (r.typ == typ) ≡ b
    → length (record_bytes r) ≤ most → has_no_more rest typ most
    → has_no_more (cond b (Some r.value) rest) typ most
found_by true typ r rest most e le h =
    subst (λ t. length (record_bytes (record { typ = t; value = r.value })) ≤ most) (eqb-true r.typ typ e) le
found_by false typ r rest most e le h = h

pub longer : (o : Option (List ℕ)) (typ m n : ℕ) → m ≤ n → has_no_more o typ m → has_no_more o typ n
longer None typ m n le h = tt
longer (Some v) typ m n le h = omega (arith, le, h)

pub found_short : (typ : ℕ) (rs : List Record) → has_no_more (value_of typ rs) typ (length (stream_bytes rs))
found_short typ [] = tt
found_short typ (r ∷ rs) =
    let all = length-append (record_bytes r) (stream_bytes rs) in
    found_by (r.typ == typ) typ r (value_of typ rs) (length (stream_bytes (r ∷ rs))) refl (omega (arith, all))
    (longer (value_of typ rs) typ (length (stream_bytes rs)) (length (stream_bytes (r ∷ rs))) (omega (arith, all))
    (found_short typ rs))

abbrev pub WhereShort : Option (List ℕ) → Type 0
WhereShort None = Unit {0}
WhereShort (Some v) = length v < 2 ^ 64

-- and is short enough
short_by : (b : Bool) (v : List ℕ) (rest : Option (List ℕ)) → length v < 2 ^ 64 → WhereShort rest
    → WhereShort (cond b (Some v) rest)
short_by true v rest le h = le
short_by false v rest le h = h

pub value_short : (typ : ℕ) (rs : List Record) → AreFit rs → WhereShort (value_of typ rs)
value_short typ [] h = tt
value_short typ (r ∷ rs) h = short_by (r.typ == typ) r.value (value_of typ rs) h.0.len (value_short typ rs h.1)
