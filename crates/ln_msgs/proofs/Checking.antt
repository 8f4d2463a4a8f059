-- How what is checked goes on after each field.
use Rattle.std.proofs.Common.{◌≡◌, ℕ, zero, suc, ◌+◌, ◌*◌, ◌<◌, ◌≤◌, Bool, true, false, cond, List, [], ◌∷◌, ◌++◌}
use Rattle.std.proofs.Common.{length, map, get_or, take, drop, Result, Ok, Err, refl, sym, ap, ◌∙◌, arith}
use Rattle.std.proofs.Common.{nat_lt, drop-drop}
use Rattle.std.proofs.lemmas.Bool.{ltb-false, ltb-true, le-ltb, lt-ltb, ltb_from_iff}
use Rattle.std.proofs.lemmas.List.{take-append-drop, take_more, length-drop, map-append}
use Rattle.std.proofs.Math.Seq.{drop-cons}
use Rattle.ln_bytes.specs.Reading.{◌>>=◌}
use Rattle.ln_bytes.specs.Tlv.{stream_at, have_lengths}
use Rattle.ln_bytes.specs.declared.fault.Fault.{Fault}
use Rattle.ln_bytes.specs.declared.fault.Fault.TheVariants.{FieldLength}
use Rattle.ln_bytes.specs.declared.record.Record.{Record}
use Rattle.ln_msgs.specs.Codec.Field.{Kind, Number, Fixed, Sized, Listed, Value, Many, number_at, items_at, list_at}
use Rattle.ln_msgs.specs.Codec.Field.{field_at, fields_at}
use Rattle.ln_msgs.specs.Codec.Checking.{behind, behind_field, behind_fields, checked, checked_records_at}
use Rattle.ln_msgs.specs.Messages.Table.{Form, kinds_of}
use Rattle.ln_msgs.specs.Messages.Forms.{kind_of, fixed_size, behind_fixed, IsRow}
use Rattle.ln_msgs.specs.declared.messages.form.Form as rows
use Rattle.ln_msgs.specs.Messages.Message.{Known, formed_at}

-- a step after two others
bind_assoc : {A B C : Type 0} (r : Result A Fault) (f : A → Result B Fault) (g : B → Result C Fault)
    → ((r >>= f) >>= g) ≡ (r >>= λ x. f x >>= g)
bind_assoc (Ok x) f g = refl
bind_assoc (Err e) f g = refl

-- a value before others, and what follows them
abbrev with_first : {A : Type 0} → A → List A × List ℕ → Result (List A × List ℕ) Fault
with_first v others = Ok (v ∷ others.0, others.1)

behind_others : {A : Type 0} (v : A) (r : Result (List A × List ℕ) Fault)
    → ((r >>= with_first v) >>= λ all. Ok all.1) ≡ (r >>= λ all. Ok all.1)
behind_others v (Ok others) = refl
behind_others v (Err e) = refl

behind_first : (ks : List Kind) (r : Result (Value × List ℕ) Fault)
    → ((r >>= λ first. fields_at ks first.1 >>= with_first first.0) >>= λ fields. Ok fields.1)
    ≡ ((r >>= λ field. Ok field.1) >>= behind_fields ks)
behind_first ks (Ok first) = behind_others first.0 (fields_at ks first.1)
behind_first ks (Err e) = refl

behind-cons : (k : Kind) (ks : List Kind) (bytes : List ℕ)
    → behind_fields (k ∷ ks) bytes ≡ (behind_field k bytes >>= behind_fields ks)
behind-cons k ks bytes = behind_first ks (field_at k bytes)

each : (r : Result (List ℕ) Fault) (f g : List ℕ → Result (List ℕ) Fault)
    → ((rest : List ℕ) → f rest ≡ g rest) → (r >>= f) ≡ (r >>= g)
each (Ok rest) f g same = same rest
each (Err e) f g same = refl

behind-append : (ks js : List Kind) (bytes : List ℕ)
    → behind_fields (ks ++ js) bytes ≡ (behind_fields ks bytes >>= behind_fields js)
behind-append [] js bytes = refl
behind-append (k ∷ ks) js bytes = behind-cons k (ks ++ js) bytes
    ∙ each (behind_field k bytes) (behind_fields (ks ++ js)) (λ rest. behind_fields ks rest >>= behind_fields js)
    (behind-append ks js)
    ∙ sym (bind_assoc (behind_field k bytes) (behind_fields ks) (behind_fields js))
    ∙ ap (λ (r : Result (List ℕ) Fault). r >>= behind_fields js) (sym (behind-cons k ks bytes))

module _ {A : Type 0} (f : A → Kind) (fields : List A) (bytes : List ℕ) where
  -- so many fields, and one more
  split : (i : ℕ) (x : A) (rest : List ℕ) (more : List A) → behind_fields (map f (take i fields)) bytes ≡ Ok rest
      → behind_fields (map f (take i fields ++ x ∷ more)) bytes
      ≡ (behind_field (f x) rest >>= behind_fields (map f more))
  split i x rest more e = ap (λ ks. behind_fields ks bytes) (map-append f (take i fields) (x ∷ more))
      ∙ behind-append (map f (take i fields)) (map f (x ∷ more)) bytes
      ∙ ap (λ (r : Result (List ℕ) Fault). r >>= behind_fields (map f (x ∷ more))) e
      ∙ behind-cons (f x) (map f more) rest

  pub one_more : (i : ℕ) (d : A) (rest after : List ℕ) → i < length fields
      → behind_fields (map f (take i fields)) bytes ≡ Ok rest → behind_field (f (get_or fields i d)) rest ≡ Ok after
      → behind_fields (map f (take (i + 1) fields)) bytes ≡ Ok after
  one_more i d rest after below e next =
      ap (λ xs. behind_fields (map f xs) bytes) (take_more fields i d below)
      ∙ split i (get_or fields i d) rest [] e ∙ ap (λ (r : Result (List ℕ) Fault). r >>= behind_fields []) next

  pub one_fails : (i : ℕ) (d : A) (rest : List ℕ) (fault : Fault) → i < length fields
      → behind_fields (map f (take i fields)) bytes ≡ Ok rest → behind_field (f (get_or fields i d)) rest ≡ Err fault
      → behind_fields (map f fields) bytes ≡ Err fault
  one_fails i d rest fault below e next =
      let more = drop (suc i) fields in
      let whole : fields ≡ take i fields ++ (get_or fields i d ∷ more) = sym (take-append-drop i fields)
      ∙ ap (λ l. take i fields ++ l) (drop-cons fields i d below) in
      ap (λ xs. behind_fields (map f xs) bytes) whole ∙ split i (get_or fields i d) rest more e
      ∙ ap (λ (r : Result (List ℕ) Fault). r >>= behind_fields (map f more)) next

-- ---- signatures are passed at once

-- so many bytes, and so many more
behind-add : (m n : ℕ) (bytes : List ℕ) → m ≤ length bytes → behind n (drop m bytes) ≡ behind (m + n) bytes
behind-add m n bytes long =
    let same : nat_lt (length (drop m bytes)) n ≡ nat_lt (length bytes) (m + n) =
    ltb_from_iff (
      λ e. omega (arith, length-drop m bytes, ltb-true (length (drop m bytes)) n e),
      λ l. lt-ltb _ _ (omega (arith, length-drop m bytes)),
    ) in
    let far : drop n (drop m bytes) ≡ drop (m + n) bytes =
    drop-drop n m bytes ∙ ap (λ k. drop k bytes) (omega arith) in
    rw (same, far) refl

items_one : (count : ℕ) (bytes : List ℕ) (b : Bool) → nat_lt (length bytes) 64 ≡ b
    → (items_at 64 count (drop 64 bytes) >>= λ items. Ok items.1) ≡ behind (64 * count) (drop 64 bytes)
    → (items_at 64 (suc count) bytes >>= λ items. Ok items.1) ≡ behind (64 * suc count) bytes
unfolding items_at
items_one count bytes true short others =
    let shorter : nat_lt (length bytes) (64 * suc count) ≡ true =
    lt-ltb _ _ (omega (arith, ltb-true (length bytes) 64 short)) in
    rw (short, shorter) refl
items_one count bytes false long others =
    rw long (behind_others (take 64 bytes) (items_at 64 count (drop 64 bytes))) ∙ others
    ∙ behind-add 64 (64 * count) bytes (ltb-false (length bytes) 64 long)
    ∙ ap (λ n. behind n bytes) (omega arith)

items_behind : (count : ℕ) (bytes : List ℕ)
    → (items_at 64 count bytes >>= λ items. Ok items.1) ≡ behind (64 * count) bytes
unfolding items_at
items_behind zero bytes =
    let enough : nat_lt (length bytes) (64 * 0) ≡ false = le-ltb _ _ (omega arith) in
    rw enough refl
items_behind (suc count) bytes =
    items_one count bytes (nat_lt (length bytes) 64) refl (items_behind count (drop 64 bytes))

abbrev as_list : List (List ℕ) × List ℕ → Result (Value × List ℕ) Fault
as_list items = Ok (Many items.0, items.1)

behind_list : (r : Result (List (List ℕ) × List ℕ) Fault)
    → ((r >>= as_list) >>= λ field. Ok field.1) ≡ (r >>= λ items. Ok items.1)
behind_list (Ok items) = refl
behind_list (Err e) = refl

pub list_behind : (count : ℕ) (rest bytes : List ℕ) → number_at 2 bytes ≡ Ok (count, rest)
    → behind_field (Listed 64) bytes ≡ behind (64 * count) rest
unfolding list_at
list_behind count rest bytes e = rw e (behind_list (items_at 64 count rest)) ∙ items_behind count rest

-- ---- fields of one size are passed at once

behind-none : (bytes : List ℕ) → behind 0 bytes ≡ Ok bytes
behind-none bytes = let enough : nat_lt (length bytes) 0 ≡ false = le-ltb _ _ (omega arith) in rw enough refl

behind-then : (m n : ℕ) (bytes : List ℕ) (b : Bool) → nat_lt (length bytes) m ≡ b
    → (behind m bytes >>= behind n) ≡ behind (m + n) bytes
behind-then m n bytes true short =
    let shorter : nat_lt (length bytes) (m + n) ≡ true =
    lt-ltb _ _ (omega (arith, ltb-true (length bytes) m short)) in
    rw (short, shorter) refl
behind-then m n bytes false long = rw long (behind-add m n bytes (ltb-false (length bytes) m long))

number_behind : (size : ℕ) (bytes : List ℕ) (b : Bool) → nat_lt (length bytes) size ≡ b
    → behind_field (Number size) bytes ≡ behind size bytes
number_behind size bytes true short = rw short refl
number_behind size bytes false long = rw long refl

bytes_behind : (size : ℕ) (bytes : List ℕ) (b : Bool) → nat_lt (length bytes) size ≡ b
    → behind_field (Fixed size) bytes ≡ behind size bytes
bytes_behind size bytes true short = rw short refl
bytes_behind size bytes false long = rw long refl

-- a field of one size, and those after it
one_size : (k : Kind) (size n : ℕ) (ks js : List Kind) (bytes : List ℕ) → behind_field k bytes ≡ behind size bytes
    → ((rest : List ℕ) → behind_fields ks rest ≡ (behind n rest >>= behind_fields js))
    → behind_fields (k ∷ ks) bytes ≡ (behind (size + n) bytes >>= behind_fields js)
one_size k size n ks js bytes is others = behind-cons k ks bytes
    ∙ ap (λ (r : Result (List ℕ) Fault). r >>= behind_fields ks) is
    ∙ each (behind size bytes) (behind_fields ks) (λ rest. behind n rest >>= behind_fields js) others
    ∙ sym (bind_assoc (behind size bytes) (behind n) (behind_fields js))
    ∙ ap (λ (r : Result (List ℕ) Fault). r >>= behind_fields js) (behind-then size n bytes _ refl)

no_size : (ks : List Kind) (bytes : List ℕ) → behind_fields ks bytes ≡ (behind 0 bytes >>= behind_fields ks)
no_size ks bytes = ap (λ (r : Result (List ℕ) Fault). r >>= behind_fields ks) (sym (behind-none bytes))

behind-fixed : (ks : List Kind) (bytes : List ℕ)
    → behind_fields ks bytes ≡ (behind (fixed_size ks) bytes >>= behind_fields (behind_fixed ks))
behind-fixed [] bytes = no_size [] bytes
behind-fixed (Number size ∷ ks) bytes = one_size (Number size) size (fixed_size ks) ks (behind_fixed ks) bytes
    (number_behind size bytes _ refl) (behind-fixed ks)
behind-fixed (Fixed size ∷ ks) bytes = one_size (Fixed size) size (fixed_size ks) ks (behind_fixed ks) bytes
    (bytes_behind size bytes _ refl) (behind-fixed ks)
behind-fixed (Sized ∷ ks) bytes = no_size (Sized ∷ ks) bytes
behind-fixed (Listed size ∷ ks) bytes = no_size (Listed size ∷ ks) bytes

-- what is checked of a type: its fields, and then its records
records_checked : (form : Form) (typ : ℕ) (values : List Value) (r : Result (List Record) Fault)
    → checked (r >>= λ records. cond (have_lengths form.lengths records)
    (Ok (Known (record { typ = typ; values = values; records = records }))) (Err FieldLength))
    ≡ (r >>= λ records. cond (have_lengths form.lengths records) (Ok tt) (Err FieldLength))
records_checked form typ values (Err e) = refl
records_checked form typ values (Ok records) = either (have_lengths form.lengths records)
  where
    either : (b : Bool) → checked (cond b (Ok (Known (record { typ = typ; values = values; records = records })))
        (Err FieldLength)) ≡ cond b (Ok tt) (Err FieldLength)
    either true = refl
    either false = refl

fields_checked : (form : Form) (typ : ℕ) (r : Result (List Value × List ℕ) Fault)
    → checked (r >>= λ values. stream_at form.known_even values.1 >>= λ records.
    cond (have_lengths form.lengths records)
    (Ok (Known (record { typ = typ; values = values.0; records = records }))) (Err FieldLength))
    ≡ ((r >>= λ values. Ok values.1) >>= checked_records_at form.known_even form.lengths)
fields_checked form typ (Err e) = refl
fields_checked form typ (Ok values) = records_checked form typ values.0 (stream_at form.known_even values.1)

formed_checked : (form : Form) (typ : ℕ) (bytes : List ℕ) → checked (formed_at form typ bytes)
    ≡ (behind_fields (kinds_of form) bytes >>= checked_records_at form.known_even form.lengths)
unfolding formed_at
formed_checked form typ bytes = fields_checked form typ (fields_at (kinds_of form) bytes)

-- the same by the program's row
pub form_checked : (row : Form) (form : rows.Form) (typ : ℕ) (bytes : List ℕ) → IsRow row form
    → checked (formed_at row typ bytes) ≡ ((behind form.fixed bytes >>= behind_fields (map kind_of form.others.now))
    >>= checked_records_at form.known_even.now form.lengths.now)
form_checked row form typ bytes is = rw (is.fixed, is.others, is.known_even, is.lengths) (formed_checked row typ bytes
    ∙ ap (λ (r : Result (List ℕ) Fault). r >>= checked_records_at row.known_even row.lengths)
    (behind-fixed (kinds_of row) bytes))
