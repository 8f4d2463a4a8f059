-- The two directions of the grammar of messages: what is read is spelled so, and what is spelled so is read.
use Rattle.std.proofs.Common.{◌≡◌, ℕ, zero, suc, ◌^◌, ◌<◌, ◌≤◌, Bool, true, false, cond, List, [], ◌∷◌, ◌++◌, length}
use Rattle.std.proofs.Common.{take, drop, Option, Some, None, Result, Ok, Err, nat_lt, refl, sym, ap, subst, ◌∙◌}
use Rattle.std.proofs.Common.{append_assoc, arith}
use Rattle.std.proofs.lemmas.Bool.{ltb-false, le-ltb}
use Rattle.std.proofs.lemmas.List.{take_at, drop_at, take-append-drop, length-append, length-take}
use Rattle.byteorder.specs.Endian.{big_bytes, big_number}
use Rattle.byteorder.specs.Numbers.{big_from-lt, big_number-reads_back, length-bytes_high_first}
use Rattle.std.specs.Prelude.{IfOk}
use Rattle.ln_bytes.specs.Reading.{◌>>=◌, Gives}
use Rattle.ln_msgs.specs.declared.messages.message.Incoming.{Incoming}
use Rattle.ln_msgs.specs.Messages.Typed.{heard}
use Rattle.ln_bytes.specs.Tlv.{record_bytes, stream_bytes, AreValid, AreFit, Spells, record_at, records_at, stream_at}
use Rattle.ln_bytes.specs.Tlv.{have_lengths}
use Rattle.ln_bytes.specs.declared.fault.Fault.{Fault}
use Rattle.ln_bytes.specs.declared.fault.Fault.TheVariants.{Truncated, FieldLength, UnknownEvenType, TooLong}
use Rattle.ln_bytes.specs.declared.record.Record.{Record}
use Rattle.ln_bytes.proofs.Reading.{IsBytes, IsBytes-drop, bind_ok, guard_ok, ok_is, Takes, Takes-then}
use Rattle.ln_bytes.proofs.Numbers.{bytes_back}
use Rattle.ln_bytes.proofs.Records.{record_takes}
use Rattle.ln_bytes.proofs.Streams.{stream_again}
use Rattle.ln_msgs.specs.Codec.Field.{Kind, Number, Fixed, Sized, Listed, Value, Num, Str, Many, IsOf, AreOf}
use Rattle.ln_msgs.specs.Codec.Field.{value_bytes, fields_bytes, bytes_at, number_at, string_at, items_at, list_at}
use Rattle.ln_msgs.specs.Codec.Field.{field_at, fields_at}
use Rattle.std.specs.List.{AllByRecursion, concat}
use Rattle.ln_msgs.specs.Messages.Table.{Form, kinds_of, form_of}
use Rattle.ln_msgs.specs.Messages.Message.{Wire, IsFormed, Heard, Known, Ignored, longest, IsSpelledBy}
use Rattle.ln_msgs.specs.Messages.Message.{Says, formed_at, payload_at, may_be_ignored, message_at}

-- ---- records

pub records_take : (turns : ℕ) (known : List ℕ) (before : Option ℕ) (bytes : List ℕ) (rs : List Record) → IsBytes bytes
    → records_at turns known before bytes ≡ Ok rs → AreValid known before rs × AreFit rs × (bytes ≡ stream_bytes rs)
unfolding records_at
records_take turns known before [] rs fits e =
    subst (λ (x : List Record). AreValid known before x × AreFit x
    × ([] ≡ stream_bytes x)) (ok_is [] rs e) (tt, tt, refl)
records_take zero known before (b ∷ bytes) rs fits e = absurd cc
records_take (suc turns) known before (b ∷ bytes) rs fits e =
    let one = bind_ok (record_at known before (b ∷ bytes))
    (λ first. records_at turns known (Some first.0.typ) first.1 >>= λ others. Ok (first.0 ∷ others)) rs e in
    let first = record_takes known before (b ∷ bytes) one.0 fits one.1 in
    let two = bind_ok (records_at turns known (Some one.0.0.typ) one.0.1) (λ others. Ok (one.0.0 ∷ others)) rs one.2 in
    let others = records_take turns known (Some one.0.0.typ) one.0.1 two.0 first.takes.rest_fits two.1 in
    subst (λ (x : List Record). AreValid known before x × AreFit x
    × (b ∷ bytes ≡ stream_bytes x)) (ok_is (one.0.0 ∷ two.0) rs two.2) (
      (first.follows, first.allowed, others.0),
      (first.fits, others.1),
      first.takes.parts
          ∙ ap (λ l. record_bytes one.0.0 ++ l) others.2,
    )

pub stream_takes : (known bytes : List ℕ) (rs : List Record) → IsBytes bytes
    → stream_at known bytes ≡ Ok rs → Spells known rs bytes
unfolding stream_at
stream_takes known bytes rs fits e =
    let r = records_take (length bytes) known None bytes rs fits e in
    record { valid = r.0; fit = r.1; bytes_are = r.2 }

-- ---- fields

number_takes : (size : ℕ) (bytes : List ℕ) (x : ℕ × List ℕ) → IsBytes bytes → number_at size bytes ≡ Ok x
    → Takes bytes (big_bytes size x.0) x.1 × (x.0 < 256 ^ size)
number_takes size bytes x fits e =
    let g = guard_ok (nat_lt (length bytes) size) Truncated (Ok (big_number size bytes, drop size bytes)) x e in
    let long : size ≤ length bytes = ltb-false (length bytes) size g.0 in
    subst (λ (y : ℕ × List ℕ). Takes bytes (big_bytes size y.0) y.1
    × (y.0 < 256 ^ size)) (ok_is (big_number size bytes, drop size bytes) x g.1) (
      record {
        parts = sym (ap (λ l. l ++ drop size bytes) (bytes_back size bytes fits long)
            ∙ take-append-drop size bytes);
        rest_fits = IsBytes-drop size bytes fits;
      },
      big_from-lt 0 size bytes fits,
    )

bytes_take : (size : ℕ) (bytes : List ℕ) (x : List ℕ × List ℕ) → IsBytes bytes → bytes_at size bytes ≡ Ok x
    → Takes bytes x.0 x.1 × (length x.0 ≡ size)
bytes_take size bytes x fits e =
    let g = guard_ok (nat_lt (length bytes) size) Truncated (Ok (take size bytes, drop size bytes)) x e in
    let long : size ≤ length bytes = ltb-false (length bytes) size g.0 in
    subst (λ (y : List ℕ × List ℕ). Takes bytes y.0 y.1
    × (length y.0 ≡ size)) (ok_is (take size bytes, drop size bytes) x g.1) (
      record { parts = sym (take-append-drop size bytes); rest_fits = IsBytes-drop size bytes fits },
      omega (arith, length-take size bytes),
    )

string_takes : (bytes : List ℕ) (x : List ℕ × List ℕ) → IsBytes bytes → string_at bytes ≡ Ok x
    → Takes bytes (big_bytes 2 (length x.0) ++ x.0) x.1 × (length x.0 < 65536)
unfolding string_at
string_takes bytes x fits e =
    let a = bind_ok (number_at 2 bytes) (λ len. bytes_at len.0 len.1) x e in
    let first = number_takes 2 bytes a.0 fits a.1 in
    let second = bytes_take a.0.0 a.0.1 x first.0.rest_fits a.2 in
    let both = Takes-then bytes (big_bytes 2 a.0.0) a.0.1 x.0 x.1 first.0 second.0 in
    (subst (λ (n : ℕ). Takes bytes (big_bytes 2 n ++ x.0) x.1) (sym second.1) both, omega (arith, second.1, first.1))

items_take : (size count : ℕ) (bytes : List ℕ) (x : List (List ℕ) × List ℕ) → IsBytes bytes
    → items_at size count bytes ≡ Ok x → Takes bytes (concat x.0) x.1 × (length x.0 ≡ count)
    × AllByRecursion (λ item. length item ≡ size) x.0
unfolding items_at
items_take size zero bytes x fits e =
    subst (λ (y : List (List ℕ) × List ℕ). Takes bytes (concat y.0) y.1 × (length y.0 ≡ 0)
    × AllByRecursion (λ item. length item ≡ size) y.0) (ok_is ([], bytes) x e)
    (record { parts = refl; rest_fits = fits }, refl, tt)
items_take size (suc count) bytes x fits e =
    let a = bind_ok (bytes_at size bytes) (λ first. items_at size count first.1 >>= λ others. Ok
    (first.0 ∷ others.0, others.1)) x e in
    let b = bind_ok (items_at size count a.0.1) (λ others. Ok (a.0.0 ∷ others.0, others.1)) x a.2 in
    let first = bytes_take size bytes a.0 fits a.1 in
    let second = items_take size count a.0.1 b.0 first.0.rest_fits b.1 in
    subst (λ (y : List (List ℕ) × List ℕ). Takes bytes (concat y.0) y.1 × (length y.0 ≡ suc count)
    × AllByRecursion (λ item. length item ≡ size) y.0) (ok_is (a.0.0 ∷ b.0.0, b.0.1) x b.2)
    (Takes-then bytes a.0.0 a.0.1 (concat b.0.0) b.0.1 first.0 second.0, ap suc second.1, (first.1, second.2))

list_takes : (size : ℕ) (bytes : List ℕ) (x : List (List ℕ) × List ℕ) → IsBytes bytes → list_at size bytes ≡ Ok x
    → Takes bytes (big_bytes 2 (length x.0) ++ concat x.0) x.1 × (length x.0 < 65536)
    × AllByRecursion (λ item. length item ≡ size) x.0
unfolding list_at
list_takes size bytes x fits e =
    let a = bind_ok (number_at 2 bytes) (λ count. items_at size count.0 count.1) x e in
    let first = number_takes 2 bytes a.0 fits a.1 in
    let second = items_take size a.0.0 a.0.1 x first.0.rest_fits a.2 in
    let both = Takes-then bytes (big_bytes 2 a.0.0) a.0.1 (concat x.0) x.1 first.0 second.0 in (
      subst (λ (n : ℕ). Takes bytes (big_bytes 2 n ++ concat x.0) x.1) (sym second.1) both,
      omega (arith, second.1, first.1),
      second.2,
    )

field_takes : (k : Kind) (bytes : List ℕ) (x : Value × List ℕ) → IsBytes bytes → field_at k bytes ≡ Ok x
    → Takes bytes (value_bytes k x.0) x.1 × IsOf k x.0
field_takes (Number size) bytes x fits e =
    let a = bind_ok (number_at size bytes) (λ n. Ok (Num n.0, n.1)) x e in
    subst (λ (y : Value × List ℕ). Takes bytes (value_bytes (Number size) y.0) y.1
    × IsOf (Number size) y.0) (ok_is (Num a.0.0, a.0.1) x a.2) (number_takes size bytes a.0 fits a.1)
field_takes (Fixed size) bytes x fits e =
    let a = bind_ok (bytes_at size bytes) (λ s. Ok (Str s.0, s.1)) x e in
    subst (λ (y : Value × List ℕ). Takes bytes (value_bytes (Fixed size) y.0) y.1
    × IsOf (Fixed size) y.0) (ok_is (Str a.0.0, a.0.1) x a.2) (bytes_take size bytes a.0 fits a.1)
field_takes Sized bytes x fits e =
    let a = bind_ok (string_at bytes) (λ s. Ok (Str s.0, s.1)) x e in
    subst (λ (y : Value × List ℕ). Takes bytes (value_bytes Sized y.0) y.1
    × IsOf Sized y.0) (ok_is (Str a.0.0, a.0.1) x a.2) (string_takes bytes a.0 fits a.1)
field_takes (Listed size) bytes x fits e =
    let a = bind_ok (list_at size bytes) (λ l. Ok (Many l.0, l.1)) x e in
    let taken = list_takes size bytes a.0 fits a.1 in
    subst (λ (y : Value × List ℕ). Takes bytes (value_bytes (Listed size) y.0) y.1
    × IsOf (Listed size) y.0) (ok_is (Many a.0.0, a.0.1) x a.2) (taken.0, (taken.1, taken.2))

fields_take : (ks : List Kind) (bytes : List ℕ) (x : List Value × List ℕ) → IsBytes bytes → fields_at ks bytes ≡ Ok x
    → Takes bytes (fields_bytes ks x.0) x.1 × AreOf ks x.0
fields_take [] bytes x fits e =
    subst (λ (y : List Value × List ℕ). Takes bytes (fields_bytes [] y.0) y.1
    × AreOf [] y.0) (ok_is ([], bytes) x e) (record { parts = refl; rest_fits = fits }, tt)
fields_take (k ∷ ks) bytes x fits e =
    let a = bind_ok (field_at k bytes) (λ first. fields_at ks first.1 >>= λ others. Ok
    (first.0 ∷ others.0, others.1)) x e in
    let b = bind_ok (fields_at ks a.0.1) (λ others. Ok (a.0.0 ∷ others.0, others.1)) x a.2 in
    let first = field_takes k bytes a.0 fits a.1 in
    let second = fields_take ks a.0.1 b.0 first.0.rest_fits b.1 in
    subst (λ (y : List Value × List ℕ). Takes bytes (fields_bytes (k ∷ ks) y.0) y.1
    × AreOf (k ∷ ks) y.0) (ok_is (a.0.0 ∷ b.0.0, b.0.1) x b.2)
    (Takes-then bytes (value_bytes k a.0.0) a.0.1 (fields_bytes ks b.0.0) b.0.1 first.0 second.0, (first.1, second.1))

-- ---- fields again

number_again : (size n : ℕ) (rest : List ℕ) → n < 256 ^ size → number_at size (big_bytes size n ++ rest) ≡ Ok (n, rest)
number_again size n rest below =
    let len = length-bytes_high_first size n in
    let long : nat_lt (length (big_bytes size n ++ rest)) size ≡ false =
    le-ltb _ _ (omega (arith, length-append (big_bytes size n) rest)) in
    rw (long, big_number-reads_back size n rest below, drop_at (big_bytes size n) rest size len) refl

bytes_again : (bytes rest : List ℕ) → bytes_at (length bytes) (bytes ++ rest) ≡ Ok (bytes, rest)
bytes_again bytes rest =
    let long : nat_lt (length (bytes ++ rest)) (length bytes) ≡ false =
    le-ltb _ _ (omega (arith, length-append bytes rest)) in
    rw (long, take_at bytes rest (length bytes) refl, drop_at bytes rest (length bytes) refl) refl

string_again : (bytes rest : List ℕ) → length bytes < 65536
    → string_at ((big_bytes 2 (length bytes) ++ bytes) ++ rest) ≡ Ok (bytes, rest)
unfolding string_at
string_again bytes rest below =
    ap (λ (l : List ℕ). number_at 2 l >>= λ len. bytes_at len.0 len.1)
    (append_assoc (big_bytes 2 (length bytes)) bytes rest)
    ∙ ap (λ (r : Result (ℕ × List ℕ) Fault). r >>= λ len. bytes_at len.0 len.1)
    (number_again 2 (length bytes) (bytes ++ rest) (omega arith)) ∙ bytes_again bytes rest

items_again : (size : ℕ) (items : List (List ℕ)) (rest : List ℕ) → AllByRecursion (λ item. length item ≡ size) items
    → items_at size (length items) (concat items ++ rest) ≡ Ok (items, rest)
unfolding items_at
items_again size [] rest is = refl
items_again size (item ∷ items) rest is =
    let whole : bytes_at size (item ++ (concat items ++ rest)) ≡ Ok (item, concat items ++ rest) =
    subst (λ (n : ℕ). bytes_at n (item ++ (concat items ++ rest)) ≡ Ok (item, concat items ++ rest)) is.0
    (bytes_again item (concat items ++ rest)) in
    ap (items_at size (suc (length items))) (append_assoc item (concat items) rest)
    ∙ ap (λ (r : Result (List ℕ × List ℕ) Fault). r >>= λ first. items_at size (length items) first.1 >>= λ others. Ok
    (first.0 ∷ others.0, others.1)) whole
    ∙ ap (λ (r : Result (List (List ℕ) × List ℕ) Fault). r >>= λ others. Ok (item ∷ others.0, others.1))
    (items_again size items rest is.1)

list_again : (size : ℕ) (items : List (List ℕ)) (rest : List ℕ) → length items < 65536
    → AllByRecursion (λ item. length item ≡ size) items
    → list_at size ((big_bytes 2 (length items) ++ concat items) ++ rest) ≡ Ok (items, rest)
unfolding list_at
list_again size items rest below is =
    ap (λ (l : List ℕ). number_at 2 l >>= λ count. items_at size count.0 count.1)
    (append_assoc (big_bytes 2 (length items)) (concat items) rest)
    ∙ ap (λ (r : Result (ℕ × List ℕ) Fault). r >>= λ count. items_at size count.0 count.1)
    (number_again 2 (length items) (concat items ++ rest) (omega arith)) ∙ items_again size items rest is

field_again : (k : Kind) (v : Value) (rest : List ℕ) → IsOf k v → field_at k (value_bytes k v ++ rest) ≡ Ok (v, rest)
field_again (Number size) (Num n) rest is = ap (λ (r : Result (ℕ × List ℕ) Fault). r >>= λ n. Ok (Num n.0, n.1))
    (number_again size n rest is)
field_again (Number size) (Str bytes) rest is = absurd is
field_again (Number size) (Many items) rest is = absurd is
field_again (Fixed size) (Many items) rest is = absurd is
field_again Sized (Many items) rest is = absurd is
field_again (Listed size) (Num n) rest is = absurd is
field_again (Listed size) (Str bytes) rest is = absurd is
field_again (Listed size) (Many items) rest is =
    ap (λ (r : Result (List (List ℕ) × List ℕ) Fault). r >>= λ l. Ok (Many l.0, l.1))
    (list_again size items rest is.0 is.1)
field_again (Fixed size) (Num n) rest is = absurd is
field_again (Fixed size) (Str bytes) rest is =
    let whole : bytes_at size (bytes ++ rest) ≡ Ok (bytes, rest) =
    subst (λ (n : ℕ). bytes_at n (bytes ++ rest) ≡ Ok (bytes, rest)) is (bytes_again bytes rest) in
    ap (λ (r : Result (List ℕ × List ℕ) Fault). r >>= λ s. Ok (Str s.0, s.1)) whole
field_again Sized (Num n) rest is = absurd is
field_again Sized (Str bytes) rest is = ap (λ (r : Result (List ℕ × List ℕ) Fault). r >>= λ s. Ok (Str s.0, s.1))
    (string_again bytes rest is)

fields_again : (ks : List Kind) (vs : List Value) (rest : List ℕ) → AreOf ks vs
    → fields_at ks (fields_bytes ks vs ++ rest) ≡ Ok (vs, rest)
fields_again [] [] rest is = refl
fields_again [] (v ∷ vs) rest is = absurd is
fields_again (k ∷ ks) [] rest is = absurd is
fields_again (k ∷ ks) (v ∷ vs) rest is =
    ap (λ (l : List ℕ). field_at k l >>= λ first. fields_at ks first.1 >>= λ others. Ok (first.0 ∷ others.0, others.1))
    (append_assoc (value_bytes k v) (fields_bytes ks vs) rest)
    ∙ ap (λ (r : Result (Value × List ℕ) Fault). r >>= λ first. fields_at ks first.1 >>= λ others. Ok
    (first.0 ∷ others.0, others.1)) (field_again k v (fields_bytes ks vs ++ rest) is.0)
    ∙ ap (λ (r : Result (List Value × List ℕ) Fault). r >>= λ others. Ok (v ∷ others.0, others.1))
    (fields_again ks vs rest is.1)

-- ---- messages

pub ends : {A : Type 0} (b : Bool) (d : Fault) (r : Result A Fault) (y : A) → cond b r (Err d) ≡ Ok y
    → (b ≡ true) × (r ≡ Ok y)
ends true d r y e = (refl, e)
ends false d r y e = absurd cc

formed_takes : (form : Form) (typ : ℕ) (bytes : List ℕ) (h : Heard) → IsBytes bytes → typ < 65536
    → form_of typ ≡ Some form → formed_at form typ bytes ≡ Ok h → IsSpelledBy h (big_bytes 2 typ ++ bytes)
unfolding formed_at
formed_takes form typ bytes h fits below is e =
    let a = bind_ok (fields_at (kinds_of form) bytes)
    (λ values. stream_at form.known_even values.1 >>= λ records. cond (have_lengths form.lengths records)
    (Ok (Known (record { typ = typ; values = values.0; records = records }))) (Err FieldLength)) h e in
    let b = bind_ok (stream_at form.known_even a.0.1)
    (λ records. cond (have_lengths form.lengths records)
    (Ok (Known (record { typ = typ; values = a.0.0; records = records }))) (Err FieldLength)) h a.2 in
    let made : Heard = Known (record { typ = typ; values = a.0.0; records = b.0 }) in
    let c = ends (have_lengths form.lengths b.0) FieldLength (Ok made) h b.2 in
    let first = fields_take (kinds_of form) bytes a.0 fits a.1 in
    let second = stream_takes form.known_even a.0.1 b.0 first.0.rest_fits b.1 in
    let parts : bytes ≡ fields_bytes (kinds_of form) a.0.0 ++ stream_bytes b.0 = first.0.parts
    ∙ ap (λ l. fields_bytes (kinds_of form) a.0.0 ++ l) second.bytes_are in
    subst (λ (x : Heard). IsSpelledBy x (big_bytes 2 typ ++ bytes)) (ok_is made h c.1) (
      form,
      is,
      record { typ = below; values = first.1; valid = second.valid; fit = second.fit; lengths = c.0 },
      ap (λ l. big_bytes 2 typ ++ l) parts
          ∙ sym (append_assoc (big_bytes 2 typ) (fields_bytes (kinds_of form) a.0.0) (stream_bytes b.0)),
    )

payload_takes : (form : Option Form) (typ : ℕ) (bytes : List ℕ) (h : Heard) → IsBytes bytes → typ < 65536
    → form_of typ ≡ form → payload_at form typ bytes ≡ Ok h → IsSpelledBy h (big_bytes 2 typ ++ bytes)
payload_takes (Some form) typ bytes h fits below is e = formed_takes form typ bytes h fits below is e
payload_takes None typ bytes h fits below is e =
    let c = ends (may_be_ignored typ) UnknownEvenType (Ok (Ignored typ)) h e in
    subst (λ (x : Heard). IsSpelledBy x (big_bytes 2 typ ++ bytes)) (ok_is (Ignored typ) h c.1) (
      is,
      c.0,
      below,
      bytes,
      refl,
    )

-- what is read is spelled so
pub message_takes : (bytes : List ℕ) (h : Heard) → IsBytes bytes → message_at bytes ≡ Ok h → Says h bytes
unfolding message_at
message_takes bytes h fits e =
    let g = guard_ok (nat_lt longest (length bytes)) TooLong
    (number_at 2 bytes >>= λ typ. payload_at (form_of typ.0) typ.0 typ.1) h e in
    let short : length bytes ≤ longest = ltb-false longest (length bytes) g.0 in
    let a = bind_ok (number_at 2 bytes) (λ typ. payload_at (form_of typ.0) typ.0 typ.1) h g.1 in
    let first = number_takes 2 bytes a.0 fits a.1 in (
      short,
      subst (IsSpelledBy h) (sym first.0.parts)
          (payload_takes (form_of a.0.0) a.0.0 a.0.1 h first.0.rest_fits (omega (arith, first.1)) refl a.2),
    )

formed_again : (form : Form) (w : Wire) → IsFormed form w
    → formed_at form w.typ (fields_bytes (kinds_of form) w.values ++ stream_bytes w.records) ≡ Ok (Known w)
unfolding formed_at
formed_again form w is =
    let first = fields_again (kinds_of form) w.values (stream_bytes w.records) is.values in
    let second : stream_at form.known_even (stream_bytes w.records) ≡ Ok w.records =
    stream_again form.known_even w.records (stream_bytes w.records)
    (record { valid = is.valid; fit = is.fit; bytes_are = refl }) in
    rw (first, second, is.lengths) refl

-- what is spelled so is read
pub message_again : (bytes : List ℕ) (h : Heard) → Says h bytes → message_at bytes ≡ Ok h
unfolding message_at
message_again bytes (Known w) is =
    let short : length bytes ≤ longest = is.0 in
    let says : IsSpelledBy (Known w) bytes = is.1 in
    let form = says.0 in
    let payload = fields_bytes (kinds_of form) w.values ++ stream_bytes w.records in
    let parts : bytes ≡ big_bytes 2 w.typ ++ payload = says.3
    ∙ append_assoc (big_bytes 2 w.typ) (fields_bytes (kinds_of form) w.values) (stream_bytes w.records) in
    let fits : nat_lt longest (length bytes) ≡ false = le-ltb _ _ (omega arith) in
    let typ : number_at 2 bytes ≡ Ok (w.typ, payload) = ap (number_at 2) parts
    ∙ number_again 2 w.typ payload (omega (arith, says.2.typ)) in
    rw (fits, typ, says.1) (formed_again form w says.2)
message_again bytes (Ignored typ) whole =
    let short : length bytes ≤ longest = whole.0 in
    let says : IsSpelledBy (Ignored typ) bytes = whole.1 in
    let payload = says.3 in
    let fits : nat_lt longest (length bytes) ≡ false = le-ltb _ _ (omega arith) in
    let is : number_at 2 bytes ≡ Ok (typ, payload) = ap (number_at 2) says.4
    ∙ number_again 2 typ payload (omega (arith, says.2)) in
    rw (fits, is, says.0, says.1) refl

pub is_found : (r : Result Incoming Fault) (bytes : List ℕ) → IsBytes bytes → Gives heard r (message_at bytes)
    → IfOk r (λ m. Says (heard m) bytes)
is_found (Ok m) bytes fits gives = message_takes bytes (heard m) fits gives
is_found (Err e) bytes fits gives = tt

pub one_said : (g h : Heard) (bytes : List ℕ) → Says g bytes → Says h bytes → g ≡ h
one_said g h bytes p q = ok_is g h (sym (message_again bytes g p) ∙ message_again bytes h q)

pub no_fault_said : (h : Heard) (f : Fault) (bytes : List ℕ) → Says h bytes → message_at bytes ≡ Err f → ⊥
no_fault_said h f bytes p e = let both = sym (message_again bytes h p) ∙ e in absurd cc
