-- A record is read as it is written, and nothing else is.
use Rattle.std.proofs.Common.{◌≡◌, ℕ, zero, suc, ◌+◌, ◌-◌, ◌^◌, ◌<◌, ◌≤◌, Bool, true, false, cond, List, [], ◌∷◌, ◌++◌}
use Rattle.std.proofs.Common.{length, take, drop, ◌⊎◌, ◌||◌}
use Rattle.std.proofs.Common.{Option, Some, None, Result, Ok, Err, nat_lt, nat_eq, ◌==◌, not, ◌&&◌, refl, sym, ap, ◌∙◌}
use Rattle.std.proofs.Common.{arith}
use Rattle.std.proofs.Common.{subst, append-nil, inl, inr}
use Rattle.std.proofs.lemmas.Bool.{ltb-false, le-ltb, eqb-true, eq-eqb, not-true}
use Rattle.std.proofs.lemmas.List.{take_at, drop_at, take-append-drop, length-append, length-take, length-drop}
use Rattle.std.proofs.lemmas.Cmp.{nat_list_eq_equiv}
use Rattle.std.specs.Cmp.Lexicographic.{same_text, pointwise}
use Rattle.byteorder.specs.Endian.{big_bytes, big_number}
use Rattle.byteorder.specs.Numbers.{big_number-reads_back, length-bytes_high_first}
use Rattle.sha2.proofs.Facts256.{length-sha256}
use Rattle.ln_refusals.specs.declared.refusal.Refusal.{Refusal}
use Rattle.ln_refusals.specs.declared.refusal.Refusal.TheVariants as refusal
use Rattle.ln_bytes.proofs.Reading.{IsBytes, IsBytes-drop, IsBytes-rest, chosen}
use Rattle.ln_bytes.proofs.Numbers.{bytes_back}
use Rattle.ln_keys.specs.Hash.{payment_hash as digest}
use Rattle.ln_store.specs.declared.record.Items.{Items}
use Rattle.ln_store.specs.Items as it
use Rattle.ln_store.specs.Readable.{is_readable, is_sound}
use Rattle.ln_store.specs.Record.{magic, unsealed, sealed, record_bytes, before_seal, seal_of, begins_well, is_sealed}
use Rattle.ln_store.specs.Record.{version_of, body_of, only_items, record_at, Gives, is_known_version, holds_any}
use Rattle.ln_store.specs.Record.{is_told_in}
use Rattle.ln_store.specs.Record.{spelled_in, IsSpelledBy}
use Rattle.std.specs.Prelude.{IfOk}
use Rattle.ln_store.proofs.Formats.{both_true, true_both}
use Rattle.ln_store.proofs.Laws.{items_are_lawful}

-- ---- what is sealed

length_unsealed : (v : ℕ) (body : List ℕ) → length (unsealed v body) ≡ 14 + length body
unfolding unsealed
length_unsealed v body =
    omega (
      arith,
      length-append (big_bytes 2 v) (big_bytes 8 (length body) ++ body),
      length-append (big_bytes 8 (length body)) body,
      length-bytes_high_first 2 v,
      length-bytes_high_first 8 (length body),
    )

length_sealed : (v : ℕ) (body : List ℕ) → length (sealed v body) ≡ 46 + length body
length_sealed v body =
    omega (
      arith,
      length-append (unsealed v body) (digest (unsealed v body)),
      length_unsealed v body,
      length-sha256 (unsealed v body),
    )

before : (v : ℕ) (body : List ℕ) → before_seal (sealed v body) ≡ unsealed v body
before v body = take_at (unsealed v body) (digest (unsealed v body)) (length (sealed v body) - 32)
    (omega (arith, length_sealed v body, length_unsealed v body))

behind : (v : ℕ) (body : List ℕ) → seal_of (sealed v body) ≡ digest (unsealed v body)
behind v body = drop_at (unsealed v body) (digest (unsealed v body)) (length (sealed v body) - 32)
    (omega (arith, length_sealed v body, length_unsealed v body))

body_is : (v : ℕ) (body : List ℕ) → body_of (sealed v body) ≡ body
unfolding body_of unsealed
body_is v body = ap (drop 14) (before v body)
    ∙ drop_at (big_bytes 8 (length body)) body 8 (length-bytes_high_first 8 (length body))

version_is : (v : ℕ) (body : List ℕ) → v < 256 ^ 2 → version_of (sealed v body) ≡ v
unfolding version_of unsealed
version_is v body below = ap (λ (l : List ℕ). big_number 2 (drop 4 l)) (before v body)
    ∙ big_number-reads_back 2 v (big_bytes 8 (length body) ++ body) below

length_is : (v : ℕ) (body : List ℕ) → length body < 256 ^ 8
    → begins_well (unsealed v body) (length (sealed v body)) ≡ true
unfolding unsealed
length_is v body below =
    let n : big_number 8 (drop 6 (unsealed v body)) ≡ length body =
    big_number-reads_back 8 (length body) body below in
    true_both _ _ (nat_list_eq_equiv.refl magic)
    (eq-eqb _ _ (omega (arith, n, length_sealed v body)))

pub is_sealed_so : (v : ℕ) (body : List ℕ) → length body < 256 ^ 8 → is_sealed (sealed v body) ≡ true
unfolding is_sealed
is_sealed_so v body below =
    true_both _ _ (ap not (le-ltb (length (sealed v body)) 46 (omega (arith, length_sealed v body))))
    (true_both _ _ (ap (λ (l : List ℕ). begins_well l (length (sealed v body))) (before v body)
    ∙ length_is v body below)
    (ap (λ (l : List ℕ). pointwise nat_eq (digest l) (seal_of (sealed v body))) (before v body)
    ∙ ap (pointwise nat_eq (digest (unsealed v body))) (behind v body)
    ∙ nat_list_eq_equiv.refl (digest (unsealed v body))))

-- ---- what is written is read again

items_again : (i : Items) → it.items.fits i ≡ true → it.items.at (it.items.bytes i) ≡ Some (i, [])
items_again i h = ap it.items.at (sym (append-nil (it.items.bytes i))) ∙ items_are_lawful.again i [] h

chosen_by : {A : Type 0} (b : Bool) (x y : A) → b ≡ true → cond b x y ≡ x
chosen_by true x y e = refl
chosen_by false x y e = absurd cc

again_in : (v : ℕ) (i : Items) → v < 256 ^ 2 → is_known_version v ≡ true → is_told_in v i ≡ true → is_readable i ≡ true
    → length (spelled_in v i) < 2 ^ 64 → record_at (spelled_in v i) ≡ Ok i
again_in v i small known told h short =
    let p = both_true (it.items.fits i) (is_sound i) h in
    let body = it.items.bytes i in
    let below : length body < 256 ^ 8 = omega (arith, length_sealed v body) in
    let version : version_of (spelled_in v i) ≡ v = version_is v body small in
    let read : it.items.at (body_of (spelled_in v i)) ≡ Some (i, []) =
    ap it.items.at (body_is v body) ∙ items_again i p.0 in
    rw (is_sealed_so v body below, version, known, read)
    (chosen_by (is_readable i && is_told_in v i) (Ok i) (Err refusal.Damaged) (true_both _ _ h told))

pub record_again : (i : Items) → is_readable i ≡ true → length (record_bytes i) < 2 ^ 64
    → record_at (record_bytes i) ≡ Ok i
record_again i h short = again_in 2 i (omega arith) refl refl h short

-- as it was written in version 1
pub old_again : (i : Items) → is_readable i ≡ true → holds_any i ≡ false → length (spelled_in 1 i) < 2 ^ 64
    → record_at (spelled_in 1 i) ≡ Ok i
old_again i h none short = again_in 1 i (omega arith) refl (ap not none) h short

pub spelled_again : (i : Items) (bytes : List ℕ) → is_readable i ≡ true → length bytes < 2 ^ 64
    → IsSpelledBy bytes i → record_at bytes ≡ Ok i
spelled_again i bytes h short (inl e) =
    ap record_at e ∙ record_again i h (subst (λ (l : List ℕ). length l < 2 ^ 64) e short)
spelled_again i bytes h short (inr p) =
    ap record_at p.0 ∙ old_again i h p.1 (subst (λ (l : List ℕ). length l < 2 ^ 64) p.0 short)

abbrev done : Items → Result Items Refusal
done i = Ok i

same_items : (i j : Items) → done i ≡ done j → i ≡ j
same_items i j e = cc

pub one_item : (i j : Items) (bytes : List ℕ) → is_readable i ≡ true → is_readable j ≡ true → length bytes < 2 ^ 64
    → IsSpelledBy bytes i → IsSpelledBy bytes j → i ≡ j
one_item i j bytes p q short e g =
    same_items i j (sym (spelled_again i bytes p short e) ∙ spelled_again j bytes q short g)

-- ---- what is read is spelled so

-- what is read of a body has its forms
pub told : (v : ℕ) (body : List ℕ) (i : Items) (rest : List ℕ) → IsBytes body → it.items.at body ≡ Some (i, rest)
    → only_items v (it.items.at body)
    ≡ cond ((length rest == 0) && (is_sound i && is_told_in v i)) (Ok i) (Err refusal.Damaged)
told v body i rest b e =
    let t = items_are_lawful.takes body i rest b e in
    ap (only_items v) e
    ∙ ap (λ (f : Bool). cond ((length rest == 0) && ((f && is_sound i) && is_told_in v i)) (Ok i)
    (Err refusal.Damaged)) t.1

IsBytes-take : (n : ℕ) (bytes : List ℕ) → IsBytes bytes → IsBytes (take n bytes)
IsBytes-take zero bytes b i = omega arith
IsBytes-take (suc n) [] b i = omega arith
IsBytes-take (suc n) (x ∷ bytes) b zero = b 0
IsBytes-take (suc n) (x ∷ bytes) b (suc i) = IsBytes-take n bytes (IsBytes-rest x bytes b) i

abbrev no_bytes : List ℕ
no_bytes = []

none_dropped : (k : ℕ) → drop k no_bytes ≡ no_bytes
none_dropped zero = refl
none_dropped (suc k) = refl

dropped : (m n : ℕ) (xs : List ℕ) → drop m (drop n xs) ≡ drop (n + m) xs
dropped m zero xs = let e : m ≡ 0 + m = omega arith in ap (λ (k : ℕ). drop k xs) e
dropped m (suc n) [] = none_dropped m ∙ sym (none_dropped (suc n + m))
dropped m (suc n) (x ∷ xs) =
    let e : suc (n + m) ≡ suc n + m = omega arith in
    dropped m n xs ∙ ap (λ (k : ℕ). drop k (x ∷ xs)) e

cut : (m n : ℕ) (xs : List ℕ) → drop n xs ≡ take m (drop n xs) ++ drop (n + m) xs
cut m n xs = sym (take-append-drop m (drop n xs)) ∙ ap (λ (l : List ℕ). take m (drop n xs) ++ l) (dropped m n xs)

guard : {A : Type 0} (b : Bool) (d : Refusal) (r : Result A Refusal) (y : A) → cond (not b) (Err d) r ≡ Ok y
    → (b ≡ true) × (r ≡ Ok y)
guard true d r y e = (refl, e)
guard false d r y e = absurd cc

-- items that were read, with nothing after them
record WasRead (v : ℕ) (o : Option (Items × List ℕ)) (i : Items) : Type 0 where
  read : o ≡ Some (i, [])
  readable : is_readable i ≡ true
  told : is_told_in v i ≡ true

no_items : (xs : List ℕ) → length xs ≡ 0 → xs ≡ []
no_items [] e = refl
no_items (x ∷ xs) e = absurd (omega arith)

only_ok : (v : ℕ) (o : Option (Items × List ℕ)) (i : Items) → only_items v o ≡ Ok i → WasRead v o i
only_ok v None i e = absurd cc
only_ok v (Some x) i e =
    elim (chosen ((length x.1 == 0) && (is_readable x.0 && is_told_in v x.0)) (Ok x.0) (Err refusal.Damaged) (Ok i) e) [
      | inl h ↦
          let p = both_true (length x.1 == 0) (is_readable x.0 && is_told_in v x.0) h.0 in
          let q = both_true (is_readable x.0) (is_told_in v x.0) p.1 in
          let same : x.0 ≡ i = same_items x.0 i h.1 in
          let none : x.1 ≡ [] = no_items x.1 (eqb-true (length x.1) 0 p.0) in
          record {
            read = ap (λ (j : Items). Some (j, x.1)) same ∙ ap (λ (l : List ℕ). Some (i, l)) none;
            readable = subst (λ (j : Items). is_readable j ≡ true) same q.0;
            told = subst (λ (j : Items). is_told_in v j ≡ true) same q.1;
          }
      | inr h ↦ absurd cc
    ]

-- what begins well is what is before the digest
unsealed_is : (v : ℕ) (f : List ℕ) (n : ℕ) → IsBytes f → 14 ≤ length f → n ≡ length f + 32 → begins_well f n ≡ true
    → big_number 2 (drop 4 f) ≡ v → f ≡ unsealed v (drop 14 f)
unfolding unsealed
unsealed_is v f n b long is h version =
    let c = both_true (pointwise nat_eq (take 4 f) magic) (big_number 8 (drop 6 f) + 46 == n) h in
    let first : take 4 f ≡ magic = same_text (take 4 f) magic (sym c.0) in
    let len : big_number 8 (drop 6 f) + 46 ≡ n = eqb-true (big_number 8 (drop 6 f) + 46) n c.1 in
    let two : big_bytes 2 (big_number 2 (drop 4 f)) ≡ take 2 (drop 4 f) =
    bytes_back 2 (drop 4 f) (IsBytes-drop 4 f b) (omega (arith, length-drop 4 f)) in
    let eight : big_bytes 8 (big_number 8 (drop 6 f)) ≡ take 8 (drop 6 f) =
    bytes_back 8 (drop 6 f) (IsBytes-drop 6 f b) (omega (arith, length-drop 6 f)) in
    let body : length (drop 14 f) ≡ big_number 8 (drop 6 f) = omega (arith, length-drop 14 f, len) in
    sym (take-append-drop 4 f)
    ∙ ap (λ (l : List ℕ). l ++ drop 4 f) first
    ∙ ap (λ (l : List ℕ). magic ++ l) (cut 2 4 f
    ∙ ap (λ (l : List ℕ). l ++ drop 6 f) (sym two ∙ ap (big_bytes 2) version)
    ∙ ap (λ (l : List ℕ). big_bytes 2 v ++ l) (cut 8 6 f
    ∙ ap (λ (l : List ℕ). l ++ drop 14 f) (sym eight ∙ ap (big_bytes 8) (sym body))))

known_is : (n : ℕ) → is_known_version n ≡ true → (n ≡ 1) ⊎ (n ≡ 2)
known_is n h = by (n == 1) refl h
  where
    by : (b : Bool) → (n == 1) ≡ b → b || (n == 2) ≡ true → (n ≡ 1) ⊎ (n ≡ 2)
    by true e k = inl (eqb-true n 1 e)
    by false e k = inr (eqb-true n 2 k)

-- of a known version, in which the items may be told
by_version : (n : ℕ) (bytes : List ℕ) (i : Items) → (n ≡ 1) ⊎ (n ≡ 2) → is_told_in n i ≡ true
    → bytes ≡ spelled_in n i → IsSpelledBy bytes i
by_version n bytes i (inl e) told is =
    inr (
      is ∙ ap (λ (v : ℕ). spelled_in v i) e,
      not-true (holds_any i) (subst (λ (v : ℕ). is_told_in v i ≡ true) e told),
    )
by_version n bytes i (inr e) told is = inl (is ∙ ap (λ (v : ℕ). spelled_in v i) e)

pub record_takes : (bytes : List ℕ) (i : Items) → IsBytes bytes → record_at bytes ≡ Ok i
    → IsSpelledBy bytes i × (is_readable i ≡ true)
unfolding is_sealed version_of body_of
record_takes bytes i b e =
    let f = before_seal bytes in
    let n = version_of bytes in
    let s = guard (is_sealed bytes) refusal.Damaged (cond (not (is_known_version n)) (Err refusal.Version)
    (only_items n (it.items.at (body_of bytes)))) i e in
    let v = guard (is_known_version n) refusal.Version (only_items n (it.items.at (body_of bytes))) i s.1 in
    let w = only_ok n (it.items.at (body_of bytes)) i v.1 in
    let p = both_true (not (nat_lt (length bytes) 46)) (begins_well f (length bytes)
    && pointwise nat_eq (digest f) (seal_of bytes)) s.0 in
    let long : 46 ≤ length bytes = ltb-false (length bytes) 46 (not-true (nat_lt (length bytes) 46) p.0) in
    let q = both_true (begins_well f (length bytes)) (pointwise nat_eq (digest f) (seal_of bytes)) p.1 in
    let len : length f ≡ length bytes - 32 = omega (arith, length-take (length bytes - 32) bytes) in
    let bf : IsBytes f = IsBytes-take (length bytes - 32) bytes b in
    let front : f ≡ unsealed n (drop 14 f) =
    unsealed_is n f (length bytes) bf (omega (arith, len, long)) (omega (arith, len, long)) q.0 refl in
    let seal : digest f ≡ seal_of bytes = same_text (digest f) (seal_of bytes) (sym q.1) in
    let taken = items_are_lawful.takes (body_of bytes) i [] (IsBytes-drop 14 f bf) w.read in
    let body : drop 14 f ≡ it.items.bytes i = taken.0.parts ∙ append-nil (it.items.bytes i) in
    let whole : f ≡ unsealed n (it.items.bytes i) = front ∙ ap (unsealed n) body in (
      by_version n bytes i (known_is n v.0) w.told (sym (take-append-drop (length bytes - 32) bytes)
          ∙ ap (λ (l : List ℕ). f ++ l) (sym seal)
          ∙ ap (λ (l : List ℕ). l ++ digest l) whole),
      w.readable,
    )

-- ---- what was answered

pub found : (r : Result Items Refusal) (bytes : List ℕ) → IsBytes bytes → Gives (λ i. i) r (record_at bytes)
    → IfOk r (λ i. IsSpelledBy bytes i)
found (Ok i) bytes b e = (record_takes bytes i b e).0
found (Err f) bytes b e = tt

pub only_readable : (v : ℕ) (o : Option (Items × List ℕ)) (i : Items) → only_items v o ≡ Ok i → is_readable i ≡ true
only_readable v o i e = (only_ok v o i e).readable
