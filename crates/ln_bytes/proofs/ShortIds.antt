-- Short ids as bytes and as text: what is read is written so, and what is written so is read.
use Rattle.std.proofs.Common.{◌≡◌, ◌≢◌, ℕ, suc, ◌-◌, ◌^◌, ◌<◌, List, [], ◌∷◌, ◌++◌, length, get_or, take, drop, Option}
use Rattle.std.proofs.Common.{Some, None, Result, Ok, Err, refl, sym, ◌∙◌, ap, subst, arith, append_assoc, inl, inr}
use Rattle.std.specs.Prelude.{MatchOption}
use Rattle.std.specs.Result.{result_ok}
use Rattle.std.specs.Fmt.{decimal}
use Rattle.std.specs.Int.{IsInRange}
use Rattle.std.specs.Str.Parse.{AllDigits, digits_value, ParsesUnsigned}
use Rattle.std.proofs.lemmas.Fmt.{digits_decimal, digits_value-decimal, decimal-digits_value, decimal_nonempty}
use Rattle.std.proofs.lemmas.Fmt.{decimal_digit, first_decimal, decimal_injective}
use Rattle.std.proofs.lemmas.Str.Parse.{IsNumeralModel, numerals_by_value, tells_digits, parse_plain, not_in_digits}
use Rattle.std.proofs.lemmas.Str.Parse.{digit_at}
use Rattle.std.proofs.lemmas.Str.Pattern.{IsSplitOnceResult, split_after}
use denote.Ref.{Bor}
use Rattle.std.proofs.lemmas.Bool.{cases_eq}
use Rattle.std.proofs.lemmas.List.{take-append-drop, take_all, length-drop, drop-drop}
use Rattle.byteorder.specs.Endian.{big_bytes, big_number}
use Rattle.byteorder.specs.Numbers.{big_from-lt}
use Rattle.ln_bytes.specs.ShortId.{short_id_bytes, short_id_text, IsPlain}
use Rattle.ln_bytes.proofs.Reading.{IsBytes, IsBytes-drop}
use Rattle.ln_bytes.proofs.Numbers.{bytes_back}

-- ---- bytes

joined : (a b c x y z : List ℕ) → a ≡ x → b ≡ y → c ≡ z → (a ++ b) ++ c ≡ (x ++ y) ++ z
joined a b c x y z p q r = rw (p, q, r) refl

same_id : (bytes : List ℕ) (b t o x y z : ℕ) → b ≡ x → t ≡ y → o ≡ z → bytes ≡ short_id_bytes x y z
    → bytes ≡ short_id_bytes b t o
same_id bytes b t o x y z p q r e = rw (p, q, r) e

bytes_found : (bytes : List ℕ) → IsBytes bytes → length bytes ≡ 8
    → bytes ≡ short_id_bytes (big_number 3 bytes) (big_number 3 (drop 3 bytes)) (big_number 2 (drop 6 bytes))
bytes_found bytes fits len =
    let one : big_bytes 3 (big_number 3 bytes) ≡ take 3 bytes = bytes_back 3 bytes fits (omega arith) in
    let two : big_bytes 3 (big_number 3 (drop 3 bytes)) ≡ take 3 (drop 3 bytes) =
    bytes_back 3 (drop 3 bytes) (IsBytes-drop 3 bytes fits) (omega (arith, length-drop 3 bytes)) in
    let three : big_bytes 2 (big_number 2 (drop 6 bytes)) ≡ take 2 (drop 6 bytes) =
    bytes_back 2 (drop 6 bytes) (IsBytes-drop 6 bytes fits) (omega (arith, length-drop 6 bytes)) in
    let all : take 2 (drop 6 bytes) ≡ drop 6 bytes = take_all 2 (drop 6 bytes) (omega (arith, length-drop 6 bytes)) in
    let tail : take 3 (drop 3 bytes) ++ drop 6 bytes ≡ drop 3 bytes =
    ap (λ (x : List ℕ). take 3 (drop 3 bytes) ++ x) (sym (drop-drop 3 3 bytes)) ∙ take-append-drop 3 (drop 3 bytes) in
    let whole : (take 3 bytes ++ take 3 (drop 3 bytes)) ++ drop 6 bytes ≡ bytes =
    append_assoc (take 3 bytes) (take 3 (drop 3 bytes)) (drop 6 bytes) ∙ ap (λ (x : List ℕ). take 3 bytes ++ x) tail
    ∙ take-append-drop 3 bytes in
    sym (joined _ _ _ _ _ _ one two (three ∙ all) ∙ whole)

pub three_below : (bytes : List ℕ) (n : ℕ) → IsBytes bytes → n ≡ big_number 3 bytes → n < 2 ^ 24
three_below bytes n fits e = rw e (big_from-lt 0 3 bytes fits)

-- the bytes from k on, as a slice has them
tail_is : (k : ℕ) (bytes : List ℕ) → take (length bytes - k) (drop k bytes) ≡ drop k bytes
tail_is k bytes = take_all (length bytes - k) (drop k bytes) (omega (arith, length-drop k bytes))

pub tail_fits : (k : ℕ) (bytes : List ℕ) → IsBytes bytes → IsBytes (take (length bytes - k) (drop k bytes))
tail_fits k bytes fits = subst IsBytes (sym (tail_is k bytes)) (IsBytes-drop k bytes fits)

pub bytes_are_id : (bytes : List ℕ) (block tx output : ℕ) → IsBytes bytes → length bytes ≡ 8
    → block ≡ big_number 3 bytes → tx ≡ big_number 3 (take (length bytes - 3) (drop 3 bytes))
    → output ≡ big_number 2 (take (length bytes - 6) (drop 6 bytes)) → bytes ≡ short_id_bytes block tx output
bytes_are_id bytes block tx output fits len b t o =
    let tx_is : tx ≡ big_number 3 (drop 3 bytes) = t ∙ ap (big_number 3) (tail_is 3 bytes) in
    let output_is : output ≡ big_number 2 (drop 6 bytes) = o ∙ ap (big_number 2) (tail_is 6 bytes) in
    same_id bytes _ _ _ _ _ _ b tx_is output_is (bytes_found bytes fits len)

-- ---- numbers as text

own : IsNumeralModel (AllDigits 10) (digits_value 10)
own = numerals_by_value (AllDigits 10) tells_digits

one_zero : (n : ℕ) → n < 2 ^ 64 → get_or (decimal n) 0 0 ≡ 48 → length (decimal n) ≡ 1
one_zero n wide first =
    elim (cases_eq n 0) [
      | inl is ↦ ap length (ap decimal is ∙ decimal_digit 0 (omega arith))
      | inr other ↦ let more : 48 < get_or (decimal n) 0 0 =
          first_decimal n (omega (arith, other)) wide in absurd (omega arith)
    ]

numeral : (text : List ℕ) (n : ℕ) → text ≡ decimal n → n < 2 ^ 32
    → AllDigits 10 text × (0 < length text) × (digits_value 10 text < 2 ^ 32)
numeral text n is below =
    let wide : n < 2 ^ 64 = omega arith in
    rw is (digits_decimal own n wide, decimal_nonempty n wide, rw (digits_value-decimal own n wide) below)

pub plain_from_decimal : (n : ℕ) → n < 2 ^ 32 → IsPlain (decimal n)
plain_from_decimal n below =
    let wide : n < 2 ^ 64 = omega arith in
    let digit : IsInRange 48 57 (get_or (decimal n) 0 0) =
    digit_at (decimal n) 0 (digits_decimal own n wide) (decimal_nonempty n wide) in
    (λ plus. omega (arith, digit.0, digit.1, plus), λ first. one_zero n wide first)

pub number_is : {E : Type 0} (text : List ℕ) (r : Result ℕ E) (o : Option ℕ) → o ≡ result_ok r
    → ParsesUnsigned 32 10 text r → IsPlain text → MatchOption o ((n : ℕ) → n < 2 ^ 32
    → text ≢ decimal n) (λ n. (n < 2 ^ 32) × (text ≡ decimal n))
number_is {E = E} text (Ok n) o e h plain =
    let p = parse_plain own {E = E} 32 text (Ok n) h plain.0 in
    let is : decimal (digits_value 10 text) ≡ text =
    decimal-digits_value own text p.0.0 p.0.1 plain.1 (omega (arith, p.0.2)) in
    let below : n < 2 ^ 32 = rw p.1 p.0.2 in
    rw e (below, sym is ∙ ap decimal (sym p.1))
number_is {E = E} text (Err d) o e h plain =
    let p = parse_plain own {E = E} 32 text (Err d) h plain.0 in
    rw e (λ n below is. p (numeral text n is below))

-- ---- numbers with an x between

abbrev Lacks : List ℕ → Type 0
Lacks text = (i : ℕ) → i < length text → get_or text i 0 ≢ 120

lacks_x : (n : ℕ) → n < 2 ^ 32 → Lacks (decimal n)
lacks_x n below = not_in_digits own (decimal n) 120 (digits_decimal own n (omega arith)) (λ r. omega (arith, r.0, r.1))

same_split : (xs ys x y : List ℕ) → Lacks xs → Lacks ys → xs ++ (120 ∷ x) ≡ ys ++ (120 ∷ y) → (xs ≡ ys) × (x ≡ y)
same_split [] [] x y lx ly e = (refl, cc)
same_split [] (b ∷ ys) x y lx ly e = let h : 120 ≡ b = cc in absurd (ly 0 (omega arith) (sym h))
same_split (a ∷ xs) [] x y lx ly e = let h : a ≡ 120 = cc in absurd (lx 0 (omega arith) h)
same_split (a ∷ xs) (b ∷ ys) x y lx ly e =
    let h : a ≡ b = cc in
    let t : xs ++ (120 ∷ x) ≡ ys ++ (120 ∷ y) = cc in
    let r = same_split xs ys x y (λ i l. lx (suc i) (omega arith)) (λ i l. ly (suc i) (omega arith)) t in
    let s : xs ≡ ys = r.0 in
    (cc, r.1)

-- a text is a number, an x and the rest in one way
pub one_front : (m n : ℕ) (x y : List ℕ) → m < 2 ^ 32 → n < 2 ^ 32
    → decimal m ++ (120 ∷ x) ≡ decimal n ++ (120 ∷ y) → (m ≡ n) × (x ≡ y)
one_front m n x y bm bn e =
    let r = same_split (decimal m) (decimal n) x y (lacks_x m bm) (lacks_x n bn) e in
    (decimal_injective m n (omega arith) (omega arith) r.0, r.1)

pub no_x : (text : List ℕ) (n : ℕ) (rest : List ℕ) → IsSplitOnceResult 120 text None → n < 2 ^ 32
    → text ≢ decimal n ++ (120 ∷ rest)
no_x text n rest h below e = split_after 120 text (decimal n) rest None h (omega arith) e (lacks_x n below)

pub front_is : (text : List ℕ) (n : ℕ) (rest : List ℕ) (x : Bor (List ℕ) × Bor (List ℕ))
    → IsSplitOnceResult 120 text (Some x) → n < 2 ^ 32 → text ≡ decimal n ++ (120 ∷ rest) → x.0.now ≡ decimal n
front_is text n rest x h below e = (split_after 120 text (decimal n) rest (Some x) h
    (omega arith) e (lacks_x n below)).0

-- the numbers that are read of a text are those that it is written with
pub record IsOf (block tx output b t o : ℕ) : Type 0 where
  pub block_is : block ≡ b
  pub tx_is : tx ≡ t
  pub output_is : output ≡ o

pub one_text : (block tx output b t o : ℕ) (rest last : List ℕ) → block < 2 ^ 32 → tx < 2 ^ 32 → output < 2 ^ 32
    → b < 2 ^ 24 → t < 2 ^ 24 → o < 2 ^ 16 → decimal block ++ (120 ∷ rest) ≡ short_id_text b t o
    → rest ≡ decimal tx ++ (120 ∷ last) → last ≡ decimal output → IsOf block tx output b t o
one_text block tx output b t o rest last fb ft fo bb bt bo e f g =
    let p = one_front block b rest (decimal t ++ (120 ∷ decimal o)) fb (omega arith) e in
    let q = one_front tx t last (decimal o) ft (omega arith) (sym f ∙ p.1) in
    record {
      block_is = p.0;
      tx_is = q.0;
      output_is = decimal_injective output o (omega arith)
          (omega arith) (sym g ∙ q.1);
    }
