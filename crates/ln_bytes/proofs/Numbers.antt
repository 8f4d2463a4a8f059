-- What is read as a number is spelled so, and what is spelled so is read.
use Rattle.std.proofs.Common.{◌≡◌, ℕ, zero, suc, ◌+◌, ◌*◌, ◌^◌, ◌<◌, ◌≤◌, ◌/◌, false, cond, List, [], ◌∷◌, ◌++◌, length}
use Rattle.std.proofs.Common.{take, drop, refl, sym, ◌∙◌, ap, subst, arith, Result, Ok, Err, nat_lt, IfOk, append-nil}
use Rattle.std.proofs.Common.{◌==◌, inl, inr}
use Rattle.std.specs.Int.{bytes_high_first, byte_at}
use Rattle.std.proofs.lemmas.Nat.{same_from_place, mod_below}
use Rattle.std.proofs.lemmas.List.{take-append-drop, take_at, drop_at, length-append}
use Rattle.std.proofs.lemmas.Bool.{ltb-false, ltb-true, eqb-true, le-ltb}
use Rattle.std.proofs.lemmas.Bool.Decides.{nat_tests}
use Rattle.byteorder.specs.Endian.{big_bytes, big_number, big_from}
use Rattle.byteorder.specs.Numbers.{big_from-cons, big_from-lt, length-bytes_high_first, big_number-reads_back}
use Rattle.ln_bytes.specs.Bigsize.{bigsize, bigsize_at, long_at}
use Rattle.ln_bytes.specs.declared.fault.Fault.{Fault}
use Rattle.ln_bytes.specs.declared.fault.Fault.TheVariants.{Truncated, NotMinimal}
use Rattle.ln_bytes.proofs.Reading.{IsBytes, IsBytes-rest, chosen, guard_ok, ok_pair}

-- ---- numbers of k bytes

-- bytes that give one number are the same
same_front : (k : ℕ) (xs ys : List ℕ) → IsBytes xs → IsBytes ys → k ≤ length xs → k ≤ length ys
    → big_from 0 k xs ≡ big_from 0 k ys → take k xs ≡ take k ys
same_front zero xs ys bx by lx ly e = refl
same_front (suc k) [] ys bx by lx ly e = absurd (omega arith)
same_front (suc k) (x ∷ xs) [] bx by lx ly e = absurd (omega arith)
same_front (suc k) (x ∷ xs) (y ∷ ys) bx by lx ly e =
    let tx : IsBytes xs = IsBytes-rest x xs bx in
    let ty : IsBytes ys = IsBytes-rest y ys by in
    let p : (x ≡ y) × (big_from 0 k xs ≡ big_from 0 k ys) =
    same_from_place x (big_from 0 k xs) y (big_from 0 k ys) (256 ^ k) (big_from-lt 0 k xs tx) (big_from-lt 0 k ys ty)
    (ap (λ n. x * 256 ^ k + n) (sym (big_from-cons 0 k x xs)) ∙ e
    ∙ ap (λ n. y * 256 ^ k + n) (big_from-cons 0 k y ys)) in
    let q = same_front k xs ys tx ty (omega arith) (omega arith) p.1 in
    cc (p.0, q)

byte_below : (i n : ℕ) → byte_at i n < 256
byte_below zero n = mod_below n 256 (omega arith)
byte_below (suc i) n = mod_below (n / 256 ^ suc i) 256 (omega arith)

bytes_are : (k n : ℕ) → IsBytes (bytes_high_first k n)
bytes_are zero n i = omega arith
bytes_are (suc k) n zero = byte_below k n
bytes_are (suc k) n (suc i) = bytes_are k n i

-- the bytes of the number in the first k bytes are these bytes
pub bytes_back : (k : ℕ) (xs : List ℕ) → IsBytes xs → k ≤ length xs → big_bytes k (big_number k xs) ≡ take k xs
bytes_back k xs b l =
    let m = big_number k xs in
    let ys = bytes_high_first k m in
    let len : length ys ≡ k = length-bytes_high_first k m in
    let same : big_from 0 k ys ≡ big_from 0 k xs =
    rw append-nil at (big_number-reads_back k m [] (big_from-lt 0 k xs b)) in
    sym (rw append-nil at (take_at ys [] k len)) ∙ same_front k ys xs (bytes_are k m) b (omega arith) l same

-- ---- what is read is spelled so

-- one byte, or a number of k bytes after a first byte
record IsLong (k least n len : ℕ) (rest : List ℕ) : Type 0 where
  enough : k ≤ length rest
  minimal : least ≤ n
  number : n ≡ big_number k rest
  taken : len ≡ suc k

long_takes : (k least n len : ℕ) (rest : List ℕ) → long_at k least rest ≡ Ok (n, len) → IsLong k least n len rest
long_takes k least n len rest e =
    let a = guard_ok (nat_lt (length rest) k) Truncated
    (cond (nat_lt (big_number k rest) least) (Err NotMinimal) (Ok (big_number k rest, k + 1))) (n, len) e in
    let b = guard_ok (nat_lt (big_number k rest) least) NotMinimal (Ok (big_number k rest, k + 1)) (n, len) a.1 in
    let same = ok_pair (big_number k rest) (k + 1) n len b.1 in
    let least_is : least ≤ big_number k rest = ltb-false (big_number k rest) least b.0 in
    record {
      enough = ltb-false (length rest) k a.0;
      minimal = rw (← same.0) least_is;
      number = sym same.0;
      taken = omega (arith, same.1);
    }

-- a number that is read from the front, of which len bytes are taken
pub record IsRead (n len : ℕ) (bytes : List ℕ) : Type 0 where
  pub below : n < 2 ^ 64
  pub taken : len ≡ length (bigsize n)
  pub within : len ≤ length bytes
  pub parts : bytes ≡ bigsize n ++ drop len bytes

long_spelled : (k least n len x : ℕ) (rest : List ℕ) → IsBytes rest → IsLong k least n len rest → n < 2 ^ 64
    → bigsize n ≡ x ∷ big_bytes k n → IsRead n len (x ∷ rest)
long_spelled k least n len x rest b h below form =
    let back : big_bytes k n ≡ take k rest = rw h.number (bytes_back k rest b h.enough) in
    let len_is : length (big_bytes k n) ≡ k = length-bytes_high_first k n in
    record {
      below = below;
      taken = rw form (omega arith);
      within = omega arith;
      parts = rw (form, back, h.taken) (ap (λ xs. x ∷ xs) (sym (take-append-drop k rest)));
    }

long_below : (k least n len : ℕ) (rest : List ℕ) → IsBytes rest → IsLong k least n len rest → n < 256 ^ k
long_below k least n len rest b h = rw h.number (big_from-lt 0 k rest b)

pub is_read : (bytes : List ℕ) (n len : ℕ) → IsBytes bytes → bigsize_at bytes ≡ Ok (n, len) → IsRead n len bytes
is_read [] n len b e = absurd cc
is_read (x ∷ rest) n len b e =
    elim (chosen (nat_lt x 253) (Ok (x, 1)) _ (Ok (n, len)) e) [
      | inl h ↦
          let same = ok_pair x 1 n len h.1 in
          let short : x < 253 = ltb-true x 253 h.0 in
          let form : bigsize x ≡ x ∷ [] = rw h.0 refl in
          let read : IsRead x 1 (x ∷ rest) = record {
            below = omega arith;
            taken = rw form refl;
            within = omega arith;
            parts = rw form refl;
          } in
          rw (← same.0, ← same.1) read
      | inr h ↦
          let long : 253 ≤ x = ltb-false x 253 h.0 in
          elim (chosen (x == 253) (long_at 2 253 rest) _ (Ok (n, len)) h.1) [
            | inl g ↦
                let is : x ≡ 253 = eqb-true x 253 g.0 in
                let t : IsLong 2 253 n len rest = long_takes 2 253 n len rest g.1 in
                let below : n < 65536 = long_below 2 253 n len rest (IsBytes-rest x rest b) t in
                let least : 253 ≤ n = t.minimal in
                let form : bigsize n ≡ x ∷ big_bytes 2 n = rw is (grind (arith, nat_tests)) in
                long_spelled 2 253 n len x rest (IsBytes-rest x rest b) t (omega arith) form
            | inr g ↦
                elim (chosen (x == 254) (long_at 4 65536 rest) _ (Ok (n, len)) g.1) [
                  | inl f ↦
                      let is : x ≡ 254 = eqb-true x 254 f.0 in
                      let t : IsLong 4 65536 n len rest = long_takes 4 65536 n len rest f.1 in
                      let below : n < 4294967296 = long_below 4 65536 n len rest (IsBytes-rest x rest b) t in
                      let least : 65536 ≤ n = t.minimal in
                      let form : bigsize n ≡ x ∷ big_bytes 4 n = rw is (grind (arith, nat_tests)) in
                      long_spelled 4 65536 n len x rest (IsBytes-rest x rest b) t (omega arith) form
                  | inr f ↦
                      let t : IsLong 8 4294967296 n len rest = long_takes 8 4294967296 n len rest f.1 in
                      let below : n < 2 ^ 64 = long_below 8 4294967296 n len rest (IsBytes-rest x rest b) t in
                      let least : 4294967296 ≤ n = t.minimal in
                      let first : x < 256 = b 0 in
                      let is : x ≡ 255 = grind (arith, nat_tests) in
                      let form : bigsize n ≡ x ∷ big_bytes 8 n = rw is (grind (arith, nat_tests)) in
                      long_spelled 8 4294967296 n len x rest (IsBytes-rest x rest b) t below form
                ]
          ]
    ]

-- ---- what is spelled so is read

long_again : (k least n : ℕ) (rest : List ℕ) → n < 256 ^ k → least ≤ n
    → long_at k least (big_bytes k n ++ rest) ≡ Ok (n, k + 1)
long_again k least n rest below minimal =
    let len : length (big_bytes k n) ≡ k = length-bytes_high_first k n in
    let enough : nat_lt (length (big_bytes k n ++ rest)) k ≡ false =
    le-ltb _ _ (omega (arith, length-append (big_bytes k n) rest)) in
    let number : big_number k (big_bytes k n ++ rest) ≡ n = big_number-reads_back k n rest below in
    let test : nat_lt n least ≡ false = le-ltb _ _ minimal in
    rw (enough, number, test) refl

pub is_again : (n : ℕ) (rest : List ℕ) → n < 2 ^ 64 → bigsize_at (bigsize n ++ rest) ≡ Ok (n, length (bigsize n))
is_again n rest below =
    let P : List ℕ → Type 0 = λ s. bigsize_at (s ++ rest) ≡ Ok (n, length s) in
    elim (chosen (nat_lt n 253) (n ∷ []) _ (bigsize n) refl) [
      | inl h ↦ let one : P (n ∷ []) = rw h.0 refl in subst P h.1 one
      | inr h ↦ elim (chosen (nat_lt n 65536) (253 ∷ big_bytes 2 n) _ (bigsize n) h.1) [
        | inl g ↦ subst P g.1 (long_again 2 253 n rest (ltb-true n 65536 g.0) (ltb-false n 253 h.0))
        | inr g ↦ elim (chosen (nat_lt n 4294967296) (254 ∷ big_bytes 4 n) (255 ∷ big_bytes 8 n) (bigsize n) g.1) [
          | inl f ↦ subst P f.1 (long_again 4 65536 n rest (ltb-true n 4294967296 f.0) (ltb-false n 65536 g.0))
          | inr f ↦ subst P f.1 (long_again 8 4294967296 n rest below (ltb-false n 4294967296 f.0))
        ]
      ]
    ]

-- no spelling begins another one
pub one_way : (m n : ℕ) (x y : List ℕ) → m < 2 ^ 64 → n < 2 ^ 64 → bigsize m ++ x ≡ bigsize n ++ y → (m ≡ n) × (x ≡ y)
one_way m n x y bm bn e =
    let same = ok_pair m (length (bigsize m)) n (length (bigsize n)) (sym (is_again m x bm)
    ∙ ap bigsize_at e ∙ is_again n y bn) in (
      same.0,
      sym (drop_at (bigsize m) x (length (bigsize m)) refl) ∙ ap (drop (length (bigsize m))) e
          ∙ drop_at (bigsize n) y (length (bigsize m)) (sym same.1),
    )

pub found : (r : Result (ℕ × ℕ) Fault) (bytes : List ℕ) → IsBytes bytes → r ≡ bigsize_at bytes
    → IfOk r (λ p. (p.0 < 2 ^ 64) × (bytes ≡ bigsize p.0 ++ drop p.1 bytes))
found (Ok p) bytes b e = let read = is_read bytes p.0 p.1 b (sym e) in (read.below, read.parts)
found (Err f) bytes b e = tt

pub taken : (r : Result (ℕ × ℕ) Fault) (bytes : List ℕ) → IsBytes bytes → r ≡ bigsize_at bytes
    → IfOk r (λ p. (p.1 ≡ length (bigsize p.0)) × (p.1 ≤ length bytes))
taken (Ok p) bytes b e = let read = is_read bytes p.0 p.1 b (sym e) in (read.taken, read.within)
taken (Err f) bytes b e = tt
