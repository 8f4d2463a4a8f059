-- Leading zero bytes don't count: what is read as a truncated number is spelled so, and what is spelled
-- so is read.
use Rattle.std.proofs.Common.{◌≡◌, ℕ, zero, suc, ◌+◌, ◌-◌, ◌*◌, ◌^◌, ◌<◌, ◌≤◌, ◌/◌, ◌%◌, false, List, [], ◌∷◌, length}
use Rattle.std.proofs.Common.{refl, sym, ◌∙◌, ap, subst, arith, Result, Ok, Err, IfOk, cond, nat_lt}
use Rattle.std.specs.Int.{byte_at}
use Rattle.std.proofs.Math.Nat.{div-eq_of_lt, div-one, div-lt_iff_lt-mul, mod-eq_of_lt, pow-suc, pow-succ', one-le-pow}
use Rattle.std.proofs.lemmas.Nat.{le-div}
use Rattle.std.proofs.lemmas.Bool.{ltb-false, le-ltb}
use Rattle.std.proofs.lemmas.List.{take_all}
use Rattle.byteorder.specs.Endian.{big_bytes, big_number, big_from}
use Rattle.byteorder.specs.Numbers.{big_from-cons, big_from-lt, big_number-reads_back, length-bytes_high_first}
use Rattle.ln_bytes.specs.Truncated.{without_zeros, truncated, begins_with_zero, truncated_at}
use Rattle.ln_bytes.specs.declared.fault.Fault.{Fault}
use Rattle.ln_bytes.specs.declared.fault.Fault.TheVariants.{NotMinimal, FieldLength}
use Rattle.ln_bytes.proofs.Reading.{IsBytes, guard_ok, ok_is}
use Rattle.ln_bytes.proofs.Numbers.{bytes_back}

-- ---- lists without their leading zeros

zeros_behind : (b : ℕ) (bytes : List ℕ) → b ≡ 0 → without_zeros (b ∷ bytes) ≡ without_zeros bytes
zeros_behind zero bytes e = refl
zeros_behind (suc b) bytes e = absurd (omega arith)

same_without : (bytes : List ℕ) → begins_with_zero bytes ≡ false → without_zeros bytes ≡ bytes
same_without [] e = refl
same_without (zero ∷ bytes) e = absurd cc
same_without (suc b ∷ bytes) e = refl

nothing_leads : (bytes : List ℕ) → begins_with_zero (without_zeros bytes) ≡ false
nothing_leads [] = refl
nothing_leads (zero ∷ bytes) = nothing_leads bytes
nothing_leads (suc b ∷ bytes) = refl

no_longer : (bytes : List ℕ) → length (without_zeros bytes) ≤ length bytes
no_longer [] = omega arith
no_longer (zero ∷ bytes) = let h = no_longer bytes in omega (arith, h)
no_longer (suc b ∷ bytes) = omega arith

same_value : (bytes : List ℕ) → big_number (length (without_zeros bytes)) (without_zeros bytes)
    ≡ big_number (length bytes) bytes
same_value [] = refl
same_value (zero ∷ bytes) =
    let h = same_value bytes in
    let moved : big_from 1 (length bytes) (0 ∷ bytes) ≡ big_from 0 (length bytes) bytes =
    big_from-cons 0 (length bytes) 0 bytes in
    h ∙ sym moved ∙ omega arith
same_value (suc b ∷ bytes) = refl

-- ---- numbers that need fewer bytes

byte_at-pow : (k n : ℕ) → byte_at k n ≡ n / 256 ^ k % 256
byte_at-pow zero n = ap (λ (y : ℕ). y % 256) (sym (div-one n))
byte_at-pow (suc k) n = refl

top_is_zero : (k n : ℕ) → n < 256 ^ k → byte_at k n ≡ 0
top_is_zero k n below = byte_at-pow k n ∙ rw (div-eq_of_lt below) refl

pub grows : (k n : ℕ) → n < 256 ^ k → n < 256 ^ suc k
grows k n below = rw (pow-suc 256 k) (omega arith)

-- the number fits into m bytes, and its bytes beyond k are leading zeros
record IsWide (k n m : ℕ) : Type 0 where
  below : n < 256 ^ m
  same : without_zeros (big_bytes m n) ≡ without_zeros (big_bytes k n)

one_wider : (k n m : ℕ) → IsWide k n m → IsWide k n (suc m)
one_wider k n m w = record {
  below = grows m n w.below;
  same = zeros_behind (byte_at m n) (big_bytes m n) (top_is_zero m n w.below) ∙ w.same;
}

wider : (j k n : ℕ) → n < 256 ^ k → IsWide k n (j + k)
wider zero k n below = let e : 0 + k ≡ k = omega arith in rw e (record { below = below; same = refl })
wider (suc j) k n below = let e : suc j + k ≡ suc (j + k) = omega arith in
    rw e (one_wider k n (j + k) (wider j k n below))

wide : (k n : ℕ) → k ≤ 8 → n < 256 ^ k → IsWide k n 8
wide k n le below = let e : (8 - k) + k ≡ 8 = omega arith in subst (IsWide k n) e (wider (8 - k) k n below)

below_more : (j k m n : ℕ) → n < 256 ^ k → j + k ≡ m → n < 256 ^ m
below_more j k m n below e = subst (λ (m : ℕ). n < 256 ^ m) e (wider j k n below).below

shorter_than : (bytes : List ℕ) (k : ℕ) → length bytes ≡ k → length (without_zeros bytes) ≤ k
shorter_than bytes k e = let h = no_longer bytes in omega (arith, h)

stands : (b : ℕ) (bytes : List ℕ) → 0 < b → begins_with_zero (b ∷ bytes) ≡ false
stands zero bytes h = absurd (omega arith)
stands (suc b) bytes h = refl

div-lt_of_lt-mul : (n k m : ℕ) → 0 < k → n < m * k → n / k < m
div-lt_of_lt-mul n k m h l = (div-lt_iff_lt-mul {k = k} {x = n} {y = m} h).1 l

-- the highest byte of a number that needs it isn't zero
top_stands : (k n : ℕ) → n < 256 ^ k → (0 < k → 256 ^ (k - 1) ≤ n) → begins_with_zero (big_bytes k n) ≡ false
top_stands zero n below least = refl
top_stands (suc k) n below least =
    let k_is : suc k - 1 ≡ k = omega arith in
    let least_is : 256 ^ k ≤ n = subst (λ (j : ℕ). 256 ^ j ≤ n) k_is (least (omega arith)) in
    let some : 0 < 256 ^ k = one-le-pow k 256 (omega arith) in
    let high : n < 256 * 256 ^ k = rw (← pow-succ' 256 k) below in
    let q = n / 256 ^ k in
    let low : 1 ≤ q = le-div 1 n (256 ^ k) some (omega arith) in
    let top : q < 256 = div-lt_of_lt-mul n (256 ^ k) 256 some high in
    let byte : byte_at k n ≡ q = byte_at-pow k n ∙ mod-eq_of_lt top in
    stands (byte_at k n) (big_bytes k n) (rw byte low)

-- ---- reading

pub is_found : (room : ℕ) (bytes : List ℕ) (n : ℕ) → IsBytes bytes → room ≤ 8 → truncated_at room bytes ≡ Ok n
    → (n < 256 ^ room) × (bytes ≡ truncated n)
is_found room bytes n fits le e =
    let g = guard_ok (nat_lt room (length bytes)) FieldLength
    (cond (begins_with_zero bytes) (Err NotMinimal) (Ok (big_number (length bytes) bytes))) n e in
    let h = guard_ok (begins_with_zero bytes) NotMinimal (Ok (big_number (length bytes) bytes)) n g.1 in
    let k = length bytes in
    let short : k ≤ room = ltb-false room k g.0 in
    let number : big_number k bytes ≡ n = ok_is (big_number k bytes) n h.1 in
    let below : n < 256 ^ k = rw (← number) (big_from-lt 0 k bytes fits) in
    let w : IsWide k n 8 = wide k n (omega arith) below in
    let back : big_bytes k n ≡ bytes = rw (← number) (bytes_back k bytes fits (omega arith)
    ∙ take_all k bytes (omega arith)) in
    (below_more (room - k) k room n below (omega arith), sym (w.same ∙ ap without_zeros back ∙ same_without bytes h.0))

pub is_again : (room n : ℕ) → room ≤ 8 → n < 256 ^ room → truncated_at room (truncated n) ≡ Ok n
is_again room n le below =
    let w : IsWide room n 8 = wide room n le below in
    let short : length (truncated n) ≤ room = rw w.same
    (shorter_than (big_bytes room n) room (length-bytes_high_first room n)) in
    let fits : nat_lt room (length (truncated n)) ≡ false = le-ltb _ _ short in
    let first : begins_with_zero (truncated n) ≡ false = nothing_leads (big_bytes 8 n) in
    let reads : big_number 8 (big_bytes 8 n) ≡ n = big_number-reads_back 8 n [] w.below in
    let number : big_number (length (truncated n)) (truncated n) ≡ n = same_value (big_bytes 8 n) ∙ reads in
    rw (fits, first, number) refl

-- ---- writing

pub as_bytes : (k n : ℕ) → k ≤ 8 → n < 256 ^ k → (0 < k → 256 ^ (k - 1) ≤ n) → truncated n ≡ big_bytes k n
as_bytes k n le below least = (wide k n le below).same ∙ same_without (big_bytes k n) (top_stands k n below least)

-- ---- the calls

pub found : (room : ℕ) (r : Result ℕ Fault) (bytes : List ℕ) → IsBytes bytes → room ≤ 8 → r ≡ truncated_at room bytes
    → IfOk r (λ n. bytes ≡ truncated n)
found room (Ok n) bytes fits le e = (is_found room bytes n fits le (sym e)).1
found room (Err f) bytes fits le e = tt

pub one_number : (m n : ℕ) → m < 2 ^ 64 → n < 2 ^ 64 → truncated m ≡ truncated n → m ≡ n
one_number m n bm bn e = ok_is m n (sym (is_again 8 m (omega arith) bm) ∙ ap (truncated_at 8) e
    ∙ is_again 8 n (omega arith) bn)
