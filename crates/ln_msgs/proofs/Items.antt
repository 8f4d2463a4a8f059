-- Reading items one after the other, as a loop does.
use Rattle.std.proofs.Common.{◌≡◌, ℕ, suc, ◌-◌, ◌+◌, ◌≤◌, ◌<◌, List, [], ◌∷◌, ◌++◌, Result, Ok, Err, refl, sym, ap}
use Rattle.std.proofs.Common.{◌∙◌, append_assoc, arith}
use Rattle.std.proofs.lemmas.List.{append-nil}
use Rattle.ln_bytes.specs.declared.fault.Fault.{Fault}
use Rattle.ln_bytes.specs.Reading.{◌>>=◌}
use Rattle.ln_msgs.specs.Codec.Field.{bytes_at, items_at}

-- what was read before, and what is still read
abbrev pub with_front : List (List ℕ) → Result (List (List ℕ) × List ℕ) Fault → Result (List (List ℕ) × List ℕ) Fault
with_front front read = read >>= λ x. Ok (front ++ x.0, x.1)

regroup : (front : List (List ℕ)) (item : List ℕ) (read : Result (List (List ℕ) × List ℕ) Fault)
    → with_front front (read >>= λ x. Ok (item ∷ x.0, x.1)) ≡ with_front (front ++ item ∷ []) read
regroup front item (Ok x) = ap (λ (items : List (List ℕ)). Ok (items, x.1)) (simp append_assoc)
regroup front item (Err f) = refl

pub starts : (size count : ℕ) (bytes : List ℕ) (read : Result (List (List ℕ) × List ℕ) Fault)
    → with_front [] read ≡ read
starts size count bytes (Ok x) = refl
starts size count bytes (Err f) = refl

pub goes_on : (size : ℕ) (front : List (List ℕ)) (count i : ℕ) (bytes item after : List ℕ)
    (total : Result (List (List ℕ) × List ℕ) Fault) → i < count → bytes_at size bytes ≡ Ok (item, after)
    → with_front front (items_at size (count - i) bytes) ≡ total
    → with_front (front ++ item ∷ []) (items_at size (count - (i + 1)) after) ≡ total
unfolding items_at
goes_on size front count i bytes item after total lt h so_far =
    let k : count - i ≡ suc (count - (i + 1)) = omega arith in
    let one : with_front front (items_at size (count - i) bytes)
    ≡ with_front (front ++ item ∷ []) (items_at size (count - (i + 1)) after) =
    rw (k, h) (regroup front item (items_at size (count - (i + 1)) after)) in
    sym one ∙ so_far

pub ends : (size : ℕ) (e : Fault) (front : List (List ℕ)) (count i : ℕ) (bytes : List ℕ)
    (total : Result (List (List ℕ) × List ℕ) Fault) → i < count → bytes_at size bytes ≡ Err e
    → with_front front (items_at size (count - i) bytes) ≡ total → total ≡ Err e
unfolding items_at
ends size e front count i bytes total lt h so_far =
    let k : count - i ≡ suc (count - (i + 1)) = omega arith in
    let one : with_front front (items_at size (count - i) bytes) ≡ Err e = rw (k, h) refl in
    sym so_far ∙ one

pub is_done : (size : ℕ) (front : List (List ℕ)) (count i : ℕ) (bytes : List ℕ)
    (total : Result (List (List ℕ) × List ℕ) Fault) → count ≤ i
    → with_front front (items_at size (count - i) bytes) ≡ total → total ≡ Ok (front, bytes)
unfolding items_at
is_done size front count i bytes total le so_far =
    let k : count - i ≡ 0 = omega arith in
    let one : with_front front (items_at size (count - i) bytes) ≡ Ok (front, bytes) =
    rw k (ap (λ (items : List (List ℕ)). Ok (items, bytes)) (append-nil front)) in
    sym so_far ∙ one
