-- Packets put together by writes at a place.
use Rattle.std.proofs.Common.{◌≡◌, ℕ, ◌+◌, ◌-◌, ◌≤◌, List, ◌++◌, length, take, drop, replicate, refl, sym, ap, ◌∙◌}
use Rattle.std.proofs.Common.{arith, append_assoc, append-nil, length-append}
use Rattle.std.proofs.lemmas.List.{take_at, drop_at, drop_all, length-take-le, drop-replicate, drop-drop}
use Rattle.ln_keys.specs.ToyOnion.{filled}

-- a write at a place, over what stood there
abbrev pub written : ℕ → List ℕ → List ℕ → List ℕ
written at ys xs = take at xs ++ ys ++ drop (at + length ys) xs

-- the front and what was written
pub take-written : (at : ℕ) (ys xs : List ℕ) (n : ℕ) → at ≤ length xs → n ≡ at + length ys
    → take n (written at ys xs) ≡ take at xs ++ ys
take-written at ys xs n fits e = take_at (take at xs ++ ys) (drop (at + length ys) xs) n
    (omega (arith, length-append (take at xs) ys, length-take-le at xs fits))

-- what stands after it
pub drop-written : (at : ℕ) (ys xs : List ℕ) (n : ℕ) → at ≤ length xs → n ≡ at + length ys
    → drop n (written at ys xs) ≡ drop n xs
drop-written at ys xs n fits e = drop_at (take at xs ++ ys) (drop (at + length ys) xs) n
    (omega (arith, length-append (take at xs) ys, length-take-le at xs fits)) ∙ ap (λ m. drop m xs) (sym e)

-- two writes, the second right after the first
pub written_twice : (at : ℕ) (ys zs xs : List ℕ) → at ≤ length xs
    → written (at + length ys) zs (written at ys xs) ≡ written at (ys ++ zs) xs
written_twice at ys zs xs fits =
    let n = at + length ys in
    let front = take-written at ys xs n fits refl in
    let back : drop (n + length zs) (written at ys xs) ≡ drop (n + length zs) xs =
    sym (drop-drop (length zs) n (written at ys xs)) ∙ ap (drop (length zs)) (drop-written at ys xs n fits refl)
    ∙ drop-drop (length zs) n xs in
    let same : n + length zs ≡ at + length (ys ++ zs) = omega (arith, length-append ys zs) in
    ap (λ f. f ++ zs ++ drop (n + length zs) (written at ys xs)) front ∙ ap (λ d. take at xs ++ ys ++ zs ++ d) back
    ∙ ap (λ m. take at xs ++ ys ++ zs ++ drop m xs) same
    ∙ ap (λ l. l ++ drop (at + length (ys ++ zs)) xs) (append_assoc (take at xs) ys zs)

-- what is written to the end
pub written_last : (at : ℕ) (ys xs : List ℕ) → length xs ≤ at + length ys → written at ys xs ≡ take at xs ++ ys
written_last at ys xs past = ap (λ l. take at xs ++ ys ++ l) (drop_all (at + length ys) xs past)
    ∙ append-nil (take at xs ++ ys)

-- one more piece in the room
pub filled_more : (done next : List ℕ) → length done + length next ≤ 1300
    → written (length done) next (filled done) ≡ filled (done ++ next)
unfolding filled
filled_more done next fits =
    let here = length done in
    let more = length next in
    let zeros : List ℕ = replicate (1300 - length done) 0 in
    let left : 1300 - here - more ≡ 1300 - length (done ++ next) = omega (arith, length-append done next) in
    let front : take here (done ++ zeros) ≡ done = take_at done zeros here refl in
    let behind : drop here (done ++ zeros) ≡ zeros = drop_at done zeros here refl in
    let apart : drop more (drop here (done ++ zeros)) ≡ drop (here + more) (done ++ zeros) =
    drop-drop more here (done ++ zeros) in
    let fewer : drop more zeros ≡ replicate (1300 - here - more) 0 = drop-replicate more (1300 - here) 0 in
    rw (front, sym apart, behind, fewer, left) refl

pub placed : (done next room new : List ℕ) (at end : ℕ) → at ≡ length done → room ≡ filled done → end ≡ at + length next
    → end ≤ 1300 → new ≡ take at room ++ next ++ drop end room → new ≡ filled (done ++ next)
placed done next room new at end ea er ee fits en =
    en ∙ ap (λ r. take at r ++ next ++ drop end r) er
    ∙ ap (λ n. take at (filled done) ++ next ++ drop n (filled done)) ee
    ∙ ap (λ n. written n next (filled done)) ea ∙ filled_more done next (omega arith)
