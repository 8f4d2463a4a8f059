use Rattle.std.proofs.Common.{◌≡◌, ℕ, zero, suc, ◌+◌, List, [], ◌∷◌, ◌++◌, ◌/◌, ◌%◌, get_or, get_or-set_other, bit_xor}
use Rattle.std.proofs.Common.{length, take, slice_set, refl, ap, ◌∙◌, arith}
use Rattle.ln_msgs.proofs.messages.channel.channel_id.Goals as goal

-- a write of the last two elements
last_two : (n : ℕ) (xs : List ℕ) (a b : ℕ) → length xs ≡ n + 2
    → slice_set (slice_set xs n a) (suc n) b ≡ take n xs ++ a ∷ b ∷ []
last_two zero [] a b e = absurd (omega arith)
last_two zero (x ∷ []) a b e = absurd (omega arith)
last_two zero (x ∷ y ∷ []) a b e = refl
last_two zero (x ∷ y ∷ z ∷ zs) a b e = absurd (omega arith)
last_two (suc n) [] a b e = absurd (omega arith)
last_two (suc n) (x ∷ xs) a b e = ap (λ l. x ∷ l) (last_two n xs a b (omega arith))

pub returns : goal.returns
returns c =
    let txid = c.args.txid.now in
    let index = c.args.output_index in
    let high : get_or c.to_be_bytes.result 0 0 ≡ index / 256 = ap (λ l. get_or l 0 0) c.to_be_bytes.ensures
    ∙ omega (arith, c.ranges.output_index) in
    let low : get_or c.to_be_bytes.result 1 0 ≡ index % 256 = ap (λ l. get_or l 1 0) c.to_be_bytes.ensures in
    let first = bit_xor (get_or txid 30 0) (get_or c.to_be_bytes.result 0 0) in
    let kept : get_or (slice_set txid 30 first) 31 0 ≡ get_or txid 31 0 =
    get_or-set_other txid 30 31 first 0 (grind arith) in
    last_two 30 txid first (bit_xor (get_or (slice_set txid 30 first) 31 0)
    (get_or c.to_be_bytes.result 1 0)) c.told-txid
    ∙ ap (λ (x : ℕ). take 30 txid ++ first ∷ bit_xor x (get_or c.to_be_bytes.result 1 0) ∷ []) kept
    ∙ ap (λ (h : ℕ). take 30 txid ++ bit_xor (get_or txid 30 0) h
    ∷ bit_xor (get_or txid 31 0) (get_or c.to_be_bytes.result 1 0) ∷ []) high
    ∙ ap (λ (l : ℕ). take 30 txid ++ bit_xor (get_or txid 30 0) (index / 256) ∷ bit_xor (get_or txid 31 0) l ∷ []) low
