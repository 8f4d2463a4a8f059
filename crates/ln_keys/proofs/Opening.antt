-- An onion that was made is opened again.
use Rattle.std.proofs.Common.{◌≡◌, ℕ, zero, suc, ◌+◌, ◌-◌, ◌<◌, ◌≤◌, ◌^◌, List, [], ◌∷◌, ◌++◌, length, take, drop}
use Rattle.std.proofs.Common.{replicate, Some, None, Result, Ok, refl, sym, ap, subst, ◌∙◌, arith, append_assoc}
use Rattle.std.proofs.Common.{append-nil, length-append, nat_lt, nat_eq, false, inl, inr}
use Rattle.std.proofs.lemmas.List.{take_at, drop_at, length-replicate, replicate-append-replicate}
use Rattle.std.proofs.lemmas.Bool.{le-ltb, ltb-false, ne_eqb}
use Rattle.sha2.proofs.Facts256.{length-sha256}
use Rattle.ln_bytes.specs.Bigsize.{bigsize, bigsize_at}
use Rattle.ln_bytes.specs.Endian.{big_bytes}
use Rattle.ln_bytes.proofs.Numbers.{is_again}
use Rattle.ln_bytes.proofs.Reading.{chosen}
use Rattle.ln_bytes.proofs.Same.{same_as_itself}
use Rattle.ln_keys.specs.declared.onion.Opened.{Opened}
use Rattle.ln_keys.specs.declared.onion.OpenFault.{OpenFault}
use Rattle.ln_keys.specs.Onion.{onion_key, onion_payloads, onion_hmac}
use Rattle.ln_keys.specs.ToyOnion.{toy_key, toy_hmac, filled, toy_packet, with_length, payload_bytes, toy_made}
use Rattle.ln_keys.specs.ToyOnion.{next_packet, passed_on, hop_behind, packet_fault, unless, toy_opened}

length-hmac : (payloads hash : List ℕ) → length (toy_hmac payloads hash) ≡ 32
unfolding toy_hmac
length-hmac payloads hash = length-sha256 (payloads ++ hash)

length-key : length toy_key ≡ 33
unfolding toy_key
length-key = refl

length-filled : (bytes : List ℕ) → length bytes ≤ 1300 → length (filled bytes) ≡ 1300
unfolding filled
length-filled bytes fits = omega (
  arith,
  length-append bytes (replicate (1300 - length bytes) 0),
  length-replicate {A = ℕ} (1300 - length bytes) 0,
)

-- ---- the parts of a packet

key_of : (key room hmac : List ℕ) → length key ≡ 33 → onion_key ((0 ∷ key) ++ room ++ hmac) ≡ key
key_of key room hmac lk = ap (take 33) (append_assoc key room hmac) ∙ take_at key (room ++ hmac) 33 lk

payloads_of : (key room hmac : List ℕ) → length key ≡ 33 → length room ≡ 1300
    → onion_payloads ((0 ∷ key) ++ room ++ hmac) ≡ room
payloads_of key room hmac lk lr =
    ap (λ l. take 1300 (drop 33 l)) (append_assoc key room hmac) ∙ ap (take 1300) (drop_at key (room ++ hmac) 33 lk)
    ∙ take_at room hmac 1300 lr

hmac_of : (key room hmac : List ℕ) → length key ≡ 33 → length room ≡ 1300 → length hmac ≡ 32
    → onion_hmac ((0 ∷ key) ++ room ++ hmac) ≡ hmac
hmac_of key room hmac lk lr lh =
    ap (take 32) (drop_at (key ++ room) hmac 1333 (omega (arith, length-append key room)))
    ∙ ap (take 32) (sym (append-nil hmac)) ∙ take_at hmac [] 32 lh

-- a packet that was put together has no fault
no_fault : (bytes hash : List ℕ) → length bytes ≤ 1300 → packet_fault (toy_packet bytes hash) hash ≡ None
no_fault bytes hash fits =
    let room = filled bytes in
    let hmac = toy_hmac room hash in
    let lr = length-filled bytes fits in
    let key : onion_key (toy_packet bytes hash) ≡ toy_key = key_of toy_key room hmac length-key in
    let inner : onion_payloads (toy_packet bytes hash) ≡ room = payloads_of toy_key room hmac length-key lr in
    let seal : onion_hmac (toy_packet bytes hash) ≡ hmac =
    hmac_of toy_key room hmac length-key lr (length-hmac room hash) in
    rw (key, inner, seal, same_as_itself toy_key, same_as_itself hmac) refl

-- ---- what is passed on

-- the length of a payload that isn't empty doesn't begin with 0
record Begins (bytes : List ℕ) : Type 0 where
  first : ℕ
  rest : List ℕ
  is : bytes ≡ suc first ∷ rest

begins : (n : ℕ) → Begins (bigsize (suc n))
begins n =
    elim (chosen (nat_lt (suc n) 253) (suc n ∷ []) _ (bigsize (suc n)) refl) [
      | inl h ↦ record { first = n; rest = []; is = sym h.1 }
      | inr h ↦ elim (chosen (nat_lt (suc n) 65536) (253 ∷ big_bytes 2 (suc n)) _ (bigsize (suc n)) h.1) [
        | inl g ↦ record { first = 252; rest = big_bytes 2 (suc n); is = sym g.1 }
        | inr g ↦ elim (chosen (nat_lt (suc n) 4294967296) (254 ∷ big_bytes 4 (suc n)) (255 ∷ big_bytes 8 (suc n))
            (bigsize (suc n)) g.1) [
              | inl f ↦ record { first = 253; rest = big_bytes 4 (suc n); is = sym f.1 }
              | inr f ↦ record { first = 254; rest = big_bytes 8 (suc n); is = sym f.1 }
            ]
      ]
    ]

next_begun : (bytes hash : List ℕ) → Begins bytes → (more : List ℕ)
    → next_packet (bytes ++ more) hash ≡ Some (toy_packet (bytes ++ more) hash)
next_begun bytes hash b more =
    let P : List ℕ → Type 0 = λ l. next_packet (l ++ more) hash ≡ Some (toy_packet (l ++ more) hash) in
    subst P (sym b.is) refl

begins-append : (bytes more : List ℕ) → Begins bytes → Begins (bytes ++ more)
begins-append bytes more b = record { first = b.first; rest = b.rest ++ more; is = ap (λ l. l ++ more) b.is }

-- zeros after the bytes are there already
filled-zeros : (bytes : List ℕ) (k : ℕ) → length bytes + k ≤ 1300 → filled (bytes ++ replicate k 0) ≡ filled bytes
unfolding filled
filled-zeros bytes k fits =
    let len = length (bytes ++ replicate k 0) in
    let left : k + (1300 - len) ≡ 1300 - length bytes =
    omega (arith, length-append bytes (replicate k 0), length-replicate {A = ℕ} k 0) in
    let there : List ℕ = replicate k 0 in
    let behind : List ℕ = replicate (1300 - len) 0 in
    let all : List ℕ = replicate (1300 - length bytes) 0 in
    let zeros : there ++ behind ≡ all = rw left at (replicate-append-replicate {A = ℕ} k (1300 - len) 0) in
    let apart : (bytes ++ there) ++ behind ≡ bytes ++ (there ++ behind) = append_assoc bytes there behind in
    rw zeros at apart

packet-zeros : (bytes hash : List ℕ) (k : ℕ) → length bytes + k ≤ 1300
    → toy_packet (bytes ++ replicate k 0) hash ≡ toy_packet bytes hash
packet-zeros bytes hash k fits = ap (λ r. (0 ∷ toy_key) ++ r ++ toy_hmac r hash) (filled-zeros bytes k fits)

pub is_passed_on : (ps : List (List ℕ)) (hash : List ℕ) (k : ℕ) → length (payload_bytes ps) + k ≤ 1300
    → next_packet (payload_bytes ps ++ replicate k 0) hash ≡ passed_on ps hash
is_passed_on [] hash zero fits = refl
is_passed_on [] hash (suc k) fits = refl
is_passed_on ([] ∷ ps) hash k fits = refl
is_passed_on ((x ∷ q) ∷ ps) hash k fits =
    let all = payload_bytes ((x ∷ q) ∷ ps) in
    let short : nat_lt 1300 (length all) ≡ false = le-ltb 1300 (length all) (omega arith) in
    let full : nat_eq (length (x ∷ q)) 0 ≡ false = ne_eqb (length (x ∷ q)) 0 (omega arith) in
    let head = begins-append (bigsize (suc (length q)) ++ (x ∷ q)) (payload_bytes ps)
    (begins-append (bigsize (suc (length q))) (x ∷ q) (begins (length q))) in
    next_begun all hash head (replicate k 0) ∙ ap (λ o. Some o) (packet-zeros all hash k fits) ∙ rw (full, short) refl

-- ---- what was made is opened

-- the payload at the front, whatever follows
first_is : (p tail hash : List ℕ) → 0 < length p → length p < 2 ^ 64
    → hop_behind (bigsize_at (with_length p ++ tail)) (with_length p ++ tail) hash
    ≡ Ok (record { payload = p; next = next_packet tail hash })
first_is p tail hash some small =
    let n = length p in
    let apart : with_length p ++ tail ≡ bigsize n ++ (p ++ tail) = append_assoc (bigsize n) p tail in
    let P : List ℕ → Type 0 = λ l. hop_behind (bigsize_at l) l hash
    ≡ Ok (record { payload = p; next = next_packet tail hash }) in
    let rest : drop (length (bigsize n)) (bigsize n ++ (p ++ tail)) ≡ p ++ tail =
    drop_at (bigsize n) (p ++ tail) (length (bigsize n)) refl in
    let full : nat_eq n 0 ≡ false = ne_eqb n 0 (omega arith) in
    let there : nat_lt (length (p ++ tail)) n ≡ false =
    le-ltb (length (p ++ tail)) n (omega (arith, length-append p tail)) in
    let front : take n (p ++ tail) ≡ p = take_at p tail n refl in
    let back : drop n (p ++ tail) ≡ tail = drop_at p tail n refl in
    subst P (sym apart) (rw (is_again n (p ++ tail) small, rest, full, there, front, back) refl)

split : (p : List ℕ) (ps : List (List ℕ)) → filled (payload_bytes (p ∷ ps)) ≡ with_length p
    ++ (payload_bytes ps ++ replicate (1300 - length (payload_bytes (p ∷ ps))) 0)
unfolding filled
split p ps = append_assoc (with_length p) (payload_bytes ps) (replicate (1300 - length (payload_bytes (p ∷ ps))) 0)

packet_opened : (p : List ℕ) (ps : List (List ℕ)) (hash : List ℕ) → 0 < length p
    → length (payload_bytes (p ∷ ps)) ≤ 1300 → toy_opened (toy_packet (payload_bytes (p ∷ ps)) hash) hash
    ≡ Ok (record { payload = p; next = passed_on ps hash })
packet_opened p ps hash some fits =
    let body = payload_bytes (p ∷ ps) in
    let k = 1300 - length body in
    let packet = toy_packet body hash in
    let read : List ℕ → Result Opened OpenFault = λ l. hop_behind (bigsize_at l) l hash in
    let inner : onion_payloads packet ≡ filled body =
    payloads_of toy_key (filled body) (toy_hmac (filled body) hash) length-key (length-filled body fits) in
    let sizes = length-append (with_length p) (payload_bytes ps) in
    let head = length-append (bigsize (length p)) p in
    ap (λ f. unless f (read (onion_payloads packet))) (no_fault body hash fits)
    ∙ ap read (inner ∙ split p ps)
    ∙ first_is p (payload_bytes ps ++ replicate k 0) hash some (omega (arith, sizes, head))
    ∙ ap (λ n. Ok (record { payload = p; next = n })) (is_passed_on ps hash k (omega (arith, sizes)))

pub is_opened : (p : List ℕ) (ps : List (List ℕ)) (hash onion : List ℕ) → 0 < length p
    → toy_made (p ∷ ps) hash ≡ Some onion → toy_opened onion hash
    ≡ Ok (record { payload = p; next = passed_on ps hash })
is_opened p ps hash onion some made =
    let body = payload_bytes (p ∷ ps) in
    elim (chosen (nat_lt 1300 (length body)) None (Some (toy_packet body hash)) (Some onion) made) [
      | inl h ↦ absurd cc
      | inr h ↦ let is : toy_packet body hash ≡ onion = cc in
          let P : List ℕ → Type 0 = λ o. toy_opened o hash ≡ Ok (record { payload = p; next = passed_on ps hash }) in
          subst P is (packet_opened p ps hash some (ltb-false 1300 (length body) h.0))
    ]
