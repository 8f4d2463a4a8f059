-- What a hop's values spell is read again.
use Rattle.std.proofs.Common.{sym, ◌∙◌, ◌≢◌, Err, ◌≡◌, ℕ, false, List, ◌++◌, length, take, drop, Option, Some, None, Ok}
use Rattle.std.proofs.Common.{nat_lt, refl, subst, arith}
use Rattle.std.proofs.lemmas.Bool.{le-ltb}
use Rattle.std.proofs.lemmas.List.{length-append}
use Rattle.std.proofs.Math.Seq.{take-append_seam, drop-append_seam}
use Rattle.ln_bytes.specs.Truncated.{truncated}
use Rattle.ln_bytes.specs.declared.fault.Fault.{Fault}
use Rattle.ln_bytes.specs.declared.record.Record.{Record}
use Rattle.ln_bytes.specs.Tlv.{value_of}
use Rattle.ln_bytes.proofs.Zeros.{is_again}
use Rattle.ln_bytes.proofs.Reading.{ok_is}
use Rattle.ln_bytes.proofs.Streams.{stream_again}
use Rattle.ln_forward.specs.declared.payload.Payment.{Payment}
use Rattle.ln_forward.specs.Payload.{Hop, HasHop, SpellsHop, known, payload_at, SpellsNumber, SpellsId, SpellsPayment}
use Rattle.ln_forward.specs.Payload.{number_in, short_id_in, payment_in, hop_in}

amount_again : (n : Option ℕ) (value : Option (List ℕ)) → SpellsNumber 64 n value → number_in 8 value ≡ Ok n
amount_again None value k = rw k.0 refl
amount_again (Some n) value k = rw k.0 (rw (is_again 8 n (omega arith) k.1) refl)

expiry_again : (n : Option ℕ) (value : Option (List ℕ)) → SpellsNumber 32 n value → number_in 4 value ≡ Ok n
expiry_again None value k = rw k.0 refl
expiry_again (Some n) value k = rw k.0 (rw (is_again 4 n (omega arith) k.1) refl)

short_id_again : (id : Option (List ℕ)) (value : Option (List ℕ)) → SpellsId id value → short_id_in value ≡ Ok id
short_id_again None value k = rw k.0 refl
short_id_again (Some id) value k = rw k.0 (rw k.1 refl)

payment_again : (p : Option Payment) (value : Option (List ℕ)) → SpellsPayment p value → payment_in value ≡ Ok p
payment_again None value k = rw k.0 refl
payment_again (Some p) value k =
    let t = truncated p.total in
    let long : nat_lt (length (p.secret ++ t)) 32 ≡ false =
    le-ltb _ _ (let h = length-append p.secret t in omega (arith, h, k.1.0)) in
    let front : take 32 (p.secret ++ t) ≡ p.secret = subst (λ (n : ℕ). take n (p.secret ++ t) ≡ p.secret) k.1.0
    (take-append_seam p.secret t) in
    let behind : drop 32 (p.secret ++ t) ≡ t = subst (λ (n : ℕ). drop n (p.secret ++ t) ≡ t) k.1.0
    (drop-append_seam p.secret t) in
    rw k.0 (rw long (rw behind (rw (is_again 8 p.total (omega arith) k.1.1) (rw front refl))))

pub hop_again : (h : Hop) (rs : List Record) → HasHop h rs → hop_in rs ≡ Ok h
unfolding hop_in
hop_again h rs k =
    rw (amount_again h.amount (value_of 2 rs) k.amount)
    (rw (expiry_again h.expiry (value_of 4 rs) k.expiry)
    (rw (short_id_again h.next (value_of 6 rs) k.next)
    (rw (payment_again h.payment (value_of 8 rs) k.payment) refl)))

-- a payload that is spelled is read
pub payload_again : (h : Hop) (bytes : List ℕ) → SpellsHop h bytes → payload_at bytes ≡ Ok h
payload_again h bytes s = rw (stream_again known s.records bytes s.spells) (hop_again h s.records s.has)

pub same_payload : (g h : Hop) (bytes : List ℕ) → SpellsHop g bytes → SpellsHop h bytes → g ≡ h
same_payload g h bytes s t = ok_is g h (sym (payload_again g bytes s) ∙ payload_again h bytes t)

pub no_fault : (h : Hop) (f : Fault) (bytes : List ℕ) → SpellsHop h bytes → payload_at bytes ≢ Err f
no_fault h f bytes s e = let read = payload_again h bytes s in absurd cc
