-- The test of an opening.
use Rattle.std.proofs.Common.{◌≡◌, ◌*◌, Bool, true, false, ◌&&◌, nat_le, refl}
use Rattle.std.proofs.lemmas.Bool.{leb-true}
use Rattle.ln_log.specs.declared.opening.Opening.{Opening}
use Rattle.ln_log.specs.Opening.{IsFit, is_fit, most_satoshis, most_htlcs}

both_true : (a b : Bool) → (a && b) ≡ true → (a ≡ true) × (b ≡ true)
both_true true b e = (refl, e)
both_true false b e = absurd (cc)

-- an opening that passes the test is fit
pub fit_is : (o : Opening) → is_fit o ≡ true → IsFit o
fit_is o e =
    let p4 = both_true (nat_le 1 o.satoshis && nat_le o.satoshis most_satoshis && nat_le o.push (1000 * o.satoshis)
    && nat_le o.funder.accepted most_htlcs) (nat_le o.fundee.accepted most_htlcs) e in
    let p3 = both_true (nat_le 1 o.satoshis && nat_le o.satoshis most_satoshis
    && nat_le o.push (1000 * o.satoshis)) (nat_le o.funder.accepted most_htlcs) p4.0 in
    let p2 = both_true (nat_le 1 o.satoshis && nat_le o.satoshis most_satoshis)
    (nat_le o.push (1000 * o.satoshis)) p3.0 in
    let p1 = both_true (nat_le 1 o.satoshis) (nat_le o.satoshis most_satoshis) p2.0 in
    record {
      some_funds = leb-true 1 o.satoshis p1.0;
      funds = leb-true o.satoshis most_satoshis p1.1;
      push = leb-true o.push (1000 * o.satoshis) p2.1;
      funder_accepts = leb-true o.funder.accepted most_htlcs p3.1;
      fundee_accepts = leb-true o.fundee.accepted most_htlcs p4.1;
    }
