-- Toy keys whose tags cross are partners.
use Rattle.std.proofs.Common.{◌≡◌, ℕ, zero, suc, List, length, replicate, true, refl, ap, subst}
use Rattle.std.specs.List.{list_all}
use Rattle.std.proofs.lemmas.Cmp.{nat_eq_equiv}
use Rattle.std.proofs.lemmas.List.{length-replicate}
use Rattle.sha2.proofs.Facts256.{length-sha256}
use Rattle.ln_bytes.specs.Same.{are_same}
use Rattle.ln_bytes.proofs.Same.{same_as_itself}
use Rattle.ln_keys.specs.declared.toy_keys.ToyKeys.{ToyKeys}
use Rattle.ln_keys.specs.declared.view.View.{View}
use Rattle.ln_keys.specs.Partners.{IsVerifiedBy, ArePartners}
use Rattle.ln_keys.specs.Toy.{toy_secret, toy_point, toy_signature, toy_htlc_signatures, toy_close_signature}
use Rattle.ln_keys.specs.Toy.{toy_accepts, toy_accepts_close, toy_signer, are_all, AreCrossed}

each : (n : ℕ) (one : List ℕ) → list_all (are_same one) (replicate n one) ≡ true
each zero one = refl
each (suc n) one = rw (same_as_itself one) (each n one)

all : (n : ℕ) (one : List ℕ) → are_all n one (replicate n one) ≡ true
all n one = rw (length-replicate n one, nat_eq_equiv.refl n) (each n one)

accepted : (t u : List ℕ) → t ≡ u → (n : ℕ) (p : List ℕ) (v : View)
    → toy_accepts u n p v (toy_signature t n p v) (toy_htlc_signatures t n p v) ≡ true
accepted t u e n p v =
    let P : List ℕ → Type 0 = λ w. toy_accepts w n p v (toy_signature t n p v) (toy_htlc_signatures t n p v) ≡ true in
    subst P e (rw (same_as_itself (toy_signature t n p v)) (all (length v.htlcs) (toy_signature t n p v)))

closed : (t u : List ℕ) → t ≡ u → (fee : ℕ) → toy_accepts_close u fee (toy_close_signature t fee) ≡ true
closed t u e fee =
    let P : List ℕ → Type 0 = λ w. toy_accepts_close w fee (toy_close_signature t fee) ≡ true in
    subst P e (same_as_itself (toy_close_signature t fee))

secret_len : (seed : List ℕ) (n : ℕ) → length (toy_secret seed n) ≡ 32
unfolding toy_secret
secret_len seed n = length-sha256 _

point_len : (secret : List ℕ) → length (toy_point secret) ≡ 33
unfolding toy_point
point_len secret = ap suc (length-sha256 secret)

verified : (a b : ToyKeys) → a.tag ≡ b.peer_tag → IsVerifiedBy (toy_signer a) (toy_signer b)
verified a b e = record {
  commitments = λ n p v _ _. accepted a.tag b.peer_tag e n p v;
  htlcs = λ n p v. length-replicate (length v.htlcs) (toy_signature a.tag n p v);
  closings = λ fee _. closed a.tag b.peer_tag e fee;
  secrets = λ n _. same_as_itself (toy_point (toy_secret a.seed n));
  own_secrets = λ n _. same_as_itself (toy_point (toy_secret a.seed n));
  sized_points = λ n _. point_len (toy_secret a.seed n);
  sized_secrets = λ n _. secret_len a.seed n;
}

pub are_partners : (a b : ToyKeys) → AreCrossed a b → ArePartners (toy_signer a) (toy_signer b)
are_partners a b crossed = record { there = verified a b crossed.0; back = verified b a crossed.1 }
