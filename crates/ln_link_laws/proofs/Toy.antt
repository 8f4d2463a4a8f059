-- Toy keys answer as wide as the laws ask.
use Rattle.std.proofs.Common.{◌≡◌, ℕ, zero, suc, List, ◌++◌, length, replicate, ap, arith}
use Rattle.std.specs.List.{AllByRecursion}
use Rattle.std.proofs.lemmas.List.{length-append, length-replicate}
use Rattle.sha2.proofs.Facts256.{length-sha256}
use Rattle.ln_keys.specs.declared.toy_keys.ToyKeys.{ToyKeys}
use Rattle.ln_keys.specs.declared.view.View.{View}
use Rattle.ln_keys.specs.Toy.{toy_secret, toy_point, toy_signature, toy_close_signature, toy_signer}
use Rattle.ln_link_laws.specs.Handed.{AreKeys}

secrets : (seed : List ℕ) (n : ℕ) → length (toy_secret seed n) ≡ 32
unfolding toy_secret
secrets seed n = length-sha256 _

points : (secret : List ℕ) → length (toy_point secret) ≡ 33
unfolding toy_point
points secret = ap suc (length-sha256 secret)

twice : (d : List ℕ) → length d ≡ 32 → length (d ++ d) ≡ 64
twice d len = omega (arith, length-append d d, len)

signatures : (tag : List ℕ) (n : ℕ) (point : List ℕ) (v : View) → length (toy_signature tag n point v) ≡ 64
unfolding toy_signature
signatures tag n point v = twice _ (length-sha256 _)

closings : (tag : List ℕ) (fee : ℕ) → length (toy_close_signature tag fee) ≡ 64
unfolding toy_close_signature
closings tag fee = twice _ (length-sha256 _)

each : (n : ℕ) (s : List ℕ) → length s ≡ 64 → AllByRecursion (λ x. length x ≡ 64) (replicate n s)
each zero s len = tt
each (suc n) s len = (len, each n s len)

pub toy_keys : (k : ToyKeys) → AreKeys (toy_signer k)
toy_keys k = record {
  points = λ n few. points (toy_secret k.seed n);
  secrets = λ n few. secrets k.seed n;
  signatures = λ n point v few len. signatures k.tag n point v;
  htlcs = λ n point v. length-replicate (length v.htlcs) (toy_signature k.tag n point v);
  of_htlcs = λ n point v few len. each (length v.htlcs) (toy_signature k.tag n point v) (signatures k.tag n point v);
  closings = λ fee few. closings k.tag fee;
}
