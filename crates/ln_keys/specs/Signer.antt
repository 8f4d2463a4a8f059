-- What the keys of a channel end answer, each a function of its arguments. A commitment's number is at most
-- 2 ^ 48, as BOLT 3 has it; a point has 33 bytes, a secret 32, a signature 64.
use Rattle.std.specs.Prelude.{ℕ, List, Bool}
use Rattle.ln_keys.specs.declared.view.View.{View}

pub record Signer : Type 0 where
  pub secret_of : ℕ → List ℕ  -- the per commitment secret of this number
  pub point_of : ℕ → List ℕ  -- the per commitment point of this number
  pub signature : ℕ → List ℕ → View → List ℕ  -- over the peer's commitment of a number, at its point, worth this view
  pub htlc_signatures : ℕ → List ℕ → View → List (List ℕ)  -- over the HTLCs of that commitment
  pub accepts : ℕ → List ℕ → View → List ℕ → List (List ℕ) → Bool  -- whether the peer's signatures are right
  pub fits : ℕ → List ℕ → List ℕ → Bool  -- whether a secret belongs to the point of the peer's commitment of a number
  pub close_signature : ℕ → List ℕ  -- over the closing transaction that pays this fee
  pub accepts_close : ℕ → List ℕ → Bool  -- whether the peer's signature over it is right
