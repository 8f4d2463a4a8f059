-- What the keys of a channel's two ends owe each other (BOLT 2, "Committing Updates So Far:
-- commitment_signed", "Completing the Transition to the Updated State: revoke_and_ack" and "Closing
-- Negotiation: closing_signed").
use Rattle.std.specs.Prelude.{◌≡◌, ℕ, ◌<◌, ◌≤◌, ◌^◌, List, length, true}
use Rattle.ln_keys.specs.declared.view.View.{View}
use Rattle.ln_keys.specs.Signer.{Signer}

-- What one end signs the other accepts, with a signature for each HTLC, and what secret it tells fits the point
-- that it told before, by either one's test. Its points have 33 bytes, its secrets 32.
pub record IsVerifiedBy (one other : Signer) : Type 0 where
  pub commitments : (n : ℕ) (point : List ℕ) (v : View) → n ≤ 2 ^ 48 → length point ≡ 33
      → other.accepts n point v (one.signature n point v) (one.htlc_signatures n point v) ≡ true
  pub htlcs : (n : ℕ) (point : List ℕ) (v : View) → length (one.htlc_signatures n point v) ≡ length v.htlcs
  pub closings : (fee : ℕ) → fee < 2 ^ 64 → other.accepts_close fee (one.close_signature fee) ≡ true
  pub secrets : (n : ℕ) → n ≤ 2 ^ 48 → other.fits n (one.secret_of n) (one.point_of n) ≡ true
  pub own_secrets : (n : ℕ) → n ≤ 2 ^ 48 → one.fits n (one.secret_of n) (one.point_of n) ≡ true
  pub sized_points : (n : ℕ) → n ≤ 2 ^ 48 → length (one.point_of n) ≡ 33
  pub sized_secrets : (n : ℕ) → n ≤ 2 ^ 48 → length (one.secret_of n) ≡ 32

-- each takes what the other gives
pub record ArePartners (a b : Signer) : Type 0 where
  pub there : IsVerifiedBy a b
  pub back : IsVerifiedBy b a
