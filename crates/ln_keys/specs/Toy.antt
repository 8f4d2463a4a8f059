-- What the toy keys answer. They stand in for keys in tests: they hide nothing, and any one who knows a tag
-- signs for it.
use Rattle.std.specs.Prelude.{◌≡◌, ℕ, ◌%◌, ◌^◌, Bool, ◌&&◌, ◌==◌, List, ◌∷◌, ◌++◌, length, replicate}
use Rattle.std.specs.Int.{w32, w64, to_be_bytes}
use Rattle.std.specs.List.{flat_map, list_all}
use Rattle.sha2.specs.Sha256.{sha256}
use Rattle.ln_bytes.specs.Same.{are_same}
use Rattle.ln_keys.specs.declared.role.Role.{Role}
use Rattle.ln_keys.specs.declared.role.Role.TheVariants.{Funder, Fundee}
use Rattle.ln_keys.specs.declared.view.Htlc.{Htlc}
use Rattle.ln_keys.specs.declared.view.View.{View}
use Rattle.ln_keys.specs.declared.toy_keys.ToyKeys.{ToyKeys}
use Rattle.ln_keys.specs.Signer.{Signer}

-- ---- the bytes of a view

abbrev pub owner_byte : Role → ℕ
owner_byte Funder = 0
owner_byte Fundee = 1

-- the owner in one byte, the id and the amount in eight each, the hash, the expiry in four
unfoldable pub htlc_bytes : Htlc → List ℕ
htlc_bytes h = owner_byte h.owner ∷ (to_be_bytes w64 h.id ++ to_be_bytes w64 h.amount ++ h.hash
    ++ to_be_bytes w32 h.expiry)

-- The balances in eight bytes each, the feerate and the count of HTLCs in four each. The count starts again
-- at 0 after 2 ^ 32 - 1.
unfoldable pub view_head : View → List ℕ
view_head v =
    to_be_bytes w64 v.funder ++ to_be_bytes w64 v.fundee ++ to_be_bytes w32 v.feerate
    ++ to_be_bytes w32 (length v.htlcs % 2 ^ 32)

-- that, and the HTLCs
abbrev pub view_bytes : View → List ℕ
view_bytes v = view_head v ++ flat_map htlc_bytes v.htlcs

-- ---- secrets and points

-- of a seed and a number
unfoldable pub toy_secret : List ℕ → ℕ → List ℕ
toy_secret seed n = sha256 (seed ++ to_be_bytes w64 n)

-- of a secret
unfoldable pub toy_point : List ℕ → List ℕ
toy_point secret = 2 ∷ sha256 secret

-- ---- signatures: a digest, twice

unfoldable pub toy_signature : List ℕ → ℕ → List ℕ → View → List ℕ
toy_signature tag n point v =
    let digest = sha256 ((0 ∷ tag) ++ to_be_bytes w64 n ++ point ++ view_bytes v) in digest ++ digest

unfoldable pub toy_close_signature : List ℕ → ℕ → List ℕ
toy_close_signature tag fee =
    let digest = sha256 ((1 ∷ tag) ++ to_be_bytes w64 fee) in digest ++ digest

-- each HTLC has the signature of the commitment
abbrev pub toy_htlc_signatures : List ℕ → ℕ → List ℕ → View → List (List ℕ)
toy_htlc_signatures tag n point v = replicate (length v.htlcs) (toy_signature tag n point v)

-- ---- tests

-- there are so many, and each is this one
abbrev pub are_all : ℕ → List ℕ → List (List ℕ) → Bool
are_all count one many = (length many == count) && list_all (are_same one) many

abbrev pub toy_accepts : List ℕ → ℕ → List ℕ → View → List ℕ → List (List ℕ) → Bool
toy_accepts tag n point v sig htlcs =
    are_same (toy_signature tag n point v) sig && are_all (length v.htlcs) (toy_signature tag n point v) htlcs

abbrev pub toy_fits : List ℕ → List ℕ → Bool
toy_fits secret point = are_same (toy_point secret) point

abbrev pub toy_accepts_close : List ℕ → ℕ → List ℕ → Bool
toy_accepts_close tag fee sig = are_same (toy_close_signature tag fee) sig

-- ---- all of them

abbrev pub toy_signer : ToyKeys → Signer
toy_signer k = record {
  secret_of = λ n. toy_secret k.seed n;
  point_of = λ n. toy_point (toy_secret k.seed n);
  signature = λ n point v. toy_signature k.tag n point v;
  htlc_signatures = λ n point v. toy_htlc_signatures k.tag n point v;
  accepts = λ n point v sig htlcs. toy_accepts k.peer_tag n point v sig htlcs;
  fits = λ _ secret point. toy_fits secret point;
  close_signature = λ fee. toy_close_signature k.tag fee;
  accepts_close = λ fee sig. toy_accepts_close k.peer_tag fee sig;
}

-- ---- partners

-- each signs with the tag that the other looks for
abbrev pub AreCrossed : ToyKeys → ToyKeys → Type 0
AreCrossed a b = (a.tag ≡ b.peer_tag) × (b.tag ≡ a.peer_tag)
