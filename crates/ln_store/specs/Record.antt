-- The bytes of a record around its items, in the versions 1 and 2.
use Rattle.std.specs.Prelude.{ℕ, ◌+◌, ◌-◌, List, [], ◌∷◌, ◌++◌, length, take, drop, Bool, not, nat_lt, ◌==◌}
use Rattle.std.specs.Prelude.{◌&&◌, ◌||◌, ◌⊎◌, false}
use Rattle.std.specs.List.{list_any}
use Rattle.std.specs.Prelude.{Option, Some, None, Result, Ok, Err, if◌then◌else◌, ◌≡◌}
use Rattle.ln_bytes.specs.Answers as answers
use Rattle.ln_bytes.specs.Endian.{big_bytes, big_number}
use Rattle.ln_bytes.specs.Same.{are_same}
use Rattle.ln_refusals.specs.declared.refusal.Refusal.{Refusal}
use Rattle.ln_refusals.specs.declared.refusal.Refusal.TheVariants as refusal
use Rattle.ln_log.specs.Mark.{is_held}
use Rattle.ln_keys.specs.Hash.{payment_hash as digest}
use Rattle.ln_store.specs.declared.record.Items.{Items}
use Rattle.ln_store.specs.Items as it
use Rattle.ln_store.specs.Readable.{is_readable}

-- "LNLR"
abbrev pub magic : List ℕ
magic = 76 ∷ 78 ∷ 76 ∷ 82 ∷ []

-- the version in two bytes, the length of the body in eight, and the body
unfoldable pub unsealed : ℕ → List ℕ → List ℕ
unsealed version body = magic ++ (big_bytes 2 version ++ (big_bytes 8 (length body) ++ body))

-- and the SHA-256 of these
abbrev pub sealed : ℕ → List ℕ → List ℕ
sealed version body = unsealed version body ++ digest (unsealed version body)

-- the versions that are read
abbrev pub is_known_version : ℕ → Bool
is_known_version version = (version == 1) || (version == 2)

-- an HTLC is held
abbrev pub holds_any : Items → Bool
holds_any i = list_any (λ d. is_held d.mark) i.progress.forwards.decisions

-- no HTLC is held in a record of version 1
abbrev pub is_told_in : ℕ → Items → Bool
is_told_in version i = not (version == 1) || not (holds_any i)

-- the one spelling of a record in a version
abbrev pub spelled_in : ℕ → Items → List ℕ
spelled_in version i = sealed version (it.items.bytes i)

-- that of version 2, which is written
abbrev pub record_bytes : Items → List ℕ
record_bytes i = spelled_in 2 i

-- the bytes are a spelling of the record
abbrev pub IsSpelledBy : List ℕ → Items → Type 0
IsSpelledBy bytes i = (bytes ≡ record_bytes i) ⊎ ((bytes ≡ spelled_in 1 i) × (holds_any i ≡ false))

-- what is before the digest, and the digest
abbrev pub before_seal : List ℕ → List ℕ
before_seal bytes = take (length bytes - 32) bytes

abbrev pub seal_of : List ℕ → List ℕ
seal_of bytes = drop (length bytes - 32) bytes

-- what is before the digest begins with the magic bytes, and tells so many bytes after the head
abbrev pub begins_well : List ℕ → ℕ → Bool
begins_well front len = are_same (take 4 front) magic && (big_number 8 (drop 6 front) + 46 == len)

-- the first bytes, the length and the digest are those of a record
unfoldable pub is_sealed : List ℕ → Bool
is_sealed bytes =
    not (nat_lt (length bytes) 46)
    && (begins_well (before_seal bytes) (length bytes) && are_same (digest (before_seal bytes)) (seal_of bytes))

unfoldable pub version_of : List ℕ → ℕ
version_of bytes = big_number 2 (drop 4 (before_seal bytes))

unfoldable pub body_of : List ℕ → List ℕ
body_of bytes = drop 14 (before_seal bytes)

-- nothing follows the items, and they may be had in this version
abbrev pub only_items : ℕ → Option (Items × List ℕ) → Result Items Refusal
only_items version None = Err refusal.Damaged
only_items version (Some x) =
    if (length x.1 == 0) && (is_readable x.0 && is_told_in version x.0) then Ok x.0 else Err refusal.Damaged

-- the items of a record, or the first thing that is wrong
abbrev pub record_at : List ℕ → Result Items Refusal
record_at bytes =
    if not (is_sealed bytes) then Err refusal.Damaged
    else (if not (is_known_version (version_of bytes)) then Err refusal.Version
    else only_items (version_of bytes) (it.items.at (body_of bytes)))

-- what was answered, seen by view, is what reading gives, unless memory ran out
abbrev pub Gives : {X Y : Type 0} → (X → Y) → Result X Refusal → Result Y Refusal → Type 0
Gives view answer read = answers.Gives (λ e fault. e ≡ refusal.Memory) view read answer
