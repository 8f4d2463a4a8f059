-- What is written of a payload spells it.
use Rattle.std.proofs.Common.{◌≡◌, ℕ, List, ◌++◌, Option, Some, None, option_map, IsTrue}
use Rattle.std.proofs.Common.{false, true, ◌==◌, refl, ◌∙◌, sym, subst, Result, Ok, Err, IfOk}
use Rattle.ln_bytes.specs.Truncated.{truncated}
use Rattle.ln_bytes.specs.Tlv.{value_of, AreKnown, is_allowed, Spells}
use Rattle.ln_bytes.specs.declared.record.Record.{Record}
use Rattle.ln_forward.specs.Payload.{Hop, IsWideHop, HasHop, SpellsHop, known, record_if, hop_records, payment_bytes}

-- ---- the value of each type

skip : (t s : ℕ) (v : Option (List ℕ)) (rest : List Record) → (s == t) ≡ false
    → value_of t (record_if s v ++ rest) ≡ value_of t rest
skip t s None rest e = refl
skip t s (Some v) rest e = rw e refl

last : (t s : ℕ) (v : Option (List ℕ)) → (s == t) ≡ false → value_of t (record_if s v) ≡ None
last t s None e = refl
last t s (Some v) e = rw e refl

front : (t : ℕ) (v : Option (List ℕ)) (rest : List Record) → (t == t) ≡ true → value_of t rest ≡ None
    → value_of t (record_if t v ++ rest) ≡ v
front t None rest e none = none
front t (Some v) rest e none = rw e refl

only : (t : ℕ) (v : Option (List ℕ)) → (t == t) ≡ true → value_of t (record_if t v) ≡ v
only t None e = refl
only t (Some v) e = rw e refl

values : (h : Hop) → (value_of 2 (hop_records h) ≡ option_map truncated h.amount)
    × (value_of 4 (hop_records h) ≡ option_map truncated h.expiry) × (value_of 6 (hop_records h) ≡ h.next)
    × (value_of 8 (hop_records h) ≡ option_map payment_bytes h.payment)
values h =
    let a = option_map truncated h.amount in
    let b = option_map truncated h.expiry in
    let d = option_map payment_bytes h.payment in (
      front 2 a _ refl (skip 2 4 b _ refl ∙ skip 2 6 h.next _ refl ∙ last 2 8 d refl),
      skip 4 2 a _ refl ∙ front 4 b _ refl (skip 4 6 h.next _ refl ∙ last 4 8 d refl),
      skip 6 2 a _ refl ∙ skip 6 4 b _ refl ∙ front 6 h.next _ refl (last 6 8 d refl),
      skip 8 2 a _ refl ∙ skip 8 4 b _ refl ∙ skip 8 6 h.next _ refl ∙ only 8 d refl,
    )

pub has_hop : (h : Hop) → IsWideHop h → HasHop h (hop_records h)
has_hop h f =
    let v = values h in
    record {
      amount = (v.0, f.amount);
      expiry = (v.1, f.expiry);
      next = (v.2, f.next);
      payment = (v.3, f.payment);
    }

-- ---- each type is known

add_known : (t : ℕ) (v : Option (List ℕ)) (rest : List Record) → IsTrue (is_allowed known t) → AreKnown known rest
    → AreKnown known (record_if t v ++ rest)
add_known t None rest is are = are
add_known t (Some v) rest is are = (is, are)

one_known : (t : ℕ) (v : Option (List ℕ)) → IsTrue (is_allowed known t) → AreKnown known (record_if t v)
one_known t None is = tt
one_known t (Some v) is = (is, tt)

pub are_known : (h : Hop) → AreKnown known (hop_records h)
are_known h =
    add_known 2 (option_map truncated h.amount) _ refl (add_known 4 (option_map truncated h.expiry) _ refl
    (add_known 6 h.next _ refl (one_known 8 (option_map payment_bytes h.payment) refl)))

pub if_ok_so : {A E : Type 0} (r : Result A E) (P Q : A → Type 0) → ((a : A) → P a → Q a) → IfOk r P → IfOk r Q
if_ok_so (Ok a) P Q so p = so a p
if_ok_so (Err e) P Q so p = tt

-- what spells the records of a hop spells the hop
pub spells_hop : (h : Hop) (rs : List Record) (bytes : List ℕ) → IsWideHop h → rs ≡ hop_records h
    → Spells known rs bytes → SpellsHop h bytes
spells_hop h rs bytes wide is spells =
    record {
      records = hop_records h;
      spells = subst (λ (it : List Record). Spells known it bytes) is spells;
      has = has_hop h wide;
    }

pub known_so : (h : Hop) (rs : List Record) → rs ≡ hop_records h → AreKnown known rs
known_so h rs is = subst (λ (it : List Record). AreKnown known it) (sym is) (are_known h)
