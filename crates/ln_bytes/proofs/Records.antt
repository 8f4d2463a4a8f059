-- What is read as a record is spelled so, and what is spelled so is read.
use Rattle.std.proofs.Common.{◌≡◌, ℕ, ◌^◌, ◌<◌, ◌≤◌, Bool, true, false, not, cond, List, ◌∷◌, ◌++◌, length, take, drop}
use Rattle.std.proofs.Common.{Option, Ok, Err, refl, sym, ◌∙◌, ap, subst, arith, append_assoc, nat_lt}
use Rattle.std.proofs.lemmas.Bool.{ltb-false, le-ltb, not-false}
use Rattle.std.proofs.lemmas.List.{take-append-drop, take_at, drop_at, length-append, length-take}
use Rattle.ln_bytes.specs.declared.fault.Fault.{Fault}
use Rattle.ln_bytes.specs.declared.fault.Fault.TheVariants.{TlvOrder, TlvUnknownEven, TlvLength}
use Rattle.ln_bytes.specs.declared.record.Record.{Record}
use Rattle.ln_bytes.specs.Bigsize.{bigsize, bigsize_at}
use Rattle.ln_bytes.specs.Tlv.{record_bytes, may_follow, is_allowed, Fits, value_at, record_at}
use Rattle.ln_bytes.proofs.Reading.{IsBytes, IsBytes-drop, bind_ok, guard_ok, Takes, Takes-then}
use Rattle.ln_bytes.proofs.Numbers.{IsRead, is_read, is_again}

guard_allowed : {A : Type 0} (b : Bool) (d : Fault) (x y : A) → cond b (Ok x) (Err d) ≡ Ok y → (b ≡ true) × (x ≡ y)
guard_allowed true d x y e = (refl, cc)
guard_allowed false d x y e = absurd cc

number_takes : (bytes : List ℕ) (p : ℕ × ℕ) → IsBytes bytes → bigsize_at bytes ≡ Ok p
    → Takes bytes (bigsize p.0) (drop p.1 bytes) × (p.0 < 2 ^ 64)
number_takes bytes p fits e =
    let read : IsRead p.0 p.1 bytes = is_read bytes p.0 p.1 fits e in
    (record { parts = read.parts; rest_fits = IsBytes-drop p.1 bytes fits }, read.below)

number_again : (n : ℕ) (rest : List ℕ) → n < 2 ^ 64 → (bigsize_at (bigsize n ++ rest) ≡ Ok (n, length (bigsize n)))
    × (drop (length (bigsize n)) (bigsize n ++ rest) ≡ rest)
number_again n rest below = (is_again n rest below, drop_at (bigsize n) rest (length (bigsize n)) refl)

-- ---- after a type

pub record IsValue (known : List ℕ) (typ : ℕ) (bytes : List ℕ) (x : Record × List ℕ) : Type 0 where
  pub takes : Takes bytes (bigsize (length x.0.value) ++ x.0.value) x.1
  pub typ_is : x.0.typ ≡ typ
  pub len : length x.0.value < 2 ^ 64
  pub allowed : is_allowed known typ ≡ true

value_takes : (known : List ℕ) (typ : ℕ) (bytes : List ℕ) (x : Record × List ℕ) → IsBytes bytes
    → value_at known typ bytes ≡ Ok x → IsValue known typ bytes x
unfolding value_at
value_takes known typ bytes x fits e =
    let a = bind_ok (bigsize_at bytes) (λ len. cond (nat_lt (length (drop len.1 bytes)) len.0) (Err TlvLength)
    (cond (is_allowed known typ) (Ok (
      record { typ = typ; value = take len.0 (drop len.1 bytes) },
      drop len.0 (drop len.1 bytes),
    )) (Err TlvUnknownEven))) x e in
    let n = a.0.0 in
    let rest = drop a.0.1 bytes in
    let made : Record × List ℕ = (record { typ = typ; value = take n rest }, drop n rest) in
    let g = guard_ok (nat_lt (length rest) n) TlvLength
    (cond (is_allowed known typ) (Ok made) (Err TlvUnknownEven)) x a.2 in
    let s = guard_allowed (is_allowed known typ) TlvUnknownEven made x g.1 in
    let long : n ≤ length rest = ltb-false (length rest) n g.0 in
    let len : length (take n rest) ≡ n = omega (arith, length-take n rest) in
    let first = number_takes bytes a.0 fits a.1 in
    let second : Takes rest (take n rest) (drop n rest) =
    record { parts = sym (take-append-drop n rest); rest_fits = IsBytes-drop n rest first.0.rest_fits } in
    let both = Takes-then bytes (bigsize n) rest (take n rest) (drop n rest) first.0 second in
    let whole : Takes bytes (bigsize (length (take n rest)) ++ take n rest) (drop n rest) =
    subst (λ (k : ℕ). Takes bytes (bigsize k ++ take n rest) (drop n rest)) (sym len) both in
    let below : length (take n rest) < 2 ^ 64 = rw len first.1 in
    subst (λ (y : Record × List ℕ). IsValue known typ bytes y) s.1
    (record { takes = whole; typ_is = refl; len = below; allowed = s.0 })

value_again : (known : List ℕ) (r : Record) (rest : List ℕ) → length r.value < 2 ^ 64 → is_allowed known r.typ ≡ true
    → value_at known r.typ (bigsize (length r.value) ++ (r.value ++ rest)) ≡ Ok (r, rest)
unfolding value_at
value_again known r rest below allowed =
    let n = number_again (length r.value) (r.value ++ rest) below in
    let long : nat_lt (length (r.value ++ rest)) (length r.value) ≡ false =
    le-ltb _ _ (omega (arith, length-append r.value rest)) in
    rw (
      n.0,
      n.1,
      long,
      allowed,
      take_at r.value rest (length r.value) refl,
      drop_at r.value rest (length r.value) refl,
    ) refl

-- ---- a record

pub record IsFront (known : List ℕ) (before : Option ℕ) (bytes : List ℕ) (x : Record × List ℕ) : Type 0 where
  pub takes : Takes bytes (record_bytes x.0) x.1
  pub fits : Fits x.0
  pub follows : may_follow before x.0.typ ≡ true
  pub allowed : is_allowed known x.0.typ ≡ true

front_is : (known : List ℕ) (before : Option ℕ) (bytes rest : List ℕ) (typ : ℕ) (x : Record × List ℕ)
    → Takes bytes (bigsize typ) rest → typ < 2 ^ 64 → may_follow before typ ≡ true → IsValue known typ rest x
    → IsFront known before bytes x
front_is known before bytes rest typ x first below follows v =
    let whole = Takes-then bytes (bigsize typ) rest (bigsize (length x.0.value) ++ x.0.value) x.1 first v.takes in
    let parts : Takes bytes (bigsize typ ++ bigsize (length x.0.value) ++ x.0.value) x.1 =
    subst (λ (t : List ℕ). Takes bytes t x.1) (sym
    (append_assoc (bigsize typ) (bigsize (length x.0.value)) x.0.value)) whole in
    let is : typ ≡ x.0.typ = sym v.typ_is in
    record {
      takes = subst (λ (t : ℕ). Takes bytes (bigsize t ++ bigsize (length x.0.value) ++ x.0.value) x.1) is parts;
      fits = record { typ = subst (λ (t : ℕ). t < 2 ^ 64) is below; len = v.len };
      follows = subst (λ (t : ℕ). may_follow before t ≡ true) is follows;
      allowed = subst (λ (t : ℕ). is_allowed known t ≡ true) is v.allowed;
    }

pub record_takes : (known : List ℕ) (before : Option ℕ) (bytes : List ℕ) (x : Record × List ℕ) → IsBytes bytes
    → record_at known before bytes ≡ Ok x → IsFront known before bytes x
unfolding record_at
record_takes known before bytes x fits e =
    let a = bind_ok (bigsize_at bytes) (λ typ. cond (not (may_follow before typ.0)) (Err TlvOrder)
    (value_at known typ.0 (drop typ.1 bytes))) x e in
    let g = guard_ok (not (may_follow before a.0.0)) TlvOrder (value_at known a.0.0 (drop a.0.1 bytes)) x a.2 in
    let first = number_takes bytes a.0 fits a.1 in
    let v = value_takes known a.0.0 (drop a.0.1 bytes) x first.0.rest_fits g.1 in
    front_is known before bytes (drop a.0.1 bytes) a.0.0 x first.0 first.1 (not-false _ g.0) v

pub record_again : (known : List ℕ) (before : Option ℕ) (r : Record) (rest : List ℕ) → Fits r
    → may_follow before r.typ ≡ true → is_allowed known r.typ ≡ true
    → record_at known before (record_bytes r ++ rest) ≡ Ok (r, rest)
unfolding record_at
record_again known before r rest fits follows allowed =
    let len = bigsize (length r.value) in
    let regrouped : record_bytes r ++ rest ≡ bigsize r.typ ++ (len ++ (r.value ++ rest)) =
    append_assoc (bigsize r.typ ++ len) r.value rest ∙ append_assoc (bigsize r.typ) len (r.value ++ rest) in
    let n = number_again r.typ (len ++ (r.value ++ rest)) fits.typ in
    ap (record_at known before) regrouped ∙ rw (n.0, n.1, follows, value_again known r rest fits.len allowed) refl

-- ---- a record takes some bytes

one_of_four : (a b c : Bool) (h i j k : ℕ) (s t u v : List ℕ)
    → 0 < length (cond a (h ∷ s) (cond b (i ∷ t) (cond c (j ∷ u) (k ∷ v))))
one_of_four true b c h i j k s t u v = omega arith
one_of_four false true c h i j k s t u v = omega arith
one_of_four false false true h i j k s t u v = omega arith
one_of_four false false false h i j k s t u v = omega arith

bigsize_nonempty : (n : ℕ) → 0 < length (bigsize n)
bigsize_nonempty n = one_of_four (nat_lt n 253) (nat_lt n 65536) (nat_lt n 4294967296) _ _ _ _ _ _ _ _

front_nonempty : (x y z : List ℕ) → 0 < length x → 0 < length (x ++ y ++ z)
front_nonempty x y z h = omega (arith, length-append (x ++ y) z, length-append x y)

pub record_nonempty : (r : Record) → 0 < length (record_bytes r)
record_nonempty r = front_nonempty (bigsize r.typ) (bigsize (length r.value)) r.value (bigsize_nonempty r.typ)
