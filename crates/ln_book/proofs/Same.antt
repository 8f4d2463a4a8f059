-- What compares as equal is equal, and is what compares so.
use Rattle.std.proofs.Common.{◌≡◌, ℕ, List, Bool, true, false, Option, Some, None, refl, ap, ◌∙◌}
use Rattle.std.specs.Prelude.{◌&&◌}
use Rattle.std.specs.Option.{option_eq}
use Rattle.std.proofs.Math.Dec.{eqb}
use Rattle.std.proofs.lemmas.Bool.{eqb-true, eq-eqb}
use lib.Pointwise.{pointwise, bytes_decides}
use mathlib.Core.Bool.{beq}
use Rattle.ln_book.specs.declared.switch.uses.Use.{Use}

both : (a b : Bool) → (a && b) ≡ true → (a ≡ true) × (b ≡ true)
both true b e = (refl, e)
both false b e = (e, cc)

same-id : (x y : Option (List ℕ)) → option_eq (pointwise eqb) x y ≡ true → x ≡ y
same-id None None e = refl
same-id None (Some y) e = cc
same-id (Some x) None e = cc
same-id (Some x) (Some y) e = ap Some ((bytes_decides x y).0 e)

id-again : (x : Option (List ℕ)) → option_eq (pointwise eqb) x x ≡ true
id-again None = refl
id-again (Some x) = (bytes_decides x x).1 refl

same-takes : (x y : Bool) → beq x y ≡ true → x ≡ y
same-takes true true e = refl
same-takes false false e = refl
same-takes true false e = cc
same-takes false true e = cc

takes-again : (x : Bool) → beq x x ≡ true
takes-again true = refl
takes-again false = refl

-- what two of them are compared by
abbrev pub alike : Use → Use → Bool
alike a b = pointwise eqb a.channel b.channel && (option_eq (pointwise eqb) a.short_id b.short_id
    && (eqb a.minimum b.minimum && beq a.takes b.takes))

pub same-use : (a b : Use) → alike a b ≡ true → a ≡ b
same-use a b e =
    let p = both (pointwise eqb a.channel b.channel) (option_eq (pointwise eqb) a.short_id b.short_id
    && (eqb a.minimum b.minimum && beq a.takes b.takes)) e in
    let q = both (option_eq (pointwise eqb) a.short_id b.short_id) (eqb a.minimum b.minimum && beq a.takes b.takes)
    p.1 in
    let r = both (eqb a.minimum b.minimum) (beq a.takes b.takes) q.1 in
    let c = (bytes_decides a.channel b.channel).0 p.0 in
    let i = same-id a.short_id b.short_id q.0 in
    let m = eqb-true a.minimum b.minimum r.0 in
    let t = same-takes a.takes b.takes r.1 in
    ap (λ (x : List ℕ). record { channel = x; short_id = a.short_id; minimum = a.minimum; takes = a.takes }) c
    ∙ ap (λ (x : Option (List ℕ)). record { channel = b.channel; short_id = x; minimum = a.minimum; takes = a.takes }) i
    ∙ ap (λ (x : ℕ). record { channel = b.channel; short_id = b.short_id; minimum = x; takes = a.takes }) m
    ∙ ap (λ (x : Bool). record { channel = b.channel; short_id = b.short_id; minimum = b.minimum; takes = x }) t

pub alike-again : (a : Use) → alike a a ≡ true
alike-again a =
    ap (λ z. z && (option_eq (pointwise eqb) a.short_id a.short_id
    && (eqb a.minimum a.minimum && beq a.takes a.takes))) ((bytes_decides a.channel a.channel).1 refl)
    ∙ ap (λ z. z && (eqb a.minimum a.minimum && beq a.takes a.takes)) (id-again a.short_id)
    ∙ ap (λ z. z && beq a.takes a.takes) (eq-eqb a.minimum a.minimum refl) ∙ takes-again a.takes
