-- Each format reads what it writes, and nothing else.
use Rattle.std.proofs.Common.{◌≡◌, ℕ, zero, suc, ◌^◌, ◌<◌, ◌≤◌, Bool, true, false, cond, List, [], ◌∷◌, ◌++◌, length}
use Rattle.std.proofs.Common.{take, drop, Option, Some, None, nat_lt, refl, sym, ap, subst, ◌∙◌, append_assoc, arith}
use Rattle.std.proofs.Common.{◌&&◌, ◌==◌, inl, inr}
use Rattle.std.proofs.lemmas.Bool.{ltb-false, le-ltb, ltb-true, lt-ltb, eqb-true, eq-eqb}
use Rattle.std.proofs.lemmas.List.{take_at, drop_at, take-append-drop, length-append, length-take}
use Rattle.byteorder.specs.Endian.{big_bytes, big_number}
use Rattle.byteorder.specs.Numbers.{big_from-lt, big_number-reads_back, length-bytes_high_first}
use Rattle.std.specs.List.{flat_map, list_all}
use Rattle.ln_bytes.proofs.Reading.{IsBytes, IsBytes-rest, IsBytes-drop, Takes, Takes-then, chosen}
use Rattle.ln_bytes.proofs.Numbers.{bytes_back}
use Rattle.ln_store.specs.Format.{Format, ◌>>=◌, number_at, bytes_at, number, fixed, sized_at, sized, ◌&◌}
use Rattle.ln_store.specs.Format.{items_at, list, optional_at, optional, tagged_at, tagged, nothing, made_at, made}
use Rattle.ln_store.specs.Format.{kind, bytes_of_some, fits_some, found, code, is_some, only}

-- what is read is spelled so and fits, and what fits is read as it is spelled
pub record IsLawful {A : Type 0} (f : Format A) : Type 0 where
  pub takes : (bytes : List ℕ) (x : A) (rest : List ℕ) → IsBytes bytes → f.at bytes ≡ Some (x, rest)
      → Takes bytes (f.bytes x) rest × (f.fits x ≡ true)
  pub again : (x : A) (rest : List ℕ) → f.fits x ≡ true → f.at (f.bytes x ++ rest) ≡ Some (x, rest)

-- ---- steps

then_some : {A B : Type 0} (r : Option A) (f : A → Option B) (y : B) → (r >>= f) ≡ Some y
    → (x : A) × (r ≡ Some x) × (f x ≡ Some y)
then_some (Some x) f y e = (x, refl, e)
then_some None f y e = absurd cc

abbrev here : {A : Type 0} → A → Option A
here x = Some x

some_is : {A : Type 0} (x y : A) → here x ≡ here y → x ≡ y
some_is x y e = cc

some_pair : {A B : Type 0} (a c : A) (b d : B) → here {A = A × B} (a, b) ≡ here (c, d) → (a ≡ c) × (b ≡ d)
some_pair {A = A} {B = B} a c b d e =
    let pair = some_is {A = A × B} (a, b) (c, d) e in
    (ap (λ (p : A × B). p.0) pair, ap (λ (p : A × B). p.1) pair)

guard_some : {A : Type 0} (b : Bool) (r : Option A) (y : A) → cond b None r ≡ Some y → (b ≡ false) × (r ≡ Some y)
guard_some true r y e = absurd cc
guard_some false r y e = (refl, e)

passed : {A : Type 0} (b : Bool) (r : Option A) (y : A) → cond b r None ≡ Some y → (b ≡ true) × (r ≡ Some y)
passed true r y e = (refl, e)
passed false r y e = absurd cc

pub both_true : (a b : Bool) → (a && b) ≡ true → (a ≡ true) × (b ≡ true)
both_true true b e = (refl, e)
both_true false b e = absurd cc

pub true_both : (a b : Bool) → a ≡ true → b ≡ true → (a && b) ≡ true
true_both true b p q = q
true_both false b p q = absurd cc

-- ---- numbers and bytes

number_takes : (size : ℕ) (bytes : List ℕ) (n : ℕ) (rest : List ℕ) → IsBytes bytes
    → number_at size bytes ≡ Some (n, rest)
    → Takes bytes (big_bytes size n) rest × (n < 256 ^ size)
number_takes size bytes n rest b e =
    let g = guard_some (nat_lt (length bytes) size) (Some (big_number size bytes, drop size bytes)) (n, rest) e in
    let long : size ≤ length bytes = ltb-false (length bytes) size g.0 in
    let same = some_pair (big_number size bytes) n (drop size bytes) rest g.1 in
    subst (λ (m : ℕ). Takes bytes (big_bytes size m) rest × (m < 256 ^ size)) same.0
    (subst (λ (r : List ℕ). Takes bytes (big_bytes size (big_number size bytes)) r
    × (big_number size bytes < 256 ^ size)) same.1 (
      record {
        parts = sym (ap (λ l. l ++ drop size bytes) (bytes_back size bytes b long) ∙ take-append-drop size bytes);
        rest_fits = IsBytes-drop size bytes b;
      },
      big_from-lt 0 size bytes b,
    ))

number_again : (size n : ℕ) (rest : List ℕ) → n < 256 ^ size
    → number_at size (big_bytes size n ++ rest) ≡ Some (n, rest)
number_again size n rest below =
    let len = length-bytes_high_first size n in
    let long : nat_lt (length (big_bytes size n ++ rest)) size ≡ false =
    le-ltb _ _ (omega (arith, length-append (big_bytes size n) rest)) in
    rw (long, big_number-reads_back size n rest below, drop_at (big_bytes size n) rest size len) refl

bytes_take : (size : ℕ) (bytes x rest : List ℕ) → IsBytes bytes → bytes_at size bytes ≡ Some (x, rest)
    → Takes bytes x rest × (length x ≡ size)
bytes_take size bytes x rest b e =
    let g = guard_some (nat_lt (length bytes) size) (Some (take size bytes, drop size bytes)) (x, rest) e in
    let long : size ≤ length bytes = ltb-false (length bytes) size g.0 in
    let same = some_pair (take size bytes) x (drop size bytes) rest g.1 in
    subst (λ (y : List ℕ). Takes bytes y rest × (length y ≡ size)) same.0
    (subst (λ (r : List ℕ). Takes bytes (take size bytes) r × (length (take size bytes) ≡ size)) same.1 (
      record { parts = sym (take-append-drop size bytes); rest_fits = IsBytes-drop size bytes b },
      omega (arith, length-take size bytes),
    ))

bytes_again : (bytes rest : List ℕ) → bytes_at (length bytes) (bytes ++ rest) ≡ Some (bytes, rest)
bytes_again bytes rest =
    let long : nat_lt (length (bytes ++ rest)) (length bytes) ≡ false =
    le-ltb _ _ (omega (arith, length-append bytes rest)) in
    rw (long, take_at bytes rest (length bytes) refl, drop_at bytes rest (length bytes) refl) refl

pub number_is_lawful : (size : ℕ) → IsLawful (number size)
number_is_lawful size = record {
  takes = λ bytes n rest b e. let t = number_takes size bytes n rest b e in (t.0, lt-ltb n (256 ^ size) t.1);
  again = λ n rest h. number_again size n rest (ltb-true n (256 ^ size) h);
}

pub fixed_is_lawful : (size : ℕ) → IsLawful (fixed size)
fixed_is_lawful size = record {
  takes = λ bytes x rest b e. let t = bytes_take size bytes x rest b e in (t.0, eq-eqb (length x) size t.1);
  again = λ x rest h.
      subst (λ (n : ℕ). bytes_at n (x ++ rest) ≡ Some (x, rest)) (eqb-true (length x) size h) (bytes_again x rest);
}

sized_takes : (size : ℕ) (bytes x rest : List ℕ) → IsBytes bytes → sized_at size bytes ≡ Some (x, rest)
    → Takes bytes (big_bytes size (length x) ++ x) rest × (length x < 256 ^ size)
sized_takes size bytes x rest b e =
    let a = then_some (number_at size bytes) (λ len. bytes_at len.0 len.1) (x, rest) e in
    let first = number_takes size bytes a.0.0 a.0.1 b a.1 in
    let second = bytes_take a.0.0 a.0.1 x rest first.0.rest_fits a.2 in
    let both = Takes-then bytes (big_bytes size a.0.0) a.0.1 x rest first.0 second.0 in (
      subst (λ (n : ℕ). Takes bytes (big_bytes size n ++ x) rest) (sym second.1) both,
      subst (λ (n : ℕ). n < 256 ^ size) (sym second.1) first.1,
    )

sized_again : (size : ℕ) (x rest : List ℕ) → length x < 256 ^ size
    → sized_at size ((big_bytes size (length x) ++ x) ++ rest) ≡ Some (x, rest)
sized_again size x rest below =
    ap (λ (l : List ℕ). number_at size l >>= λ len. bytes_at len.0 len.1)
    (append_assoc (big_bytes size (length x)) x rest)
    ∙ ap (λ (r : Option (ℕ × List ℕ)). r >>= λ len. bytes_at len.0 len.1)
    (number_again size (length x) (x ++ rest) below)
    ∙ bytes_again x rest

pub sized_is_lawful : (size : ℕ) → IsLawful (sized size)
sized_is_lawful size = record {
  takes = λ bytes x rest b e. let t = sized_takes size bytes x rest b e in (t.0, lt-ltb (length x) (256 ^ size) t.1);
  again = λ x rest h. sized_again size x rest (ltb-true (length x) (256 ^ size) h);
}

-- ---- one after the other

pub both_are_lawful : {A B : Type 0} (f : Format A) (g : Format B) → IsLawful f → IsLawful g → IsLawful (f & g)
both_are_lawful {A = A} {B = B} f g lf lg = record {
  takes = λ bytes p rest b e.
      let a = then_some (f.at bytes) (λ x. g.at x.1 >>= λ y. Some ((x.0, y.0), y.1)) (p, rest) e in
      let c = then_some (g.at a.0.1) (λ y. Some ((a.0.0, y.0), y.1)) (p, rest) a.2 in
      let first = lf.takes bytes a.0.0 a.0.1 b a.1 in
      let second = lg.takes a.0.1 c.0.0 c.0.1 first.0.rest_fits c.1 in
      let same = some_pair {A = A × B} (a.0.0, c.0.0) p c.0.1 rest c.2 in
      subst (λ (q : A × B). Takes bytes (f.bytes q.0 ++ g.bytes q.1) rest × ((f.fits q.0 && g.fits q.1) ≡ true)) same.0
      (subst (λ (r : List ℕ). Takes bytes (f.bytes a.0.0 ++ g.bytes c.0.0) r
      × ((f.fits a.0.0 && g.fits c.0.0) ≡ true)) same.1 (
        Takes-then bytes (f.bytes a.0.0) a.0.1 (g.bytes c.0.0) c.0.1 first.0 second.0,
        true_both (f.fits a.0.0) (g.fits c.0.0) first.1 second.1,
      ));
  again = λ p rest h.
      let fit = both_true (f.fits p.0) (g.fits p.1) h in
      ap (λ (l : List ℕ). f.at l >>= λ x. g.at x.1 >>= λ y. Some ((x.0, y.0), y.1))
      (append_assoc (f.bytes p.0) (g.bytes p.1) rest)
      ∙ ap (λ (r : Option (A × List ℕ)). r >>= λ x. g.at x.1 >>= λ y. Some ((x.0, y.0), y.1))
      (lf.again p.0 (g.bytes p.1 ++ rest) fit.0)
      ∙ ap (λ (r : Option (B × List ℕ)). r >>= λ y. Some ((p.0, y.0), y.1)) (lg.again p.1 rest fit.1);
}

items_take : {A : Type 0} (f : Format A) → IsLawful f → (count : ℕ) (bytes : List ℕ) (xs : List A) (rest : List ℕ)
    → IsBytes bytes → items_at f count bytes ≡ Some (xs, rest)
    → Takes bytes (flat_map f.bytes xs) rest × (length xs ≡ count) × (list_all f.fits xs ≡ true)
unfolding items_at
items_take {A = A} f lf zero bytes xs rest b e =
    let same = some_pair {A = List A} [] xs bytes rest e in
    subst (λ (ys : List A). Takes bytes (flat_map f.bytes ys) rest × (length ys ≡ 0)
    × (list_all f.fits ys ≡ true)) same.0
    (record { parts = same.1; rest_fits = subst IsBytes same.1 b }, refl, refl)
items_take {A = A} f lf (suc count) bytes xs rest b e =
    let a = then_some (f.at bytes) (λ first. items_at f count first.1 >>= λ others. Some
    (first.0 ∷ others.0, others.1)) (xs, rest) e in
    let c = then_some (items_at f count a.0.1) (λ others. Some (a.0.0 ∷ others.0, others.1)) (xs, rest) a.2 in
    let first = lf.takes bytes a.0.0 a.0.1 b a.1 in
    let second = items_take f lf count a.0.1 c.0.0 c.0.1 first.0.rest_fits c.1 in
    let same = some_pair {A = List A} (a.0.0 ∷ c.0.0) xs c.0.1 rest c.2 in
    subst (λ (ys : List A). Takes bytes (flat_map f.bytes ys) rest × (length ys ≡ suc count)
    × (list_all f.fits ys ≡ true)) same.0
    (subst (λ (r : List ℕ). Takes bytes (flat_map f.bytes (a.0.0 ∷ c.0.0)) r × (length (a.0.0 ∷ c.0.0) ≡ suc count)
    × (list_all f.fits (a.0.0 ∷ c.0.0) ≡ true)) same.1 (
      Takes-then bytes (f.bytes a.0.0) a.0.1 (flat_map f.bytes c.0.0) c.0.1 first.0 second.0,
      ap suc second.1,
      true_both (f.fits a.0.0) (list_all f.fits c.0.0) first.1 second.2,
    ))

items_again : {A : Type 0} (f : Format A) → IsLawful f → (xs : List A) (rest : List ℕ) → list_all f.fits xs ≡ true
    → items_at f (length xs) (flat_map f.bytes xs ++ rest) ≡ Some (xs, rest)
unfolding items_at
items_again f lf [] rest h = refl
items_again {A = A} f lf (x ∷ xs) rest h =
    let fit = both_true (f.fits x) (list_all f.fits xs) h in
    ap (items_at f (suc (length xs))) (append_assoc (f.bytes x) (flat_map f.bytes xs) rest)
    ∙ ap (λ (r : Option (A × List ℕ)). r >>= λ first. items_at f (length xs) first.1 >>= λ others. Some
    (first.0 ∷ others.0, others.1)) (lf.again x (flat_map f.bytes xs ++ rest) fit.0)
    ∙ ap (λ (r : Option (List A × List ℕ)). r >>= λ others. Some (x ∷ others.0, others.1))
    (items_again f lf xs rest fit.1)

pub list_is_lawful : {A : Type 0} (f : Format A) → IsLawful f → IsLawful (list f)
list_is_lawful {A = A} f lf = record {
  takes = λ bytes xs rest b e.
      let a = then_some (number_at 8 bytes) (λ count. items_at f count.0 count.1) (xs, rest) e in
      let first = number_takes 8 bytes a.0.0 a.0.1 b a.1 in
      let second = items_take f lf a.0.0 a.0.1 xs rest first.0.rest_fits a.2 in
      let both = Takes-then bytes (big_bytes 8 a.0.0) a.0.1 (flat_map f.bytes xs) rest first.0 second.0 in (
        subst (λ (n : ℕ). Takes bytes (big_bytes 8 n ++ flat_map f.bytes xs) rest) (sym second.1) both,
        true_both (nat_lt (length xs) (256 ^ 8)) (list_all f.fits xs)
            (lt-ltb (length xs) (256 ^ 8) (subst (λ (n : ℕ). n < 256 ^ 8) (sym second.1) first.1)) second.2,
      );
  again = λ xs rest h.
      let fit = both_true (nat_lt (length xs) (256 ^ 8)) (list_all f.fits xs) h in
      ap (λ (l : List ℕ). number_at 8 l >>= λ count. items_at f count.0 count.1)
      (append_assoc (big_bytes 8 (length xs)) (flat_map f.bytes xs) rest)
      ∙ ap (λ (r : Option (ℕ × List ℕ)). r >>= λ count. items_at f count.0 count.1)
      (number_again 8 (length xs) (flat_map f.bytes xs ++ rest) (ltb-true (length xs) (256 ^ 8) fit.0))
      ∙ items_again f lf xs rest fit.1;
}

-- ---- one of several

-- a byte in front of what is taken
front : (n : ℕ) (bytes text rest : List ℕ) → Takes bytes text rest → Takes (n ∷ bytes) (n ∷ text) rest
front n bytes text rest t = record { parts = ap (λ (l : List ℕ). n ∷ l) t.parts; rest_fits = t.rest_fits }

optional_takes : {A : Type 0} (f : Format A) → IsLawful f
    → (bytes : List ℕ) (o : Option A) (rest : List ℕ) → IsBytes bytes
    → optional_at f bytes ≡ Some (o, rest) → Takes bytes ((optional f).bytes o) rest × ((optional f).fits o ≡ true)
optional_takes f lf [] o rest b e = absurd cc
optional_takes {A = A} f lf (tag ∷ bytes) o rest b e =
    elim (chosen (tag == 0) (Some (None, bytes)) _ (Some (o, rest)) e) [
      | inl h ↦
          let same = some_pair {A = Option A} None o bytes rest h.1 in
          subst (λ (t : ℕ). Takes (t ∷ bytes) ((optional f).bytes o) rest × ((optional f).fits o ≡ true))
          (sym (eqb-true tag 0 h.0))
          (subst (λ (p : Option A). Takes (0 ∷ bytes) ((optional f).bytes p) rest
          × ((optional f).fits p ≡ true)) same.0 (
            record {
              parts = ap (λ (l : List ℕ). 0 ∷ l) same.1;
              rest_fits = subst IsBytes same.1 (IsBytes-rest tag bytes b);
            },
            refl,
          ))
      | inr h ↦
          let g = passed (tag == 1) (f.at bytes >>= λ x. Some (Some x.0, x.1)) (o, rest) h.1 in
          let a = then_some (f.at bytes) (λ x. Some (Some x.0, x.1)) (o, rest) g.1 in
          let first = lf.takes bytes a.0.0 a.0.1 (IsBytes-rest tag bytes b) a.1 in
          let same = some_pair {A = Option A} (Some a.0.0) o a.0.1 rest a.2 in
          subst (λ (t : ℕ). Takes (t ∷ bytes) ((optional f).bytes o) rest × ((optional f).fits o ≡ true))
          (sym (eqb-true tag 1 g.0))
          (subst (λ (p : Option A). Takes (1 ∷ bytes) ((optional f).bytes p) rest × ((optional f).fits p ≡ true)) same.0
          (subst (λ (r : List ℕ). Takes (1 ∷ bytes) ((optional f).bytes (Some a.0.0)) r
          × ((optional f).fits (Some a.0.0) ≡ true)) same.1
          (front 1 bytes (f.bytes a.0.0) a.0.1 first.0, first.1)))
    ]

optional_again : {A : Type 0} (f : Format A) → IsLawful f → (o : Option A) (rest : List ℕ) → (optional f).fits o ≡ true
    → optional_at f ((optional f).bytes o ++ rest) ≡ Some (o, rest)
optional_again f lf None rest h = refl
optional_again {A = A} f lf (Some x) rest h =
    ap (λ (r : Option (A × List ℕ)). r >>= λ y. Some (Some y.0, y.1)) (lf.again x rest h)

pub optional_is_lawful : {A : Type 0} (f : Format A) → IsLawful f → IsLawful (optional f)
optional_is_lawful f lf = record { takes = optional_takes f lf; again = optional_again f lf }

tagged_takes : {A : Type 0} (tag : A → ℕ) (forms : ℕ → Format A) → ((n : ℕ) → IsLawful (forms n))
    → ((n : ℕ) (x : A) → (forms n).fits x ≡ true → tag x ≡ n) → (bytes : List ℕ) (x : A) (rest : List ℕ) → IsBytes bytes
    → tagged_at forms bytes ≡ Some (x, rest)
    → Takes bytes ((tagged tag forms).bytes x) rest × ((tagged tag forms).fits x ≡ true)
tagged_takes tag forms lf own [] x rest b e = absurd cc
tagged_takes {A = A} tag forms lf own (n ∷ bytes) x rest b e =
    let first = (lf n).takes bytes x rest (IsBytes-rest n bytes b) e in
    subst (λ (t : ℕ). Takes (n ∷ bytes) (t ∷ (forms t).bytes x) rest × ((forms t).fits x ≡ true))
    (sym (own n x first.1)) (front n bytes ((forms n).bytes x) rest first.0, first.1)

pub tagged_is_lawful : {A : Type 0} (tag : A → ℕ) (forms : ℕ → Format A) → ((n : ℕ) → IsLawful (forms n))
    → ((n : ℕ) (x : A) → (forms n).fits x ≡ true → tag x ≡ n) → IsLawful (tagged tag forms)
tagged_is_lawful tag forms lf own = record {
  takes = tagged_takes tag forms lf own;
  again = λ x rest h. (lf (tag x)).again x rest h;
}

pub nothing_is_lawful : {A : Type 0} → IsLawful (nothing {A = A})
nothing_is_lawful = record { takes = λ bytes x rest b e. absurd cc; again = λ x rest h. absurd cc }

-- ---- values made of other values

pub made_is_lawful : {A B : Type 0} (make : B → A) (parts : A → B) (f : Format B) → IsLawful f
    → ((y : B) → parts (make y) ≡ y) → ((x : A) → make (parts x) ≡ x) → IsLawful (made make parts f)
made_is_lawful {A = A} {B = B} make parts f lf back forth = record {
  takes = λ bytes x rest b e.
      let a = then_some (f.at bytes) (λ y. Some (make y.0, y.1)) (x, rest) e in
      let first = lf.takes bytes a.0.0 a.0.1 b a.1 in
      let same = some_pair (make a.0.0) x a.0.1 rest a.2 in
      let whole : parts x ≡ a.0.0 = ap parts (sym same.0) ∙ back a.0.0 in
      subst (λ (y : B). Takes bytes (f.bytes y) rest × (f.fits y ≡ true)) (sym whole)
      (subst (λ (r : List ℕ). Takes bytes (f.bytes a.0.0) r × (f.fits a.0.0 ≡ true)) same.1 first);
  again = λ x rest h.
      ap (λ (r : Option (B × List ℕ)). r >>= λ y. Some (make y.0, y.1)) (lf.again (parts x) rest h)
      ∙ ap (λ (z : A). Some (z, rest)) (forth x);
}

some_fits : {B : Type 0} (f : Format B) (o : Option B) → fits_some f o ≡ true
    → (y : B) × (o ≡ Some y) × (f.fits y ≡ true)
some_fits f None h = absurd cc
some_fits f (Some y) h = (y, refl, h)

pub kind_is_lawful : {A B : Type 0} (make : B → A) (parts : A → Option B) (f : Format B) → IsLawful f
    → ((y : B) → parts (make y) ≡ Some y) → ((x : A) (y : B) → parts x ≡ Some y → make y ≡ x)
    → IsLawful (kind make parts f)
kind_is_lawful {A = A} {B = B} make parts f lf back forth = record {
  takes = λ bytes x rest b e.
      let a = then_some (f.at bytes) (λ y. Some (make y.0, y.1)) (x, rest) e in
      let first = lf.takes bytes a.0.0 a.0.1 b a.1 in
      let same = some_pair (make a.0.0) x a.0.1 rest a.2 in
      let whole : parts x ≡ Some a.0.0 = ap parts (sym same.0) ∙ back a.0.0 in
      subst (λ (o : Option B). Takes bytes (bytes_of_some f o) rest × (fits_some f o ≡ true)) (sym whole)
      (subst (λ (r : List ℕ). Takes bytes (f.bytes a.0.0) r × (f.fits a.0.0 ≡ true)) same.1 first);
  again = λ x rest h.
      let y = some_fits f (parts x) h in
      ap (λ (o : Option B). made_at make f (bytes_of_some f o ++ rest)) y.1
      ∙ ap (λ (r : Option (B × List ℕ)). r >>= λ z. Some (make z.0, z.1)) (lf.again y.0 rest y.2)
      ∙ ap (λ (z : A). Some (z, rest)) (forth x y.0 y.1);
}

found_is : {A : Type 0} (o : Option A) (rest : List ℕ) (x : A) (end : List ℕ) → found o rest ≡ Some (x, end)
    → (o ≡ Some x) × (rest ≡ end)
found_is None rest x end e = absurd cc
found_is {A = A} (Some y) rest x end e =
    let same = some_pair y x rest end e in (ap (λ (z : A). Some z) same.0, same.1)

code_again : {A : Type 0} (x : A) (o : Option A) (rest : List ℕ) → ((y : A) → o ≡ Some y → y ≡ x) → is_some o ≡ true
    → found o rest ≡ Some (x, rest)
code_again x None rest same h = absurd cc
code_again {A = A} x (Some y) rest same h = ap (λ (z : A). Some (z, rest)) (same y refl)

pub code_is_lawful : {A : Type 0} (size : ℕ) (number_of : A → ℕ) (meaning : ℕ → Option A)
    → ((n : ℕ) (x : A) → n < 256 ^ size → meaning n ≡ Some x → number_of x ≡ n)
    → ((x y : A) → meaning (number_of x) ≡ Some y → y ≡ x) → IsLawful (code size number_of meaning)
code_is_lawful {A = A} size number_of meaning back forth = record {
  takes = λ bytes x rest b e.
      let a = then_some (number_at size bytes) (λ n. found (meaning n.0) n.1) (x, rest) e in
      let first = number_takes size bytes a.0.0 a.0.1 b a.1 in
      let f = found_is (meaning a.0.0) a.0.1 x rest a.2 in
      let is : number_of x ≡ a.0.0 = back a.0.0 x first.1 f.0 in
      subst (λ (n : ℕ). Takes bytes (big_bytes size n) rest
      × ((nat_lt n (256 ^ size) && is_some (meaning n)) ≡ true)) (sym is) (
        subst (λ (r : List ℕ). Takes bytes (big_bytes size a.0.0) r) f.1 first.0,
        true_both _ _ (lt-ltb a.0.0 (256 ^ size) first.1) (ap is_some f.0),
      );
  again = λ x rest h.
      let fit = both_true (nat_lt (number_of x) (256 ^ size)) (is_some (meaning (number_of x))) h in
      ap (λ (r : Option (ℕ × List ℕ)). r >>= λ n. found (meaning n.0) n.1)
      (number_again size (number_of x) rest (ltb-true _ _ fit.0))
      ∙ code_again x (meaning (number_of x)) rest (forth x) fit.1;
}

pub only_is_lawful : {A : Type 0} (test : A → Bool) (f : Format A) → IsLawful f → IsLawful (only test f)
only_is_lawful {A = A} test f lf = record {
  takes = λ bytes x rest b e.
      let a = then_some (f.at bytes) (λ y. cond (test y.0) (Some y) None) (x, rest) e in
      let first = lf.takes bytes a.0.0 a.0.1 b a.1 in
      let p = passed (test a.0.0) (Some a.0) (x, rest) a.2 in
      let same = some_pair a.0.0 x a.0.1 rest p.1 in
      subst (λ (y : A). Takes bytes (f.bytes y) rest × ((f.fits y && test y) ≡ true)) same.0
      (subst (λ (r : List ℕ). Takes bytes (f.bytes a.0.0) r × ((f.fits a.0.0 && test a.0.0) ≡ true)) same.1
      (first.0, true_both (f.fits a.0.0) (test a.0.0) first.1 p.0));
  again = λ x rest h.
      let fit = both_true (f.fits x) (test x) h in
      ap (λ (r : Option (A × List ℕ)). r >>= λ y. cond (test y.0) (Some y) None) (lf.again x rest fit.0)
      ∙ ap (λ (t : Bool). cond t (Some (x, rest)) None) fit.1;
}
