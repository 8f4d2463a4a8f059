-- Values of several kinds, and bytes that are one value: what is written is read again, and what is read is spelled so.
use Rattle.std.proofs.Common.{◌≡◌, ℕ, Bool, true, false, cond, List, [], ◌∷◌, ◌++◌, length, Option, Some, None}
use Rattle.std.proofs.Common.{Result, Ok, Err, ◌==◌, refl, sym, ap, subst, ◌∙◌, append-nil, arith, inl, inr}
use Rattle.std.specs.Prelude.{IfOk}
use Rattle.std.proofs.lemmas.Bool.{eqb-true}
use Rattle.ln_bytes.proofs.Reading.{IsBytes, IsBytes-rest, Takes, chosen}
use Rattle.ln_refusals.specs.declared.refusal.Refusal.{Refusal}
use Rattle.ln_refusals.specs.declared.refusal.Refusal.TheVariants as refusal
use Rattle.ln_store.specs.Format.{Format, ◌>>=◌, ◌&◌, made, made_at}
use Rattle.ln_store.proofs.Formats.{IsLawful, both_are_lawful}
use Rattle.ln_wire.specs.Forms.{Told, told_by, kinds_at, one_of, empty, all_bytes, nothing_left, whole_in, IsSpelledBy}
use Rattle.ln_wire.specs.Forms.{Gives, HasOneForm}

-- ---- steps

then_some : {A B : Type 0} (r : Option A) (f : A → Option B) (y : B) → (r >>= f) ≡ Some y
    → (x : A) × (r ≡ Some x) × (f x ≡ Some y)
then_some (Some x) f y e = (x, refl, e)
then_some None f y e = absurd cc

abbrev here : {A : Type 0} → A → Option A
here x = Some x

some_is : {A : Type 0} (x y : A) → here x ≡ here y → x ≡ y
some_is x y e = cc

some_pair : {A : Type 0} (a c : A) (b d : List ℕ) → here {A = A × List ℕ} (a, b) ≡ here (c, d) → (a ≡ c) × (b ≡ d)
some_pair {A = A} a c b d e =
    let pair = some_is {A = A × List ℕ} (a, b) (c, d) e in
    (ap (λ (p : A × List ℕ). p.0) pair, ap (λ (p : A × List ℕ). p.1) pair)

pub also : {A B : Type 0} {f : Format A} {g : Format B} → IsLawful f → IsLawful g → IsLawful (f & g)
also {f = f} {g = g} lf lg = both_are_lawful f g lf lg

-- ---- bytes that are one value

-- what is read is spelled so and fits; what fits is read where it stands alone
pub record IsReadAlone {A : Type 0} (f : Format A) : Type 0 where
  pub takes : (bytes : List ℕ) (x : A) (rest : List ℕ) → IsBytes bytes → f.at bytes ≡ Some (x, rest)
      → Takes bytes (f.bytes x) rest × (f.fits x ≡ true)
  pub again : (x : A) → f.fits x ≡ true → f.at (f.bytes x) ≡ Some (x, [])

pub alone : {A : Type 0} (f : Format A) → IsLawful f → IsReadAlone f
alone f lf = record {
  takes = lf.takes;
  again = λ x h. ap f.at (sym (append-nil (f.bytes x))) ∙ lf.again x [] h;
}

abbrev done : {A : Type 0} → A → Result A Refusal
done x = Ok x

done_is : {A : Type 0} (x y : A) → done x ≡ done y → x ≡ y
done_is x y e = cc

none_left : (xs : List ℕ) → length xs ≡ 0 → xs ≡ []
none_left [] e = refl
none_left (x ∷ xs) e = absurd (omega arith)

only_whole : {A : Type 0} (o : Option (A × List ℕ)) (x : A) → nothing_left o ≡ Ok x → o ≡ Some (x, [])
only_whole None x e = absurd cc
only_whole {A = A} (Some p) x e =
    elim (chosen (length p.1 == 0) (Ok p.0) (Err refusal.Damaged) (Ok x) e) [
      | inl h ↦
          let same : p.0 ≡ x = done_is p.0 x h.1 in
          let none : p.1 ≡ [] = none_left p.1 (eqb-true (length p.1) 0 h.0) in
          ap (λ (y : A). Some (y, p.1)) same ∙ ap (λ (l : List ℕ). Some (x, l)) none
      | inr h ↦ absurd cc
    ]

pub read_again : {A : Type 0} (f : Format A) → IsReadAlone f → (x : A) → f.fits x ≡ true → whole_in f (f.bytes x) ≡ Ok x
read_again {A = A} f rf x h = ap (λ (o : Option (A × List ℕ)). nothing_left o) (rf.again x h)

pub spelled : {A : Type 0} (f : Format A) → IsReadAlone f → (bytes : List ℕ) (x : A) → IsBytes bytes
    → whole_in f bytes ≡ Ok x → IsSpelledBy f bytes x
spelled f rf bytes x b e =
    let t = rf.takes bytes x [] b (only_whole (f.at bytes) x e) in
    record { bytes_are = t.0.parts ∙ append-nil (f.bytes x); fits = t.1 }

pub one_form : {A : Type 0} (f : Format A) → IsReadAlone f → HasOneForm f
one_form f rf = record {
  reads_what_is_written = read_again f rf;
  spells_what_is_read = λ bytes x b e. spelled f rf bytes x b e;
}

-- what was answered is spelled so
pub found : {A : Type 0} (f : Format A) → IsReadAlone f → (r : Result A Refusal) (bytes : List ℕ) → IsBytes bytes
    → Gives (λ x. x) r (whole_in f bytes) → IfOk r (λ x. IsSpelledBy f bytes x)
found f rf (Ok x) bytes b e = spelled f rf bytes x b e
found f rf (Err d) bytes b e = tt

-- what is spelled so is answered
pub given : {A : Type 0} (f : Format A) → IsReadAlone f → (r : Result A Refusal) (bytes : List ℕ)
    → Gives (λ x. x) r (whole_in f bytes) → (x : A) → IsSpelledBy f bytes x → Gives (λ y. y) r (Ok x)
given {A = A} f rf r bytes e x s =
    subst (λ (said : Result A Refusal). Gives (λ y. y) r said)
    (ap (λ (l : List ℕ). whole_in f l) s.bytes_are ∙ read_again f rf x s.fits) e

-- ---- values of several kinds

-- a value of the kind of this number, whose fields were taken from the front of bytes
pub record IsOfKind {A : Type 0} (told : A → Told) (n : ℕ) (bytes : List ℕ) (x : A) (rest : List ℕ) : Type 0 where
  pub tag : (told x).tag ≡ n
  pub fields : Takes bytes (told x).fields rest
  pub fits : (told x).fits ≡ true

-- what is read so is of the kind of this number
pub record ReadsKind {A : Type 0} (told : A → Told) (n : ℕ) (at : List ℕ → Option (A × List ℕ)) : Type 0 where
  pub takes : (bytes : List ℕ) (x : A) (rest : List ℕ) → IsBytes bytes → at bytes ≡ Some (x, rest)
      → IsOfKind told n bytes x rest

pub kind_read : {A B : Type 0} (told : A → Told) (n : ℕ) (make : B → A) {f : Format B} → IsReadAlone f
    → ((y : B) → told (make y) ≡ told_by n f y) → ReadsKind told n (made_at make f)
kind_read {A = A} {B = B} told n make {f = f} rf is = record {
  takes = λ bytes x rest b e.
      let a = then_some (f.at bytes) (λ y. Some (make y.0, y.1)) (x, rest) e in
      let first = rf.takes bytes a.0.0 a.0.1 b a.1 in
      let same = some_pair (make a.0.0) x a.0.1 rest a.2 in
      let whole : told x ≡ told_by n f a.0.0 = ap told (sym same.0) ∙ is a.0.0 in
      record {
        tag = ap (λ (t : Told). t.tag) whole;
        fields = subst (λ (l : List ℕ). Takes bytes l rest) (sym (ap (λ (t : Told). t.fields) whole))
            (subst (λ (r : List ℕ). Takes bytes (f.bytes a.0.0) r) same.1 first.0);
        fits = ap (λ (t : Told). t.fits) whole ∙ first.1;
      };
}

pub no_kind : {A : Type 0} (told : A → Told) (n : ℕ) → ReadsKind told n (λ bytes. None)
no_kind told n = record { takes = λ bytes x rest b e. absurd cc }

pub kind_or : {A : Type 0} {told : A → Told} (n m : ℕ) {g h : List ℕ → Option (A × List ℕ)} → ReadsKind told m g
    → ReadsKind told n h → ReadsKind told n (λ bytes. cond (n == m) (g bytes) (h bytes))
kind_or {told = told} n m {g = g} {h = h} rg rh = record {
  takes = λ bytes x rest b e.
      elim (chosen (n == m) (g bytes) (h bytes) (Some (x, rest)) e) [
        | inl p ↦
            subst (λ (k : ℕ). IsOfKind told k bytes x rest) (sym (eqb-true n m p.0)) (rg.takes bytes x rest b p.1)
        | inr p ↦ rh.takes bytes x rest b p.1
      ];
}

-- the same of forms that are chosen by the kind
pub form_or : {A : Type 0} {told : A → Told} (n m : ℕ) (f g : Format A) → ReadsKind told m f.at → ReadsKind told n g.at
    → ReadsKind told n (cond (n == m) f g).at
form_or {told = told} n m f g rf rg =
    elim (n == m) as (λ b. (n == m) ≡ b → ReadsKind told n (cond b f g).at) [
      | true ↦ λ e. subst (λ (k : ℕ). ReadsKind told k f.at) (sym (eqb-true n m e)) rf
      | false ↦ λ e. rg
    ] refl

-- a byte in front of what is taken
front : (n : ℕ) (bytes text rest : List ℕ) → Takes bytes text rest → Takes (n ∷ bytes) (n ∷ text) rest
front n bytes text rest t = record { parts = ap (λ (l : List ℕ). n ∷ l) t.parts; rest_fits = t.rest_fits }

pub kinds_take : {A : Type 0} (told : A → Told) (at : ℕ → List ℕ → Option (A × List ℕ))
    → ((n : ℕ) → ReadsKind told n (at n)) → (bytes : List ℕ) (x : A) (rest : List ℕ) → IsBytes bytes
    → kinds_at at bytes ≡ Some (x, rest)
    → Takes bytes ((one_of told at).bytes x) rest × ((one_of told at).fits x ≡ true)
kinds_take told at reads [] x rest b e = absurd cc
kinds_take told at reads (n ∷ bytes) x rest b e =
    let k = (reads n).takes bytes x rest (IsBytes-rest n bytes b) e in (
      subst (λ (t : ℕ). Takes (n ∷ bytes) (t ∷ (told x).fields) rest) (sym k.tag)
          (front n bytes (told x).fields rest k.fields),
      k.fits,
    )

pub kinds_are_lawful : {A : Type 0} (told : A → Told) (at : ℕ → List ℕ → Option (A × List ℕ))
    → ((n : ℕ) → ReadsKind told n (at n))
    → ((x : A) (rest : List ℕ) → (told x).fits ≡ true → at (told x).tag ((told x).fields ++ rest) ≡ Some (x, rest))
    → IsLawful (one_of told at)
kinds_are_lawful told at reads again = record { takes = kinds_take told at reads; again = again }

pub kinds_are_read_alone : {A : Type 0} (told : A → Told) (at : ℕ → List ℕ → Option (A × List ℕ))
    → ((n : ℕ) → ReadsKind told n (at n))
    → ((x : A) → (told x).fits ≡ true → at (told x).tag (told x).fields ≡ Some (x, []))
    → IsReadAlone (one_of told at)
kinds_are_read_alone told at reads again = record { takes = kinds_take told at reads; again = again }

pub made_again : {A B : Type 0} (make : B → A) {f : Format B} → IsLawful f → (y : B) (rest : List ℕ) → f.fits y ≡ true
    → made_at make f (f.bytes y ++ rest) ≡ Some (make y, rest)
made_again {A = A} {B = B} make {f = f} lf y rest h =
    ap (λ (r : Option (B × List ℕ)). r >>= λ z. Some (make z.0, z.1)) (lf.again y rest h)

pub made_alone : {A B : Type 0} (make : B → A) {f : Format B} → IsReadAlone f → (y : B) → f.fits y ≡ true
    → made_at make f (f.bytes y) ≡ Some (make y, [])
made_alone {A = A} {B = B} make {f = f} rf y h =
    ap (λ (r : Option (B × List ℕ)). r >>= λ z. Some (make z.0, z.1)) (rf.again y h)

pub empty_is_lawful : IsLawful empty
empty_is_lawful = record {
  takes = λ bytes x rest b e.
      let same = some_pair {A = Unit {0}} tt x bytes rest e in
      (record { parts = same.1; rest_fits = subst IsBytes same.1 b }, refl);
  again = λ x rest h. refl;
}

pub all_bytes_are_read_alone : IsReadAlone all_bytes
all_bytes_are_read_alone = record {
  takes = λ bytes x rest b e.
      let same = some_pair {A = List ℕ} bytes x [] rest e in (
        record {
          parts = same.0 ∙ sym (append-nil x) ∙ ap (λ (l : List ℕ). x ++ l) same.1;
          rest_fits = subst IsBytes same.1 no_bytes;
        },
        refl,
      );
  again = λ x h. refl;
}
  where
    no_bytes : IsBytes []
    no_bytes i = omega arith

-- ---- values made of other values, where these fit

pub made_where_it_fits : {A B : Type 0} (make : B → A) (parts : A → B) (f : Format B) → IsLawful f
    → ((y : B) → f.fits y ≡ true → parts (make y) ≡ y) → ((x : A) → make (parts x) ≡ x) → IsLawful (made make parts f)
made_where_it_fits {A = A} {B = B} make parts f lf back forth = record {
  takes = λ bytes x rest b e.
      let a = then_some (f.at bytes) (λ y. Some (make y.0, y.1)) (x, rest) e in
      let first = lf.takes bytes a.0.0 a.0.1 b a.1 in
      let same = some_pair (make a.0.0) x a.0.1 rest a.2 in
      let whole : parts x ≡ a.0.0 = ap parts (sym same.0) ∙ back a.0.0 first.1 in
      subst (λ (y : B). Takes bytes (f.bytes y) rest × (f.fits y ≡ true)) (sym whole)
      (subst (λ (r : List ℕ). Takes bytes (f.bytes a.0.0) r × (f.fits a.0.0 ≡ true)) same.1 first);
  again = λ x rest h.
      ap (λ (r : Option (B × List ℕ)). r >>= λ y. Some (make y.0, y.1)) (lf.again (parts x) rest h)
      ∙ ap (λ (z : A). Some (z, rest)) (forth x);
}
