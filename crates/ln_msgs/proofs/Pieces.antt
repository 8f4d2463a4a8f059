-- Reading piece by piece is reading field by field.
use Rattle.std.proofs.Common.{◌≡◌, ℕ, List, [], ◌∷◌, ◌++◌, Result, Ok, Err, cond, refl, sym, ap, ◌∙◌}
use Rattle.ln_bytes.specs.Reading.{◌>>=◌}
use Rattle.ln_bytes.specs.Tlv.{stream_at, have_lengths}
use Rattle.ln_bytes.specs.declared.fault.Fault.{Fault}
use Rattle.ln_bytes.specs.declared.fault.Fault.TheVariants.{FieldLength}
use Rattle.ln_msgs.specs.Codec.Field.{Kind, Value, field_at, fields_at}
use Rattle.ln_msgs.specs.Messages.Table.{Form, kinds_of}
use Rattle.ln_msgs.specs.Messages.Message.{Known, formed_at}
use Rattle.ln_msgs.specs.Codec.Pieces.{Piece, One, Group, kinds_in, group_at, pieces_at, pieced_at}

abbrev Parts : Type 0
Parts = Result (List Value × List ℕ) Fault

-- what was read stands before what is read then
abbrev with_value : Value → Parts → Parts
with_value v r = r >>= λ others. Ok (v ∷ others.0, others.1)

abbrev with_values : List Value → Parts → Parts
with_values vs r = r >>= λ others. Ok (vs ++ others.0, others.1)

then_same : {A B : Type 0} (r : Result A Fault) (f g : A → Result B Fault)
    → ((x : A) → f x ≡ g x) → (r >>= f) ≡ (r >>= g)
then_same (Ok x) f g same = same x
then_same (Err e) f g same = refl

alone : (r : Parts) → r ≡ with_values [] r
alone (Ok x) = refl
alone (Err e) = refl

one_more : (v : Value) (vs : List Value) (r : Parts) → with_value v (with_values vs r) ≡ with_values (v ∷ vs) r
one_more v vs (Ok x) = refl
one_more v vs (Err e) = refl

-- one field, some more, and then others
after_one : (v : Value) (ls : List Kind) (r : Parts)
    → with_value v (r >>= λ some. with_values some.0 (fields_at ls some.1))
    ≡ (with_value v r >>= λ some. with_values some.0 (fields_at ls some.1))
after_one v ls (Ok x) = one_more v x.0 (fields_at ls x.1)
after_one v ls (Err e) = refl

abbrev Splits : List Kind → List Kind → Type 0
Splits ks ls = (bytes : List ℕ) → fields_at (ks ++ ls) bytes
    ≡ (fields_at ks bytes >>= λ some. with_values some.0 (fields_at ls some.1))

first_of : (ks ls : List Kind) (r : Result (Value × List ℕ) Fault) → Splits ks ls
    → (r >>= λ x. with_value x.0 (fields_at (ks ++ ls) x.1))
    ≡ ((r >>= λ x. with_value x.0 (fields_at ks x.1)) >>= λ some. with_values some.0 (fields_at ls some.1))
first_of ks ls (Ok x) splits = ap (with_value x.0) (splits x.1) ∙ after_one x.0 ls (fields_at ks x.1)
first_of ks ls (Err e) splits = refl

splits : (ks ls : List Kind) → Splits ks ls
splits [] ls bytes = alone (fields_at ls bytes)
splits (k ∷ ks) ls bytes = first_of ks ls (field_at k bytes) (splits ks ls)

pub pieces_are : (ps : List Piece) (bytes : List ℕ) → pieces_at ps bytes ≡ fields_at (kinds_in ps) bytes
unfolding group_at
pieces_are [] bytes = refl
pieces_are (One k ∷ ps) bytes = then_same (field_at k bytes) (λ x. with_value x.0 (pieces_at ps x.1))
    (λ x. with_value x.0 (fields_at (kinds_in ps) x.1)) (λ x. ap (with_value x.0) (pieces_are ps x.1))
pieces_are (Group ks ∷ ps) bytes =
    then_same (fields_at ks bytes) (λ x. with_values x.0 (pieces_at ps x.1))
    (λ x. with_values x.0 (fields_at (kinds_in ps) x.1)) (λ x. ap (with_values x.0) (pieces_are ps x.1))
    ∙ sym (splits ks (kinds_in ps) bytes)

pub pieced_is : (ps : List Piece) (form : Form) (typ : ℕ) (bytes : List ℕ) → kinds_in ps ≡ kinds_of form
    → pieced_at ps form typ bytes ≡ formed_at form typ bytes
unfolding pieced_at formed_at
pieced_is ps form typ bytes same =
    ap (λ (r : Parts). r >>= λ values. stream_at form.known_even values.1 >>= λ records. cond
    (have_lengths form.lengths records) (Ok (Known (record { typ = typ; values = values.0; records = records })))
    (Err FieldLength))
    (pieces_are ps bytes ∙ ap (λ ks. fields_at ks bytes) same)
