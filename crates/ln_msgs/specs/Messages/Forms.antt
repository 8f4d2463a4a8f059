-- What the program holds of a type of message, beside the table.
use Rattle.std.specs.Prelude.{◌≡◌, ℕ, ◌+◌, List, [], ◌∷◌, map, Option, Some, None}
use Rattle.ln_msgs.specs.declared.messages.form.Form.{Form}
use Rattle.ln_msgs.specs.declared.messages.form.Kind.{Kind}
use Rattle.ln_msgs.specs.declared.messages.form.Kind.TheVariants as kinds
use Rattle.ln_msgs.specs.Codec.Field.{Number, Fixed, Sized, Listed}
use Rattle.ln_msgs.specs.Codec.Field as field
use Rattle.ln_msgs.specs.Messages.Table as table
use Rattle.ln_msgs.specs.Messages.Table.{kinds_of, names_of}

-- the kind of a field
abbrev pub kind_of : Kind → field.Kind
kind_of kinds.Sized = Sized
kind_of kinds.Listed = Listed 64

-- how many bytes the fields have that have one size and stand first
abbrev pub fixed_size : List field.Kind → ℕ
fixed_size [] = 0
fixed_size (Number size ∷ ks) = size + fixed_size ks
fixed_size (Fixed size ∷ ks) = size + fixed_size ks
fixed_size (Sized ∷ ks) = 0
fixed_size (Listed size ∷ ks) = 0

-- the fields after those
abbrev pub behind_fixed : List field.Kind → List field.Kind
behind_fixed [] = []
behind_fixed (Number size ∷ ks) = behind_fixed ks
behind_fixed (Fixed size ∷ ks) = behind_fixed ks
behind_fixed (Sized ∷ ks) = Sized ∷ ks
behind_fixed (Listed size ∷ ks) = Listed size ∷ ks

-- the program's row is the one of the table
pub record IsRow (row : table.Form) (form : Form) : Type 0 where
  pub typ : form.typ ≡ row.typ
  pub name : form.name.now ≡ row.name
  pub names : map (λ n. n.now) form.fields.now ≡ names_of row
  pub fixed : form.fixed ≡ fixed_size (kinds_of row)
  pub others : map kind_of form.others.now ≡ behind_fixed (kinds_of row)
  pub known_even : form.known_even.now ≡ row.known_even
  pub lengths : form.lengths.now ≡ row.lengths

abbrev pub IsFormBy : Option table.Form → Form → ℕ → Type 0
IsFormBy None form typ = ⊥
IsFormBy (Some row) form typ = IsRow row form × (form.typ ≡ typ)

-- the program has a row where the table has one, and it is the same
abbrev pub AreFormsOf : Option table.Form → Option Form → Type 0
AreFormsOf None None = Unit {0}
AreFormsOf (Some row) (Some form) = IsRow row form
AreFormsOf None (Some form) = ⊥
AreFormsOf (Some row) None = ⊥
