-- The fields of a message as the program hands them out: their kinds, values and bytes.
use Rattle.std.specs.Prelude.{◌≡◌, ℕ, List, length, map, Option, Some, None}
use Rattle.std.specs.List.{flat_map}
use Rattle.ln_msgs.specs.declared.messages.item.Field.{Field}
use Rattle.ln_msgs.specs.declared.messages.item.Item.{Item}
use Rattle.ln_msgs.specs.declared.messages.item.Item.TheVariants as items
use Rattle.ln_msgs.specs.Codec.Field.{Kind, Number, Value, Num, Str, Many, value_bytes}
use Rattle.ln_msgs.specs.Codec.Field as kinds
use Rattle.ln_msgs.specs.Messages.Table.{Form, kinds_of, names_of, form_of}
use Rattle.ln_msgs.specs.Messages.Message.{Wire}

abbrev pub kind_of : Item → Kind
kind_of (items.U8 n) = Number 1
kind_of (items.U16 n) = Number 2
kind_of (items.U32 n) = Number 4
kind_of (items.U64 n) = Number 8
kind_of (items.Fixed bytes) = kinds.Fixed (length bytes.now)
kind_of (items.Sized bytes) = kinds.Sized
kind_of (items.Listed list) = kinds.Listed 64

abbrev pub value_of : Item → Value
value_of (items.U8 n) = Num n
value_of (items.U16 n) = Num n
value_of (items.U32 n) = Num n
value_of (items.U64 n) = Num n
value_of (items.Fixed bytes) = Str bytes.now
value_of (items.Sized bytes) = Str bytes.now
value_of (items.Listed list) = Many list.now

abbrev pub item_bytes : Item → List ℕ
item_bytes i = value_bytes (kind_of i) (value_of i)

-- the values one after the other
abbrev pub items_bytes : List Item → List ℕ
items_bytes is = flat_map item_bytes is

-- these are the values of the message's fields, by its form
pub record AreItemsOf (form : Form) (w : Wire) (is : List Item) : Type 0 where
  pub kinds : map kind_of is ≡ kinds_of form
  pub values : map value_of is ≡ w.values

abbrev pub AreItemsBy : Option Form → Wire → List Item → Type 0
AreItemsBy None w is = ⊥
AreItemsBy (Some form) w is = AreItemsOf form w is

-- these are the fields of the message with their names, by its form
pub record AreFieldsOf (form : Form) (w : Wire) (fs : List Field) : Type 0 where
  pub names : map (λ f. f.name.now) fs ≡ names_of form
  pub kinds : map (λ f. kind_of f.value) fs ≡ kinds_of form
  pub values : map (λ f. value_of f.value) fs ≡ w.values

-- the same by the form of its type
abbrev pub IsShownByForm : Option Form → Wire → List Field → Type 0
IsShownByForm None w fs = ⊥
IsShownByForm (Some form) w fs = AreFieldsOf form w fs

abbrev pub IsShownAs : Wire → List Field → Type 0
IsShownAs w fs = IsShownByForm (form_of w.typ) w fs
