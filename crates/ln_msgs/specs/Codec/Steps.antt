-- What the steps of writing a message promise one another. It is about the proof of `encode`, and no part of the
-- protocol.
use Rattle.std.specs.Prelude.{◌≡◌, ℕ, ◌<◌, ◌≤◌, ◌++◌, List, length, Option, Some, None, Result, Ok, Err, ◌⊎◌}
use Rattle.std.specs.List.{AllByRecursion}
use Rattle.std.specs.Global.{Vec}
use Rattle.ln_bytes.specs.declared.fault.Fault.{Fault}
use Rattle.ln_bytes.specs.declared.fault.Fault.TheVariants.{TooLong, Memory}
use Rattle.ln_bytes.specs.Endian.{big_bytes}
use Rattle.ln_bytes.specs.Tlv.{AreFit, stream_bytes}
use Rattle.ln_bytes.specs.declared.record.Record.{Record}
use Rattle.ln_msgs.specs.declared.messages.item.Item.{Item}
use Rattle.ln_msgs.specs.Codec.Field.{IsOf, AreOf}
use Rattle.ln_msgs.specs.Messages.Items.{kind_of, value_of, items_bytes}
use Rattle.ln_msgs.specs.Messages.Table.{Form, kinds_of, form_of}
use Rattle.ln_msgs.specs.Messages.Message.{Wire, wire_bytes, longest}

-- each value is one of its kind
abbrev pub IsProper : Item → Type 0
IsProper i = IsOf (kind_of i) (value_of i)

abbrev pub AreProper : List Item → Type 0
AreProper is = AllByRecursion IsProper is

-- a type, fields and records one after the other
abbrev pub parts_bytes : ℕ → List Item → List Record → List ℕ
parts_bytes typ is rs = big_bytes 2 typ ++ items_bytes is ++ stream_bytes rs

-- each field's value is one of its kind, by the message's form
abbrev pub AreOfForm : Option Form → Wire → Type 0
AreOfForm None w = ⊥
AreOfForm (Some form) w = (w.typ < 65536) × AreOf (kinds_of form) w.values

-- what was answered where this message was to be written: its bytes, unless they are too many or memory ran
-- out
abbrev pub IsWrittenAs : Result (Vec ℕ) Fault → Wire → Type 0
IsWrittenAs (Ok v) w =
    (v.items ≡ wire_bytes w) × (length v.items ≤ longest) × AreFit w.records × AreOfForm (form_of w.typ) w
IsWrittenAs (Err f) w =
    ((f ≡ TooLong) × (longest < length (wire_bytes w))) ⊎ ((f ≡ Memory) × (length (wire_bytes w) ≤ longest))

pub record IsWritten (r : Result (Vec ℕ) Fault) (w : Wire) : Type 0 where
  pub answer : IsWrittenAs r w
