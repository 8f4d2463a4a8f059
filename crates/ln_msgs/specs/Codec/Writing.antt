-- What can be written of a message.
use Rattle.std.specs.Prelude.{List, Option, Some, None, IsTrue}
use Rattle.ln_bytes.specs.Tlv.{AreValid, have_lengths}
use Rattle.ln_bytes.specs.declared.record.Record.{Record}
use Rattle.ln_msgs.specs.Messages.Table.{Form, form_of}
use Rattle.ln_msgs.specs.Messages.Message.{Wire}

-- The records may stand after the fields of this form: their types rise strictly, each even one is known,
-- and each that has a fixed length has it.
pub record MayFollow (form : Form) (rs : List Record) : Type 0 where
  pub valid : AreValid form.known_even None rs
  pub lengths : IsTrue (have_lengths form.lengths rs)

abbrev pub MayFollowForm : Option Form → List Record → Type 0
MayFollowForm None rs = ⊥
MayFollowForm (Some form) rs = MayFollow form rs

-- a message that can be written: its records may stand after its fields
abbrev pub CanBeWritten : Wire → Type 0
CanBeWritten w = MayFollowForm (form_of w.typ) w.records
