-- A field as the program hands it out, and its text.
use Rattle.std.specs.Prelude.{ℕ, List}
use Rattle.ln_msgs.specs.declared.messages.item.Field.{Field}
use Rattle.ln_msgs.specs.Messages.Items.{value_of}
use Rattle.ln_text.specs.MessageText.{field_text}

abbrev pub shown_field : Field → List ℕ
shown_field f = field_text f.name.now (value_of f.value)
