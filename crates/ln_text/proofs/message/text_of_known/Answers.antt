use Rattle.std.proofs.Common.{◌≡◌, List, ◌++◌, ap, ◌∙◌, string_bytes}
use Rattle.std.specs.List.{flat_map}
use Rattle.ln_msgs.specs.declared.messages.item.Field.{Field}
use Rattle.ln_bytes.specs.declared.record.Record.{Record}
use Rattle.ln_msgs.specs.Messages.Typed.{wire}
use Rattle.ln_text.specs.MessageText.{record_text}
use Rattle.ln_text.specs.Shown.{shown_field}
use Rattle.ln_text.proofs.Shown.{put_together}
use Rattle.ln_text.proofs.message.text_of_known.Goals as goal

pub returns : goal.returns
returns c =
    let fields : string_bytes c.put_fields.new.out ≡ string_bytes c.in_ok-out.out
    ++ flat_map shown_field c.in_ok-fields.field-0.items =
    c.in_ok-put_fields.ensures ∙ ap (λ (fs : List Field). string_bytes c.in_ok-out.out ++ flat_map shown_field fs)
    c.as_slice.ensures.value in
    let records : string_bytes c.put_records.new.out ≡ string_bytes c.put_fields.new.out
    ++ flat_map record_text c.records.result.now =
    c.in_ok-put_records.ensures ∙ ap (λ (rs : List Record). string_bytes c.put_fields.new.out
    ++ flat_map record_text rs) c.as_slice-2.ensures in
    put_together (wire c.args.message.now) c.in_ok-fields.field-0.items c.records.result.now
    (string_bytes c.in_ok-out.out) (string_bytes c.put_fields.new.out) (string_bytes c.put_records.new.out)
    c.in_ok-fields.ensures c.records.ensures c.in_ok-out.ensures fields records
