use Rattle.std.proofs.Common.{◌≡◌, List, [], Ok, ap, sym, ◌∙◌}
use Rattle.std.proofs.lemmas.Bool.{eqb-true}
use Rattle.std.proofs.lemmas.List.{nil_from_length}
use Rattle.ln_bytes.specs.declared.record.Record.{Record}
use Rattle.ln_bytes.specs.Tlv.{stream_at}
use Rattle.ln_msgs.proofs.NoRecords.{no_records}
use Rattle.ln_msgs.proofs.messages.records.records_at.Goals as goal

pub returns-then-is_empty : goal.returns-then-is_empty
returns-then-is_empty c =
    let none : c.args.bytes.now ≡ [] = nil_from_length _ (eqb-true _ _ (sym c.if-is_empty.ensures)) in
    ap (stream_at c.args.known_even.now) none ∙ no_records c.args.known_even.now
    ∙ ap (λ (rs : List Record). Ok rs) (sym c.empty.ensures)
