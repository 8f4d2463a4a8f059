use Rattle.std.proofs.Common.{◌∙◌, ap, None, get_or, arith}
use Rattle.std.proofs.lemmas.List.{length-set}
use Rattle.ln_book_tables.specs.Due.{is_due}
use Rattle.ln_book_tables.specs.Places.{places_behind}
use Rattle.ln_book_tables.specs.Slots.{passes}
use Rattle.ln_book_tables.proofs.Passing.{behind_change}
use Rattle.ln_book_tables.proofs.Named.{behind_replace, due_name}
use Rattle.ln_book_tables.proofs.indices.Indices.replace.Goals as goal

pub returns-clause-indexed : goal.returns-clause-indexed
returns-clause-indexed c ss s lt was is indexed = record {
  due =
      c.put_place.ensures.indexed
      ∙ ap (λ b. places_behind c.args.place b c.args.after.now.due c.args.self.now.due.items)
      (ap (λ n. n.due) was ∙ due_name (get_or ss c.args.place None))
      ∙ ap (λ b. places_behind c.args.place (passes is_due (get_or ss c.args.place None)) b c.args.self.now.due.items)
      (ap (λ n. n.due) is ∙ due_name s)
      ∙ ap (places_behind c.args.place (passes is_due (get_or ss c.args.place None)) (passes is_due s)) indexed.due
      ∙ behind_change (passes is_due) ss c.args.place None s lt;
  room = omega (arith, length-set ss c.args.place s, indexed.room, c.put_place.ensures.room);
  by_key = behind_replace ss c.args.place s (λ n. n.key) c.args.before.now c.args.after.now
      c.args.self.now.by_key c.replace.new.self lt was is c.replace.ensures.indexed indexed.by_key;
  by_event = behind_replace ss c.args.place s (λ n. n.event) c.args.before.now c.args.after.now
      c.args.self.now.by_event c.replace-2.new.self lt was is c.replace-2.ensures.indexed indexed.by_event;
  by_held = behind_replace ss c.args.place s (λ n. n.held) c.args.before.now c.args.after.now
      c.args.self.now.by_held c.replace-3.new.self lt was is c.replace-3.ensures.indexed indexed.by_held;
  by_outgoing = behind_replace ss c.args.place s (λ n. n.outgoing) c.args.before.now c.args.after.now
      c.args.self.now.by_outgoing c.replace-4.new.self lt was is c.replace-4.ensures.indexed indexed.by_outgoing;
  by_over = behind_replace ss c.args.place s (λ n. n.over) c.args.before.now c.args.after.now
      c.args.self.now.by_over c.replace-5.new.self lt was is c.replace-5.ensures.indexed indexed.by_over;
}
