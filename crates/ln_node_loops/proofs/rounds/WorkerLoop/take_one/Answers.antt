use Rattle.std.proofs.Common.{refl, ap, ◌∙◌, ◌++◌, ◌∷◌, [], false, rules, sym, subst, append-nil}
use Rattle.ln_relay.specs.Position.{WasEmpty}
use Rattle.std.specs.Prelude.{not, ◌&&◌}
use Rattle.ln_node_loops.specs.Owed.{owed}
use Rattle.ln_node_loops.specs.Orders.{replies_to}
use Rattle.ln_node_loops.specs.Noted.{meets, became, awaits_init, beside_reply}
use Rattle.std.proofs.lemmas.List.{append_assoc}
use Rattle.ln_node_loops.specs.Turns.{events, drops}
use Rattle.ln_node_loops.proofs.Running.{ran-item, ran-still}
use Rattle.ln_node_loops.proofs.Stopping.{stop-only}
use Rattle.ln_node_loops.proofs.rounds.WorkerLoop.take_one.Goals as goal

pub returns : goal.returns
returns g c =
    let seen = g.E.End.seen (g.E.End.state c.serve-outputs.new.self.end) in
    let noted = g.B.Books.noted c.args.self.now.book in
    let met = c.serve-outputs.result.met in
    let answer = c.serve-outputs.result.answer in
    let written = c.serve-outputs.result.written in
    let awaited = c.awaits_init-awaited.result in
    let awaits = awaits_init c.args.self.now.worker.phase in
    let halted = c.is_halted-halted.result in
    let had = g.E.End.halted (g.E.End.state c.args.self.now.worker.end) in
    let said = c.beside_reply-told.result in
    let phase = c.serve-outputs.new.self.phase in
    let halts = g.E.End.halted (g.E.End.state c.serve-outputs.new.self.end) in
    record {
      ran = ran-item _ _ _ _ _ _ _ c.args.peer.now _ _ _ c.serve-outputs.result.served c.in-Some.item
          c.serve-outputs.result.outputs.items
          c.serve-outputs.result.answer c.serve-outputs.result.written _ c.next_id.result c.serve-outputs.result.met
          c.serve-outputs.ensures.turn c.serve-outputs.ensures.passed c.serve-outputs.ensures.declined
          c.serve-outputs.ensures.writes_nothing_if_passed c.serve-outputs.ensures.meets
          c.in-Some.ensures.appends c.serve-outputs.ensures.last c.put_outputs-self.ensures.put
          c.put_outputs-self.ensures.last
          (c.report.ensures.says_what_is_owed
          ∙ ap (λ l. g.B.Books.said c.note.new.book ++ owed seen c.reports_kept-drops.result (events l))
          c.as_slice.ensures.value
          ∙ ap (λ s. s ++ owed seen c.reports_kept-drops.result (events c.serve-outputs.result.outputs.items))
          (c.note.ensures.says_nothing ∙ c.meet.ensures.says_nothing)
          ∙ ap (λ b. g.B.Books.said c.args.self.now.book ++ owed seen b (events c.serve-outputs.result.outputs.items))
          (c.reports_kept-drops.ensures ∙ ap (λ b. b && not c.is_halted.result) c.is_broken-breaks.ensures
          ∙ ap (λ b. drops c.in-Some.item false && not b) c.is_halted.ensures))
          c.next_id.ensures
          (c.reply.ensures.replies
          ∙ ap (λ n. g.A.Orders.replied c.args.self.now.orders ++ replies_to n c.serve-outputs.result.answer)
          c.subject_in-subject.ensures)
          c.reply.ensures.tells_nothing
          (c.report.ensures.notes_nothing ∙ c.note.ensures.tells_what_became
          ∙ ap (λ l. l ++ became awaited halted said phase halts) c.meet.ensures.notes_it
          ∙ append_assoc noted (meets met) (became awaited halted said phase halts)
          ∙ ap (λ b. noted ++ (meets met ++ became b halted said phase halts)) c.awaits_init-awaited.ensures
          ∙ ap (λ b. noted ++ (meets met ++ became awaits b said phase halts)) c.is_halted-halted.ensures
          ∙ ap (λ r. noted ++ (meets met ++ became awaits had r phase halts)) (c.beside_reply-told.ensures
          ∙ ap (λ s. beside_reply s answer written) c.subject_in-subject.ensures));
      stops = λ is. c.in-Some.ensures.appends
          ∙ ap (λ t. g.I.Receives.taken c.args.self.now.items ++ t ∷ [])
          (stop-only c.in-Some.item (sym c.is_stop-stops.ensures ∙ is));
      goes_on = λ is. (
        c.in-Some.item ∷ [],
        (sym c.is_stop-stops.ensures ∙ is, tt),
        c.in-Some.ensures.appends,
      );
      position_stays = c.in-Some.ensures.position_stays;
      was_empty = λ e. absurd cc;
    }

pub returns-in_default : goal.returns-in_default
returns-in_default g c = record {
  ran = ran-still _ _ _ _ _ _ _ c.args.peer.now _ _ _ _ refl refl (search rules) refl refl refl refl refl;
  stops = λ e. absurd cc;
  goes_on = λ e. (
    [],
    tt,
    c.recv.ensures.changes_nothing_if_none c.in_default.is
        ∙ sym (append-nil (g.I.Receives.taken c.args.self.now.items)),
  );
  position_stays = c.recv.ensures.position_stays;
  was_empty = λ e. subst (λ t. WasEmpty (g.I.Receives.position c.args.self.now.items) t)
      (sym (c.recv.ensures.changes_nothing_if_none c.in_default.is)) (c.recv.ensures.was_empty_if_none c.in_default.is);
}
