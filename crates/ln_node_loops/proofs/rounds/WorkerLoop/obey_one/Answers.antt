use Rattle.std.proofs.Common.{sym, refl, ap, ◌∙◌, ◌++◌, ◌∷◌, [], false, append-nil}
use Rattle.ln_book.specs.Saying.{answered, took}
use Rattle.ln_node_loops.specs.Owed.{owed}
use Rattle.ln_book.specs.Answers.{answer_to, command_subject, waits}
use Rattle.ln_node_loops.specs.Noted.{became_unless}
use Rattle.ln_node_loops.specs.Turns.{events, OfBook}
use Rattle.ln_node_loops.proofs.Running.{ran-none, ran-still, ran-asked}
use Rattle.ln_node_loops.proofs.rounds.WorkerLoop.obey_one.Goals as goal

pub returns-in_default : goal.returns-in_default
returns-in_default g c = record {
  ran = ran-none _ _ _ _ _ _ _ c.args.peer.now _ _ _;
  takes_no_item = refl;
  stays_busy = λ e. e;
}

pub returns-in_default-take : goal.returns-in_default-take
returns-in_default-take g c = record {
  ran = ran-still _ _ _ _ _ _ _ c.args.peer.now _ _ _ _ refl refl refl refl
      (c.take.ensures.says_what_is_taken
      ∙ ap (λ r. g.B.Books.said c.args.self.now.book ++ took c.in-Some.channel r) c.in_default-take.is ∙ append-nil _)
      refl refl c.take.ensures.notes_nothing;
  takes_no_item = refl;
  stays_busy = λ e. e;
}

pub returns : goal.returns
returns g c =
    let seen = g.E.End.seen (g.E.End.state c.obey-obeyed.new.self.end) in
    let os = c.obey-obeyed.result.outputs.items in
    let a = c.obey-obeyed.result.answer in
    let before = g.B.Books.noted c.args.self.now.book in
    let halted = c.is_halted-halted.result in
    let had = g.E.End.halted (g.E.End.state c.args.self.now.worker.end) in
    let phase = c.obey-obeyed.new.self.phase in
    let halts = g.E.End.halted (g.E.End.state c.obey-obeyed.new.self.end) in
    let due = waits (answer_to (command_subject c.next_id-next.result c.in-Some-take.command) a) in
    let noted = c.report.ensures.notes_nothing ∙ c.note_command.ensures.tells_what_became
    ∙ ap (λ l. l ++ became_unless c.waits-waits.result halted a phase halts)
    (c.answered.ensures.notes_nothing ∙ c.take.ensures.notes_nothing)
    ∙ ap (λ w. before ++ became_unless w halted a phase halts) (c.waits-waits.ensures
    ∙ ap waits (c.answer_to-answer.ensures ∙ ap (λ n. answer_to n a) c.command_subject-command_subject.ensures))
    ∙ ap (λ h. before ++ became_unless due h a phase halts) c.is_halted-halted.ensures in
    let ran = ran-asked _ _ _ _ _ _ _ c.args.peer.now _ _ _ c.in-Some.channel c.next_id-next.result
    c.in-Some-take.command os a c.obey-obeyed.result.written _
    (g.B.Books.said c.take.new.self) (g.B.Books.said c.answered.new.self)
    (c.obey-obeyed.ensures.turn OfBook c.args.own_init.now c.args.peer.now tt) refl c.obey-obeyed.ensures.last
    c.put_outputs-self.ensures.put c.put_outputs-self.ensures.last
    (sym c.in-Some.is ∙ c.channel.ensures) c.next_id-next.ensures
    c.in-Some-take.ensures.says_what_is_taken
    (c.answered.ensures.says_the_answer
    ∙ ap (λ r. g.B.Books.said c.take.new.self ++ answered c.in-Some.channel r ∷ [])
    (c.answer_to-answer.ensures ∙ ap (λ n. answer_to n a) c.command_subject-command_subject.ensures))
    (c.report.ensures.says_what_is_owed
    ∙ ap (λ l. g.B.Books.said c.note_command.new.book ++ owed seen false (events l)) c.as_slice.ensures.value
    ∙ ap (λ s. s ++ owed seen false (events os)) c.note_command.ensures.says_nothing) refl refl noted in
    record { ran = ran; takes_no_item = refl; stays_busy = c.is_busy.ensures.stays_busy }
