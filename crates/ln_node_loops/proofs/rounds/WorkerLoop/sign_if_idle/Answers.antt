use Rattle.std.proofs.Common.{refl, ap, ◌∙◌, ◌++◌, false}
use Rattle.ln_node_loops.specs.Owed.{owed}
use Rattle.ln_node_loops.specs.Noted.{became}
use Rattle.ln_node_loops.specs.Turns.{events, OfWorker}
use Rattle.ln_node_loops.proofs.Running.{ran-none, ran-rested, ran-signed}
use Rattle.ln_node_loops.proofs.rounds.WorkerLoop.sign_if_idle.Goals as goal

pub returns-then-busy : goal.returns-then-busy
returns-then-busy g c = record {
  ran = ran-none _ _ _ _ _ _ _ c.args.peer.now _ _ _;
  takes_no_item = refl;
}

pub returns-then-not-is_due : goal.returns-then-not-is_due
returns-then-not-is_due g c = record {
  ran = ran-rested _ _ _ _ _ _ _ c.args.peer.now _ _ _ c.signs-allowed.result c.is_due.result c.is_due.ensures
      c.if-not-is_due.true
      refl refl refl refl refl c.signs-allowed.ensures.replies_nothing c.signs-allowed.ensures.tells
      refl (c.requires.was_empty c.if-busy.false);
  takes_no_item = refl;
}

pub returns : goal.returns
returns g c =
    let seen = g.E.End.seen (g.E.End.state c.obey-obeyed.new.self.end) in
    let os = c.obey-obeyed.result.outputs.items in
    let before = g.B.Books.noted c.args.self.now.book in
    let a = c.obey-obeyed.result.answer in
    let phase = c.obey-obeyed.new.self.phase in
    let halts = g.E.End.halted (g.E.End.state c.obey-obeyed.new.self.end) in
    let noted = c.report.ensures.notes_nothing ∙ c.note.ensures.tells_what_became
    ∙ ap (λ h. before ++ became false h a phase halts) c.is_halted-halted.ensures in
    let ran = ran-signed _ _ _ _ _ _ _ c.args.peer.now _ _ _ c.signs-allowed.result c.is_due.result os
    c.obey-obeyed.result.answer c.obey-obeyed.result.written _ c.is_due.ensures c.if-not-is_due.false
    (λ owes. c.obey-obeyed.ensures.turn OfWorker c.args.own_init.now c.args.peer.now (refl, owes))
    refl c.obey-obeyed.ensures.last
    c.put_outputs-self.ensures.put c.put_outputs-self.ensures.last
    (c.report.ensures.says_what_is_owed
    ∙ ap (λ l. g.B.Books.said c.note.new.book ++ owed seen false (events l)) c.as_slice.ensures.value
    ∙ ap (λ s. s ++ owed seen false (events os)) c.note.ensures.says_nothing)
    c.signs-allowed.ensures.replies_nothing c.signs-allowed.ensures.tells noted
    (c.requires.was_empty c.if-busy.false) in
    record { ran = ran; takes_no_item = refl }
