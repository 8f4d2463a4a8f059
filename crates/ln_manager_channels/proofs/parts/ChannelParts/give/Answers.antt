use Rattle.std.proofs.Common.{◌∙◌, sym, ap}
use Rattle.ln_book.specs.Answers.{answer_to, waits}
use Rattle.ln_manager_channels.specs.Obeying.{given_of}
use Rattle.ln_manager_channels.proofs.Obeyed.{gives_halted, gives_working}
use Rattle.ln_manager_channels.proofs.parts.ChannelParts.give.Goals as goal

pub returns-then-has_halted-clause-gives : goal.returns-then-has_halted-clause-gives
returns-then-has_halted-clause-gives g c = gives_halted g.K.ChannelKeys.signer c.args.channel c.args.id c.args.command
    _ _ c.obey-given.result c.obey-given.ensures.obeys (sym c.if-has_halted.ensures) c.obey-given.ensures.book_stays

pub returns-clause-gives : goal.returns-clause-gives
returns-clause-gives g c = gives_working g.K.ChannelKeys.signer c.args.channel c.args.id c.args.command _ _
    c.obey-given.result c.given_of.result c.subject-subject.result c.answer_to-answer.result
    c.obey-given.new.self.book c.obey-given.ensures.obeys (sym c.if-has_halted.ensures) c.subject-subject.ensures
    (c.answer_to-answer.ensures ∙ ap (answer_to c.subject-subject.result) c.done_of.ensures)
    (c.given_of.ensures ∙ ap (λ w. given_of c.obey-given.result w c.origin_of-origin.result) c.waits.ensures
    ∙ ap (given_of c.obey-given.result (waits c.answer_to-answer.result)) c.origin_of-origin.ensures)
    c.obey-given.ensures.book_stays c.answered.ensures
