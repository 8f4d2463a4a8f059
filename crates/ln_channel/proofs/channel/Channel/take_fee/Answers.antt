use Rattle.std.proofs.Common.{sym, ap, ◌∙◌}
use Rattle.ln_close.specs.declared.closing.Closing.{Closing}
use Rattle.ln_close.specs.Closing.{answer_to}
use Rattle.ln_channel.specs.End.{End}
use Rattle.ln_channel.specs.Taking.{fee_row, range_in, answering, answered_end}
use Rattle.ln_channel.proofs.Turning.{made_so, fee_answered}
use Rattle.ln_channel.proofs.channel.Channel.take_fee.Goals as goal

pub returns-clause-makes : goal.returns-clause-makes
returns-clause-makes g c = λ e s.
    let keys = g.K.ChannelKeys.signer c.args.keys.now in
    let m = c.args.message.now in
    let a = c.in_ok-answer.answer in
    let closing = ap (λ (x : End). x.closing) (c.self.view_is ∙ s) in
    let k : Closing → End = λ x. record {
      dance = c.self.inside.dance;
      closing = x;
      terms = c.self.inside.terms;
      readiness = c.self.inside.readiness;
      ledger = c.self.inside.ledger;
    } in
    let stands = ap k c.in_ok-answer.ensures.moves_as_stated
    ∙ ap (λ (x : End). answered_end m a x) (c.self.view_is ∙ s) in
    let told = ap (λ (x : Closing). answer_to x m.fee_satoshis (range_in m)) (sym closing)
    ∙ ap (λ r. answer_to c.self.inside.closing m.fee_satoshis r) (sym c.range_in.ensures)
    ∙ sym c.in_ok-answer.ensures.answers_by_the_first_rule in
    made_so _ (fee_row keys m e) (answering keys a (answered_end m a e)) c.hand_answer.result c.args.self.now
    c.hand_answer.new.self
    (fee_answered keys m e a (sym (c.if-not-has_begun.ensures e s)) (sym c.if-not-verify_close.ensures) told)
    (c.hand_answer.ensures.handed (answered_end m a e) stands)
    (c.hand_answer.ensures.state (answered_end m a e) stands) c.hand_answer.ensures.fails_for_memory_alone
