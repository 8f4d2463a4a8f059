use Rattle.std.proofs.Common.{ap, ◌∙◌, sym, cond, Some}
use Rattle.std.specs.Prelude.{not, ◌&&◌, is_none}
use Rattle.ln_refusals.specs.declared.refusal.Refusal.TheVariants as refusal
use Rattle.ln_channel.specs.Commands.{shut_by_either}
use Rattle.ln_channel.specs.End.{is_ready}
use Rattle.ln_channel.specs.State.{is_down}
use Rattle.ln_book.proofs.Takes.{no-fault}
use Rattle.ln_book.proofs.switch.laws.an_end_takes_payments_where_it_may_offer.Goals as goal

pub returns : goal.returns
returns g c l e a free =
    ap (λ b. not l.halted && (is_none l.failure && (not (is_down l.connection) && b)))
    (no-fault e.readiness.ready_sent e.readiness.ready_received e.closing.shut e.closing.peer_shut
    (is_none e.closing.closed)
    ∙ sym (ap (λ z. is_none (cond (not (is_ready e)) (Some refusal.NotReady)
    (cond z (Some refusal.NumbersSpent) (shut_by_either e))) && is_none e.closing.closed) free))
