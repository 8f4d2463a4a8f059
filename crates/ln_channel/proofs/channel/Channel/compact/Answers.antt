use Rattle.std.proofs.Common.{refl, sym, ap, ◌∙◌}
use Rattle.ln_log.specs.Log.{Log, between}
use Rattle.ln_channel.specs.End.{End}
use Rattle.ln_channel.specs.Base.{allowed, without_removed, based}
use Rattle.ln_channel.proofs.Based.{stays, not_moved, moved}
use Rattle.ln_channel.proofs.channel.Channel.compact.Goals as goal

pub returns-then-is_base-clause-state : goal.returns-then-is_base-clause-state
returns-then-is_base-clause-state c = λ e s.
    let kept : End = record {
      dance = c.self.inside.dance;
      closing = c.self.inside.closing;
      terms = c.self.inside.terms;
      readiness = c.self.inside.readiness;
      ledger = c.self.inside.ledger;
    } in
    sym c.self.view_is
    ∙ stays kept c.allowed-to.result
    (c.allowed-to.ensures.counts ∙ ap allowed (sym c.self.view_is))
    (c.is_base.ensures c.if-is_base.true ∙ ap (λ (l : Log). l.first) (c.log.ensures kept.dance refl))
    ∙ ap based (c.self.view_is ∙ s)

pub returns-then-not-branch-clause-state : goal.returns-then-not-branch-clause-state
returns-then-not-branch-clause-state c = λ e s.
    let kept : End = record {
      dance = c.self.inside.dance;
      closing = c.self.inside.closing;
      terms = c.self.inside.terms;
      readiness = c.self.inside.readiness;
      ledger = c.self.inside.ledger;
    } in
    not_moved kept c.allowed-to.result c.advance.new.self
    (c.allowed-to.ensures.counts ∙ ap allowed (sym c.self.view_is))
    (sym c.if-not-branch.true ∙ c.in_ok-advance.ensures.by_its_test kept.dance refl)
    (c.in_ok-advance.ensures.state kept.dance refl)
    ∙ ap based (c.self.view_is ∙ s)

pub returns-clause-state : goal.returns-clause-state
returns-clause-state c = λ e s.
    let kept : End = record {
      dance = c.self.inside.dance;
      closing = c.self.inside.closing;
      terms = c.self.inside.terms;
      readiness = c.self.inside.readiness;
      ledger = c.self.inside.ledger;
    } in
    let to = c.allowed-to.result in
    moved kept to c.advance.new.self c.leave_out_removed.new.self
    (c.allowed-to.ensures.counts ∙ ap allowed (sym c.self.view_is))
    (sym c.if-not-branch.false ∙ c.in_ok-advance.ensures.by_its_test kept.dance refl)
    (c.in_ok-advance.ensures.state kept.dance refl)
    (c.leave_out_removed.ensures c.entering.result.now c.in_ok-removed.ensures.ids
    ∙ ap (λ us. without_removed us kept.ledger) (c.entering.ensures
    ∙ ap (λ (l : Log). between l.first.own to.own l.own) (c.log-2.ensures kept.dance refl)))
    ∙ ap based (c.self.view_is ∙ s)
