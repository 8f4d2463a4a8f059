use Rattle.std.proofs.Common.{◌∙◌}
use Rattle.ln_log.specs.Log.{after_drop}
use Rattle.ln_dance.specs.Dance.{with_log}
use Rattle.ln_channel.specs.End.{End}
use Rattle.ln_channel.proofs.Accepting.{sound, dance_stands, stands_with_dance}
use Rattle.ln_channel.proofs.channel.Channel.drop_unsigned.Goals as goal

pub invariant_of-self : goal.invariant_of-self
invariant_of-self c =
    let kept : End = record {
      dance = c.self.inside.dance;
      closing = c.self.inside.closing;
      terms = c.self.inside.terms;
      readiness = c.self.inside.readiness;
      ledger = c.self.inside.ledger;
    } in
    sound kept c.drop_unsigned.new.self c.drop_unsigned.ensures.same_opening c.self.invariant

pub returns-clause-state : goal.returns-clause-state
returns-clause-state c = λ e s.
    let kept = c.self.view_is ∙ s in
    stands_with_dance _ e c.drop_unsigned.new.self (with_log (after_drop e.dance.log) e.dance) kept
    (c.drop_unsigned.ensures.state e.dance (dance_stands _ e kept))

pub returns-clause-same_channel : goal.returns-clause-same_channel
returns-clause-same_channel c = rw (← c.self.view_is) c.drop_unsigned.ensures.same_channel
