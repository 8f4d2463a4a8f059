use Rattle.std.proofs.Common.{sym, subst, ◌∙◌, ◌≤◌}
use Rattle.ln_log.specs.Log.{AllCounts}
use Rattle.ln_dance.specs.Dance.{after_accept, is_last, is_right}
use Rattle.ln_channel.specs.End.{End}
use Rattle.ln_channel.proofs.Accepting.{sound, dance_stands, stands_with_dance, on_ok, viewed}
use Rattle.ln_channel.proofs.channel.Channel.accept.Goals as goal

pub invariant_of-self : goal.invariant_of-self
invariant_of-self g c =
    let kept : End = record {
      dance = c.self.inside.dance;
      closing = c.self.inside.closing;
      terms = c.self.inside.terms;
      readiness = c.self.inside.readiness;
      ledger = c.self.inside.ledger;
    } in
    sound kept c.accept.new.self c.accept.ensures.same_opening c.self.invariant

pub returns-clause-refuses_exactly : goal.returns-clause-refuses_exactly
returns-clause-refuses_exactly g c = λ e s.
    let keys = g.K.ChannelKeys.signer c.args.keys.now in
    let d = dance_stands _ e (c.self.view_is ∙ s) in
    viewed (is_last e.dance.numbers.commitment) (is_right keys c.args.message.now e.dance) c.accept.result
    (c.accept.ensures.refuses_exactly e.dance d) (c.accept.ensures.out_of_place e.dance d)

pub returns-clause-state : goal.returns-clause-state
returns-clause-state g c = λ e s.
    let kept = c.self.view_is ∙ s in
    on_ok c.accept.result (stands_with_dance _ e c.accept.new.self (after_accept e.dance) kept)
    (c.accept.ensures.moves_as_stated e.dance (dance_stands _ e kept))

pub returns-clause-grows : goal.returns-clause-grows
returns-clause-grows g c = rw (← c.self.view_is)
    (on_ok c.accept.result (λ s. subst (λ (a : AllCounts). c.self.inside.dance.log.current.own ≤ a.current.own) (sym s)
    c.own_held.ensures.ordered) c.accept.ensures.counts)

pub returns-clause-first_stays_below : goal.returns-clause-first_stays_below
returns-clause-first_stays_below g c = rw (← c.self.view_is)
    (on_ok c.accept.result (λ s. subst (λ (a : AllCounts). a.first.own ≤ c.self.inside.dance.log.current.own) (sym s)
    c.own_held.ensures.first) c.accept.ensures.counts)

pub returns-clause-same_channel : goal.returns-clause-same_channel
returns-clause-same_channel g c = rw (← c.self.view_is) c.accept.ensures.same_channel
