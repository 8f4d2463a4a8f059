use Rattle.std.proofs.Common.{ap}
use Rattle.ln_log.specs.Kept.{own_before, peer_before}
use Rattle.ln_log.proofs.Restored.{taken_as}
use Rattle.ln_log.proofs.log.UpdateLog.take_past_of.Goals as goal

pub invariant_of-self : goal.invariant_of-self
invariant_of-self c =
    let taken =
    taken_as _ _ _ _ _ _ _ _ _ _ (record {
      view = c.self.view_is;
      window = c.self.invariant;
      order = c.counts.ensures.in_order;
      other_view = c.other.view_is;
      other_window = c.other.invariant;
      other_order = c.counts-2.ensures.in_order;
      first = c.requires.same_first;
      record_is = c.requires.same_record;
    }) (ap own_before c.same-self-inside.ensures) (ap peer_before c.same-self-inside-2.ensures) in
    taken.1

pub returns : goal.returns
returns c =
    let taken =
    taken_as _ _ _ _ _ _ _ _ _ _ (record {
      view = c.self.view_is;
      window = c.self.invariant;
      order = c.counts.ensures.in_order;
      other_view = c.other.view_is;
      other_window = c.other.invariant;
      other_order = c.counts-2.ensures.in_order;
      first = c.requires.same_first;
      record_is = c.requires.same_record;
    }) (ap own_before c.same-self-inside.ensures) (ap peer_before c.same-self-inside-2.ensures) in
    taken.0
