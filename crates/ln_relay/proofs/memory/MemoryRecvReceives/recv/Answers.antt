use Rattle.std.proofs.Common.{◌++◌, ap, sym, ◌∙◌, append_assoc}
use Rattle.ln_relay.specs.Memory.{given}
use Rattle.ln_relay.proofs.Passing.{follows, emptied}
use Rattle.ln_relay.proofs.memory.MemoryRecvReceives.recv.Goals as goal

pub invariant_of-self : goal.invariant_of-self
invariant_of-self g c = record {
  goes_on = follows _ _ _
      (c.args.self.now.goes_on ∙ ap (λ l. given c.args.self.now ++ l) c.next.ensures.items
      ∙ sym (append_assoc (given c.args.self.now) _ _));
}

pub returns-clause-was_empty_if_none : goal.returns-clause-was_empty_if_none
returns-clause-was_empty_if_none g c = λ none. emptied _
