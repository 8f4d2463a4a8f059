use Rattle.ln_log.proofs.Calls.{dropped_call, ordered_dropped}
use Rattle.ln_log.proofs.window.Window.drop_unsigned.Goals as goal

pub invariant_of-self : goal.invariant_of-self
invariant_of-self c = ordered_dropped _ _ _ _ _ c.self.invariant c.truncate.ensures.items c.truncate-2.ensures.items

pub returns-clause-moves_as_stated : goal.returns-clause-moves_as_stated
returns-clause-moves_as_stated c = λ l s. dropped_call _ _ l _ _ c.self.view_is s c.truncate.ensures.items
    c.truncate-2.ensures.items
