use Rattle.std.proofs.Common.{◌∙◌}
use Rattle.ln_link.proofs.link.Link.save.Goals as goal

pub returns-in-Err-clause-keeps : goal.returns-in-Err-clause-keeps
returns-in-Err-clause-keeps g c = λ l s. (c.halt.ensures.state l s, c.in-Err.ensures l (c.self.view_is ∙ s))
