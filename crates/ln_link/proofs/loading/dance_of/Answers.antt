use Rattle.ln_link.proofs.loading.dance_of.Goals as goal

pub returns : goal.returns
returns c = λ l s. c.new.ensures l s
