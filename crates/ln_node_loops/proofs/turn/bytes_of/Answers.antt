use Rattle.std.proofs.Common.{◌≡◌, Bool, true, false, inl, inr, refl, ap, ◌∙◌, Err}
use Rattle.ln_msgs.specs.Messages.Typed.{wire}
use Rattle.ln_node_loops.proofs.Sending.{unwritten}
use Rattle.ln_node_loops.proofs.turn.bytes_of.Goals as goal

not_both : (b : Bool) → b ≡ false → b ≡ true → ⊥
not_both b e f = cc

pub returns-then-not-fits-clause-lost : goal.returns-then-not-fits-clause-lost
returns-then-not-fits-clause-lost c =
    inr (refl, inl (inr (λ can. not_both c.fits.result c.if-not-fits.true (c.fits.ensures.1 can))))

pub returns-in-Err-clause-lost : goal.returns-in-Err-clause-lost
returns-in-Err-clause-lost c =
    unwritten (wire c.args.message.now) _ _ c.from.ensures c.in-Err.ensures.has_one_of_two_faults
    (λ long. c.encode.ensures.refuses_what_is_too_long.0 (c.in-Err.is ∙ ap Err long))
