use Rattle.ln_bytes.proofs.ShortIds.{no_x, front_is}
use Rattle.ln_bytes.proofs.short_id.number_and_x.Goals as goal

pub returns-in_err-front : goal.returns-in_err-front
returns-in_err-front c =
    rw c.from_residual.ensures (λ n rest below. no_x c.args.text.now n rest c.in_err-front.ensures.cases below)

pub returns-in_err-number : goal.returns-in_err-number
returns-in_err-number c =
    rw c.from_residual-in_err-number.ensures (λ n rest below e. c.in_err-number.ensures n below
    (front_is c.args.text.now n rest (c.in_ok-front.front, c.in_ok-front.rest) c.in_ok-front.ensures.cases below e))
