use Rattle.std.proofs.Common.{Result, sym, ap, subst, ◌∙◌}
use Rattle.std.proofs.lemmas.Result.{err_from_is_err_and}
use Rattle.ln_refusals.specs.declared.refusal.Refusal.{Refusal}
use Rattle.ln_host.specs.declared.answer.HostRefusal.{HostRefusal}
use Rattle.ln_host.specs.declared.answer.HostRefusal.TheVariants as host
use Rattle.ln_host.specs.Answer.{answer_of}
use Rattle.ln_host.specs.Hearing.{IsHeard}
use Rattle.ln_host.specs.Question.{question_of}
use Rattle.ln_host.specs.Seats.{seat}
use Rattle.ln_host.specs.Seen.{seen_in}
use Rattle.ln_host.proofs.Passing.{lacks_before}
use Rattle.ln_host.proofs.host_link.HostLink.message.Goals as goal

pub returns-in_err-asked : goal.returns-in_err-asked
returns-in_err-asked c =
    let s = seat c.args.self.now in
    let q = question_of s.link c.args.message in
    let p = err_from_is_err_and c.from_residual.result c.from_residual.ensures.1 in
    record {
      hears =
          subst (λ (r : Result (Unit {0}) HostRefusal). IsHeard c.args.message c.args.answer.now r s s) (sym p.1)
          (lacks_before c.args.message (seen_in q c.args.message) (answer_of q c.args.answer.now) p.0 s
          (p.2 ∙ ap (λ (r : Refusal). host.Refused r) c.in_err-asked.ensures.fails_for_memory_alone));
    }

pub returns-in_err-seen : goal.returns-in_err-seen
returns-in_err-seen c =
    let s = seat c.args.self.now in
    let q = question_of s.link c.args.message in
    let p = err_from_is_err_and c.from_residual-in_err-seen.result c.from_residual-in_err-seen.ensures.1 in
    record {
      hears =
          subst (λ (r : Result (Unit {0}) HostRefusal). IsHeard c.args.message c.args.answer.now r s s) (sym p.1)
          (lacks_before c.args.message (seen_in q c.args.message) (answer_of q c.args.answer.now) p.0 s
          (p.2 ∙ ap (λ (r : Refusal). host.Refused r) c.in_err-seen.ensures.fails_for_memory_alone));
    }
