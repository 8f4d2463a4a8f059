use Rattle.std.proofs.Common.{◌∙◌, ◌++◌, ◌∷◌, [], ap, sym, refl, length, arith, List}
use Rattle.std.proofs.lemmas.List.{append_assoc}
use Rattle.std.specs.Vec.Iter.{into_iter_items}
use Rattle.ln_channel.specs.declared.output.Output.{Output}
use Rattle.ln_host.specs.Hosted.{with_output}
use Rattle.ln_host.specs.Line.{Waiting}
use Rattle.ln_host.proofs.Outputs.{outputs_more}
use Rattle.ln_host.proofs.host_link.queue_outputs.Goals as goal

pub loop-output-preserved : goal.loop-output-preserved
loop-output-preserved c = (
  c.in_ok-queue_output.ensures.put c.args.machine.now refl
      ∙ (ap (λ (w : Waiting). with_output c.args.machine.now.stage c.in-Some.output w) c.loop-output.invariant.0
      ∙ sym (outputs_more c.args.machine.now.stage c.loop-output.yielded c.in-Some.output _)),
  append_assoc c.loop-output.yielded (c.in-Some.output ∷ []) (into_iter_items c.next.new.self)
      ∙ ap (λ (os : List Output). c.loop-output.yielded ++ os) (sym c.in-Some.ensures.steps.0)
      ∙ c.loop-output.invariant.1,
  omega (
    arith,
    c.in-Some.ensures.steps.1,
    ap length c.in-Some.ensures.steps.0,
    c.loop-output.invariant.2,
  ),
)
