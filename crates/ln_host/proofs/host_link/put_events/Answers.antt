use Rattle.std.proofs.Common.{◌∙◌, ◌++◌, ◌∷◌, [], ap, sym, length, arith, ℕ, List}
use Rattle.std.proofs.lemmas.List.{append_assoc}
use Rattle.std.specs.Vec.Iter.{into_iter_items}
use Rattle.ln_hooks.specs.declared.event.ChannelEvent.{ChannelEvent}
use Rattle.ln_host.specs.Hosted.{told_event}
use Rattle.ln_host.specs.Line.{Waiting, with_told}
use Rattle.ln_host.proofs.Outputs.{events_more}
use Rattle.ln_host.proofs.host_link.put_events.Goals as goal

pub loop-pair-preserved : goal.loop-pair-preserved
loop-pair-preserved c = (
  c.in_ok-put_told.ensures.put
      ∙ (ap (λ (w : Waiting). with_told (told_event c.in-Some.pair) w) c.loop-pair.invariant.0
      ∙ sym (events_more c.loop-pair.yielded c.in-Some.pair _)),
  append_assoc c.loop-pair.yielded (c.in-Some.pair ∷ []) (into_iter_items c.next.new.self)
      ∙ ap (λ (ps : List (ℕ × ChannelEvent)). c.loop-pair.yielded ++ ps) (sym c.in-Some.ensures.steps.0)
      ∙ c.loop-pair.invariant.1,
  omega (
    arith,
    c.in-Some.ensures.steps.1,
    ap length c.in-Some.ensures.steps.0,
    c.loop-pair.invariant.2,
  ),
)
