use Rattle.std.proofs.Common.{[], ◌+◌, ◌∙◌, ap, sym, subst, length}
use Rattle.std.proofs.lemmas.List.{length_push}
use Rattle.std.proofs.lemmas.List.Elements.{All-nil, All-cons, All-append}
use Rattle.std.specs.List.{All}
use Rattle.ln_watch.specs.Summary.{IsSummary}
use Rattle.ln_node.proofs.node.Node.channels.Goals as goal

pub loop-channel-preserved : goal.loop-channel-preserved
loop-channel-preserved g c = (
  subst (All IsSummary) (sym c.in_ok-push.ensures.items)
      (All-append IsSummary _ _ c.loop-channel.invariant.0
      (All-cons IsSummary _ [] c.in_ok-summary.ensures.is_of_a_link (All-nil IsSummary))),
  ap length c.in_ok-push.ensures.items ∙ length_push _ _ ∙ ap (λ n. n + 1) c.loop-channel.invariant.1,
)
