use Rattle.std.proofs.Common.{ap, refl, ◌∙◌, ◌++◌, ◌∷◌, [], subst}
use Rattle.std.specs.Prelude.{map}
use Rattle.ln_book.specs.Seen.{channel_of}
use Rattle.ln_node_loops.specs.Turns.{told, tasks_of, AreEvents, fresh}
use Rattle.ln_node_loops.proofs.Running.{put-first}
use Rattle.ln_node_loops.proofs.Course.{all-put, told-joined, news-are}
use Rattle.ln_node_loops.proofs.laws.every_event_is_put.Goals as goal

pub returns : goal.returns
returns g c own_init peer place a b began event first end tells =
    let es = g.E.End.pending a.stand.end in
    let turns = began.ran.turns in
    let news = (channel_of (g.E.End.seen a.stand.end), es, [], []) ∷ began.ran.news in (
      tasks_of a.last news,
      put-first a.last began.mid.last _ es [] [] began.ran.news a.put began.mid.put b.put began.put_pending
          began.last_pending began.ran.put,
      subst (AreEvents (tasks_of a.last news))
          (ap (λ l. fresh a.last (es ++ l)) (told-joined _ _ _ _ _ _ _ peer _ _ _ _ _ _ began.ran.leads)
          ∙ all-put event first a.last _ (es ∷ map told turns) end refl tells)
          (news-are _ a.last news),
    )
