use Rattle.std.proofs.Common.{◌∙◌, refl, ap, ◌++◌, ◌∷◌, [], false, subst}
use Rattle.ln_relay.specs.Position.{WasEmpty}
use Rattle.ln_book.specs.Seen.{channel_of}
use Rattle.ln_node_loops.specs.declared.item.Item.TheVariants as item
use Rattle.ln_node_loops.specs.Turns.{fresh, last_of, tasks, TakesNoStop}
use Rattle.ln_node_loops.specs.Owed.{owed}
use Rattle.ln_node_loops.proofs.Running.{ran-none, ran-on, ran-mended, ran-there}
use Rattle.ln_node_loops.proofs.Stopping.{stops-not, goes-on}
use Rattle.ln_node_loops.proofs.rounds.worker_loop.Goals as goal

pub loop-init : goal.loop-init
loop-init g c = (ran-none _ _ _ _ _ _ _ c.args.peer.now _ _ _, refl, stops-not (g.I.Receives.taken c.args.work.items))

pub returns-then-take_one : goal.returns-then-take_one
returns-then-take_one g c =
    let told = c.pending-told.ensures in
    let there = ap g.I.Receives.position c.reload_if_halted.ensures.takes_no_item ∙ c.loop.invariant.1 in
    record {
      serves_all_and_tells_all = record {
        mid = _;
        same_stand = refl;
        took_nothing = refl;
        noted_nothing = c.report_pending.ensures.notes_nothing;
        replied_nothing = refl;
        asked_nothing = refl;
        put_pending = c.put_events-work.ensures.put
            ∙ ap (λ l. g.T.Sends.put c.args.work.tasks
            ++ tasks (channel_of (g.E.End.seen (g.E.End.state c.args.work.worker.end)))
            (fresh c.args.work.worker.last l)) told;
        last_pending = c.put_events-work.ensures.last ∙ ap (λ l. last_of c.args.work.worker.last l) told;
        told_pending = c.report_pending.ensures.says_what_is_owed
            ∙ ap (λ l. g.B.Books.said c.args.work.book
            ++ owed (g.E.End.seen (g.E.End.state c.args.work.worker.end)) false l) (c.as_slice.ensures.value ∙ told);
        ran = ran-on _ _ _ _ _ _ _ c.args.peer.now _ _ _ _ _ c.loop.invariant.0
            (ran-mended _ _ _ _ _ _ _ c.args.peer.now _ _ _ _ c.reload_if_halted.ensures.reloads
            (ran-there _ _ _ _ _ _ _ c.args.peer.now (λ p. WasEmpty p) _ _ _ _ _ there c.take_one.ensures.ran));
        stopped = (
          g.I.Receives.taken c.loop.work.items,
          c.loop.invariant.2,
          c.take_one.ensures.stops c.if-take_one.true
              ∙ ap (λ i. g.I.Receives.taken i ++ item.Stop ∷ []) c.reload_if_halted.ensures.takes_no_item,
        );
      };
    }

pub loop-preserved : goal.loop-preserved
loop-preserved g c =
    let loaded = ap g.I.Receives.position c.reload_if_halted.ensures.takes_no_item ∙ c.loop.invariant.1 in
    let taken = c.take_one.ensures.position_stays ∙ loaded in
    let obeyed = ap g.I.Receives.position c.obey_one.ensures.takes_no_item ∙ taken in
    let signed = ap g.I.Receives.position c.sign_if_idle.ensures.takes_no_item ∙ obeyed in (
      ran-on _ _ _ _ _ _ _ c.args.peer.now _ _ _ _ _ (ran-on _ _ _ _ _ _ _ c.args.peer.now _ _ _ _ _
          (ran-on _ _ _ _ _ _ _ c.args.peer.now _ _ _ _ _
          c.loop.invariant.0
          (ran-mended _ _ _ _ _ _ _ c.args.peer.now _ _ _ _ c.reload_if_halted.ensures.reloads
          (ran-there _ _ _ _ _ _ _ c.args.peer.now (λ p. WasEmpty p) _ _ _ _ _ loaded c.take_one.ensures.ran)))
          (ran-there _ _ _ _ _ _ _ c.args.peer.now (λ p. WasEmpty p) _ _ _ _ _ taken c.obey_one.ensures.ran))
          (ran-there _ _ _ _ _ _ _ c.args.peer.now (λ p. WasEmpty p) _ _ _ _ _ obeyed c.sign_if_idle.ensures.ran),
      signed,
      goes-on _ _ _ c.loop.invariant.2
          (subst (λ t. TakesNoStop t (g.I.Receives.taken c.take_one.new.self.items))
          (ap g.I.Receives.taken c.reload_if_halted.ensures.takes_no_item)
          (c.take_one.ensures.goes_on c.if-take_one.false))
          (ap g.I.Receives.taken (c.sign_if_idle.ensures.takes_no_item ∙ c.obey_one.ensures.takes_no_item)),
    )
