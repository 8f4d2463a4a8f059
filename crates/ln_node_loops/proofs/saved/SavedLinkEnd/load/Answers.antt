use Rattle.std.proofs.Common.{refl, ap, subst, ◌∙◌}
use Rattle.ln_link.specs.Saving.{CannotTell}
use Rattle.ln_node_loops.specs.Saved.{record_in, acts}
use Rattle.ln_node_loops.proofs.Saving.{loads-found, loads-none}
use Rattle.ln_node_loops.proofs.saved.SavedLinkEnd.load.Goals as goal

pub returns-in-Ok : goal.returns-in-Ok
unfolding acts
returns-in-Ok g c =
    loads-found _ _ c.in-Ok.found c.come_back.result c.come_back.ensures
    (c.in-Ok.ensures.finds
    ∙ ap (record_in (g.S.RecordStore.store_view c.args.self.now.store).records) c.id-id.ensures)
    c.in-Ok.ensures.changes_no_record c.in-Ok.ensures.counts_no_failure c.in-Ok.ensures.stays_fresh

pub returns-in-Err : goal.returns-in-Err
unfolding acts
returns-in-Err g c =
    loads-none _ _ c.in-Err.refusal
    (subst (λ o. CannotTell c.in-Err.refusal o (g.S.RecordStore.store_view c.args.self.now.store).failed
    (g.S.RecordStore.store_view c.record_in.new.store).failed) c.id-id.ensures c.in-Err.ensures.fails_by_the_store)
    refl c.in-Err.ensures.changes_no_record
