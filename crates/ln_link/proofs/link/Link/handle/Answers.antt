use Rattle.std.proofs.Common.{◌∙◌}
use Rattle.ln_store.specs.Store.{StoreView}
use Rattle.ln_store.proofs.Asked.{asked}
use Rattle.ln_link.proofs.Refusing.{unknown, taken_over}
use Rattle.ln_link.proofs.link.Link.handle.Goals as goal

pub returns-in-Ok-false-clause-answers : goal.returns-in-Ok-false-clause-answers
returns-in-Ok-false-clause-answers g c = λ l s.
    let before : StoreView = g.S.RecordStore.store_view c.args.store.now in
    let told = c.in-Ok-false.ensures in
    taken_over (λ v. v.items) (g.K.ChannelKeys.signer l.keys) l c.take.new.self c.args.message c.take.result before
    (g.S.RecordStore.store_view c.is_known.new.store) (g.S.RecordStore.store_view c.take.new.store)
    (unknown before.records c.in-Ok-false.field-0 c.opens.result l c.args.message c.in-Ok-false.field-0-test told.known
    (c.opens.ensures l (c.self.view_is ∙ s)))
    (asked before _ told.changes_no_record told.counts_no_failure told.stays_fresh) (c.take.ensures.answers l s)
