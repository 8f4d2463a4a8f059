use Rattle.std.proofs.Common.{◌∙◌, refl}
use Rattle.ln_channel.specs.Base.{based_link}
use Rattle.ln_store.specs.Store.{StoreView}
use Rattle.ln_link.proofs.Saved.{settles_so, settles_same, tested_so}
use Rattle.ln_link.proofs.link.Link.finish.Goals as goal

pub returns-then-has_same_record-clause-settles : goal.returns-then-has_same_record-clause-settles
returns-then-has_same_record-clause-settles g c = λ l s.
    let k = c.self.view_is ∙ s in
    let moved = c.in-Ok.ensures.state l k in
    let same = tested_so c.args.brought l c.is_forgotten-forgotten.result c.has_same_record.result
    c.base_in-before.result c.base_in.result (c.is_forgotten-forgotten.ensures l k) (c.base_in-before.ensures l k)
    (c.base_in.ensures (based_link l) moved) c.has_same_record.ensures in
    let before : StoreView = g.S.RecordStore.store_view c.args.store.now in
    settles_same c.args.brought l c.compact.new.self before before (same ∙ c.if-has_same_record.true) moved refl

pub returns-else-has_same_record-clause-settles : goal.returns-else-has_same_record-clause-settles
returns-else-has_same_record-clause-settles g c = λ l s.
    let k = c.self.view_is ∙ s in
    let moved = c.in-Ok.ensures.state l k in
    let same = tested_so c.args.brought l c.is_forgotten-forgotten.result c.has_same_record.result
    c.base_in-before.result c.base_in.result (c.is_forgotten-forgotten.ensures l k) (c.base_in-before.ensures l k)
    (c.base_in.ensures (based_link l) moved) c.has_same_record.ensures in
    let before : StoreView = g.S.RecordStore.store_view c.args.store.now in
    let behind : StoreView = g.S.RecordStore.store_view c.save.new.store in
    settles_so c.args.brought c.save.result l c.save.new.self before behind (same ∙ c.if-has_same_record.false)
    (c.save.ensures.keeps (based_link l) moved)
