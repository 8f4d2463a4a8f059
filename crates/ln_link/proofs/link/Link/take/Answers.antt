use Rattle.std.proofs.Common.{◌∙◌, refl, inl, inr, List}
use Rattle.ln_channel.specs.declared.output.Output.{Output}
use Rattle.ln_channel.specs.Step.{handled}
use Rattle.ln_store.specs.Store.{StoreView}
use Rattle.ln_link.specs.Saving.{is_update, taken_alone}
use Rattle.ln_link.proofs.Saved.{handed_so, halted_so, taken_so}
use Rattle.ln_link.proofs.Refusing.{after_refusal_of}
use Rattle.ln_link.proofs.link.Link.take.Goals as goal

pub returns-in-Err-clause-answers : goal.returns-in-Err-clause-answers
returns-in-Err-clause-answers g c = λ l s.
    after_refusal_of {V = List Output} (λ v. v) (handled (g.K.ChannelKeys.signer l.keys) l c.args.message) l
    c.handle.new.self c.refuse.new.self c.args.message c.in-Err.refusal c.refuse.result
    (g.S.RecordStore.store_view c.args.store.now)
    (g.S.RecordStore.store_view c.refuse.new.store)
    c.is_healthy-healthy.result
    (c.is_healthy-healthy.ensures l (c.self.view_is ∙ s))
    (c.in-Err.ensures.answers l (c.self.view_is ∙ s)) (c.refuse.ensures.refuses _ refl)

pub returns-in-Ok-finish-clause-answers : goal.returns-in-Ok-finish-clause-answers
returns-in-Ok-finish-clause-answers g c = λ l s.
    let before : StoreView = g.S.RecordStore.store_view c.args.store.now in
    let behind : StoreView = g.S.RecordStore.store_view c.finish.new.store in
    handed_so (taken_alone (is_update c.args.message)) (λ v. v.items)
    (handled (g.K.ChannelKeys.signer l.keys) l c.args.message) l c.handle.new.self c.finish.new.self c.in-Ok.outputs
    c.taken_alone-brought.result before behind (c.in-Ok.ensures.answers l (c.self.view_is ∙ s))
    (taken_so c.args.message c.taken_alone-brought.result c.is_update-update.result c.as_slice.result.now
    c.in-Ok.outputs.items c.taken_alone-brought.ensures c.is_update-update.ensures c.as_slice.ensures.value)
    c.in-Ok-finish.ensures.settles

pub returns-in-Err-finish-clause-answers : goal.returns-in-Err-finish-clause-answers
returns-in-Err-finish-clause-answers g c = λ l s.
    let before : StoreView = g.S.RecordStore.store_view c.args.store.now in
    let behind : StoreView = g.S.RecordStore.store_view c.finish.new.store in
    inr (inl (halted_so (taken_alone (is_update c.args.message)) (λ v. v.items)
    (handled (g.K.ChannelKeys.signer l.keys) l c.args.message) l c.handle.new.self c.finish.new.self c.in-Ok.outputs
    c.taken_alone-brought.result c.in-Err-finish.refusal before behind
    (c.in-Ok.ensures.answers l (c.self.view_is ∙ s))
    (taken_so c.args.message c.taken_alone-brought.result c.is_update-update.result c.as_slice.result.now
    c.in-Ok.outputs.items c.taken_alone-brought.ensures c.is_update-update.ensures c.as_slice.ensures.value)
    c.in-Err-finish.ensures.settles))
