use Rattle.std.proofs.Common.{◌∙◌, ap, inl, inr}
use Rattle.ln_channel.specs.Step.{commanded}
use Rattle.ln_store.specs.Store.{StoreView}
use Rattle.ln_link.specs.Saving.{sends_update, sent_alone}
use Rattle.ln_link.proofs.Saved.{handed_so, halted_so}
use Rattle.ln_link.proofs.link.Link.command.Goals as goal

pub returns-in-Ok-finish-clause-answers : goal.returns-in-Ok-finish-clause-answers
returns-in-Ok-finish-clause-answers g c = λ l s.
    let before : StoreView = g.S.RecordStore.store_view c.args.store.now in
    let behind : StoreView = g.S.RecordStore.store_view c.finish.new.store in
    handed_so (λ os. sent_alone (sends_update c.args.command)) (λ v. v.items)
    (commanded (g.K.ChannelKeys.signer l.keys) l c.args.command) l c.command.new.self c.finish.new.self
    c.in-Ok.outputs c.sent_alone-brought.result before behind (c.in-Ok.ensures.answers l (c.self.view_is ∙ s))
    (c.sent_alone-brought.ensures ∙ ap sent_alone c.sends_update.ensures) c.in-Ok-finish.ensures.settles

pub returns-in-Err-finish-clause-answers : goal.returns-in-Err-finish-clause-answers
returns-in-Err-finish-clause-answers g c = λ l s.
    let before : StoreView = g.S.RecordStore.store_view c.args.store.now in
    let behind : StoreView = g.S.RecordStore.store_view c.finish.new.store in
    inr (inl (halted_so (λ os. sent_alone (sends_update c.args.command)) (λ v. v.items)
    (commanded (g.K.ChannelKeys.signer l.keys) l c.args.command) l c.command.new.self c.finish.new.self
    c.in-Ok.outputs c.sent_alone-brought.result c.in-Err-finish.refusal before behind
    (c.in-Ok.ensures.answers l (c.self.view_is ∙ s))
    (c.sent_alone-brought.ensures ∙ ap sent_alone c.sends_update.ensures) c.in-Err-finish.ensures.settles))
