use Rattle.std.proofs.Common.{◌++◌, None, Some, sym, ap, ◌∙◌}
use Rattle.ln_world_channels.specs.WorldChannel.{moved, up_moves, met_lines}
use Rattle.ln_world_channels.proofs.Moving.{on_ok}
use Rattle.ln_world_channels.proofs.Places.{searched, placed, nowhere, not_found, still_once, there_is, there_is_none}
use Rattle.ln_world_channels.proofs.channels.Channels.come_up.Goals as goal

pub returns-in_ok-push-in-None-clause-moved : goal.returns-in_ok-push-in-None-clause-moved
returns-in_ok-push-in-None-clause-moved g c =
    let n = c.args.number in
    let cs = c.self.inside.items.items in
    rw (← c.self.view_is) (nowhere g.K.ChannelKeys.signer n up_moves cs
    (not_found n cs (sym (searched n cs _ _ None c.in-None.is c.place_of.ensures c.deref.ensures.value))))

pub returns-in_ok-push-in-None-clause-told : goal.returns-in_ok-push-in-None-clause-told
returns-in_ok-push-in-None-clause-told g c =
    let n = c.args.number in
    let cs = c.self.inside.items.items in
    rw (← c.self.view_is) (c.in_ok-push-in-None.ensures.items ∙ ap (λ ls. c.args.lines.now.items ++ ls)
    (there_is_none n (met_lines g.K.ChannelKeys.signer) cs
    (sym (searched n cs _ _ None c.in-None.is c.place_of.ensures c.deref.ensures.value))))

pub invariant_of-self : goal.invariant_of-self
invariant_of-self g c =
    still_once c.self.inside.items.items c.in-Some.i _ c.come_up.new.self c.index_mut.ensures.value
    c.come_up.ensures.number c.self.invariant

pub returns-in-Some-clause-moved : goal.returns-in-Some-clause-moved
returns-in-Some-clause-moved g c =
    let n = c.args.number in
    let cs = c.self.inside.items.items in
    rw (← c.self.view_is) (on_ok c.come_up.result (λ e. placed g.K.ChannelKeys.signer n up_moves cs c.in-Some.i _
    c.come_up.new.self c.self.invariant
    (searched n cs _ _ (Some c.in-Some.i) c.in-Some.is c.place_of.ensures c.deref.ensures.value)
    (e ∙ ap (moved g.K.ChannelKeys.signer up_moves) c.index_mut.ensures.value)) c.come_up.ensures.moved)

pub returns-in-Some-clause-told : goal.returns-in-Some-clause-told
returns-in-Some-clause-told g c =
    let n = c.args.number in
    let cs = c.self.inside.items.items in
    let told = met_lines g.K.ChannelKeys.signer in
    rw (← c.self.view_is) (on_ok c.come_up.result (λ e. e ∙ ap (λ ls. c.args.lines.now.items ++ ls)
    (ap told c.index_mut.ensures.value ∙ there_is n told cs c.in-Some.i _
    (searched n cs _ _ (Some c.in-Some.i) c.in-Some.is c.place_of.ensures c.deref.ensures.value)))
    c.come_up.ensures.told)
