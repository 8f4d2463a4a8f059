use Rattle.std.proofs.Common.{◌++◌, None, Some, sym, ap, ◌∙◌}
use Rattle.ln_world_channels.specs.WorldChannel.{WorldChannel, side_of, moved, disconnect_moves, fallen_lines}
use Rattle.ln_world_channels.proofs.Moving.{on_ok}
use Rattle.ln_world_channels.proofs.Places.{searched, placed, nowhere, not_found, still_once, there_is, there_is_none}
use Rattle.ln_world_channels.proofs.channels.Channels.disconnect.Goals as goal

pub returns-in_ok-push-in-None-clause-moved : goal.returns-in_ok-push-in-None-clause-moved
returns-in_ok-push-in-None-clause-moved g c =
    let n = c.args.end.channel in
    let cs = c.self.inside.items.items in
    rw (← c.self.view_is) (nowhere g.K.ChannelKeys.signer n (disconnect_moves c.args.end.node) cs
    (not_found n cs (sym (searched n cs _ _ None c.in-None.is c.place_of.ensures c.deref.ensures.value))))

pub returns-in_ok-push-in-None-clause-told : goal.returns-in_ok-push-in-None-clause-told
returns-in_ok-push-in-None-clause-told g c =
    let n = c.args.end.channel in
    let cs = c.self.inside.items.items in
    rw (← c.self.view_is) (c.in_ok-push-in-None.ensures.items ∙ ap (λ ls. c.args.lines.now.items ++ ls)
    (there_is_none n (λ d. fallen_lines (side_of c.args.end.node d)) cs
    (sym (searched n cs _ _ None c.in-None.is c.place_of.ensures c.deref.ensures.value))))

pub invariant_of-self : goal.invariant_of-self
invariant_of-self g c =
    still_once c.self.inside.items.items c.in-Some.i _ c.disconnect.new.self c.index_mut.ensures.value
    c.disconnect.ensures.number c.self.invariant

pub returns-in-Some-clause-moved : goal.returns-in-Some-clause-moved
returns-in-Some-clause-moved g c =
    let n = c.args.end.channel in
    let cs = c.self.inside.items.items in
    let moves = disconnect_moves c.args.end.node in
    rw (← c.self.view_is) (on_ok c.disconnect.result (λ e. placed g.K.ChannelKeys.signer n moves cs c.in-Some.i _
    c.disconnect.new.self c.self.invariant
    (searched n cs _ _ (Some c.in-Some.i) c.in-Some.is c.place_of.ensures c.deref.ensures.value)
    (e ∙ ap (moved g.K.ChannelKeys.signer moves) c.index_mut.ensures.value)) c.disconnect.ensures.moved)

pub returns-in-Some-clause-told : goal.returns-in-Some-clause-told
returns-in-Some-clause-told g c =
    let n = c.args.end.channel in
    let cs = c.self.inside.items.items in
    let told = λ (d : WorldChannel _). fallen_lines (side_of c.args.end.node d) in
    rw (← c.self.view_is) (on_ok c.disconnect.result (λ e. e ∙ ap (λ ls. c.args.lines.now.items ++ ls)
    (ap told c.index_mut.ensures.value ∙ there_is n told cs c.in-Some.i _
    (searched n cs _ _ (Some c.in-Some.i) c.in-Some.is c.place_of.ensures c.deref.ensures.value)))
    c.disconnect.ensures.told)
