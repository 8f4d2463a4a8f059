use Rattle.std.proofs.Common.{◌++◌, None, Some, sym, ap, subst, ◌∙◌}
use Rattle.std.proofs.lemmas.Result.{IfErr-weaker}
use Rattle.ln_world_channels.specs.WorldChannel.{WorldChannel, side_of, moved, act_moves, acted_lines}
use Rattle.ln_world_channels.specs.Failing.{ActLacks}
use Rattle.ln_world_channels.proofs.Lacking.{by_record, lacks_there}
use Rattle.ln_world_channels.proofs.Moving.{on_ok}
use Rattle.ln_world_channels.proofs.Places.{searched, placed, nowhere, not_found, still_once, there_is, there_is_none}
use Rattle.ln_world_channels.proofs.channels.Channels.act.Goals as goal

pub returns-in_ok-push-in-None-clause-moved : goal.returns-in_ok-push-in-None-clause-moved
returns-in_ok-push-in-None-clause-moved g c =
    let n = c.args.end.channel in
    let cs = c.self.inside.items.items in
    rw (← c.self.view_is) (nowhere g.K.ChannelKeys.signer n (act_moves c.args.end.node c.args.what) cs
    (not_found n cs (sym (searched n cs _ _ None c.in-None.is c.place_of.ensures c.deref.ensures.value))))

pub returns-in_ok-push-in-None-clause-told : goal.returns-in_ok-push-in-None-clause-told
returns-in_ok-push-in-None-clause-told g c =
    let n = c.args.end.channel in
    let cs = c.self.inside.items.items in
    rw (← c.self.view_is) (c.in_ok-push-in-None.ensures.items ∙ ap (λ ls. c.args.lines.now.items ++ ls)
    (there_is_none n (λ d. acted_lines g.K.ChannelKeys.signer c.args.what d (side_of c.args.end.node d)) cs
    (sym (searched n cs _ _ None c.in-None.is c.place_of.ensures c.deref.ensures.value))))

pub invariant_of-self : goal.invariant_of-self
invariant_of-self g c =
    still_once c.self.inside.items.items c.in-Some.i _ c.act.new.self c.index_mut.ensures.value
    c.act.ensures.number c.self.invariant

pub returns-in-Some-clause-moved : goal.returns-in-Some-clause-moved
returns-in-Some-clause-moved g c =
    let n = c.args.end.channel in
    let cs = c.self.inside.items.items in
    let moves = act_moves c.args.end.node c.args.what in
    rw (← c.self.view_is) (on_ok c.act.result (λ e. placed g.K.ChannelKeys.signer n moves cs c.in-Some.i _
    c.act.new.self c.self.invariant
    (searched n cs _ _ (Some c.in-Some.i) c.in-Some.is c.place_of.ensures c.deref.ensures.value)
    (e ∙ ap (moved g.K.ChannelKeys.signer moves) c.index_mut.ensures.value)) c.act.ensures.moved)

pub returns-in-Some-clause-told : goal.returns-in-Some-clause-told
returns-in-Some-clause-told g c =
    let n = c.args.end.channel in
    let cs = c.self.inside.items.items in
    let told = λ (d : WorldChannel _). acted_lines g.K.ChannelKeys.signer c.args.what d (side_of c.args.end.node d) in
    rw (← c.self.view_is) (on_ok c.act.result (λ e. e ∙ ap (λ ls. c.args.lines.now.items ++ ls)
    (ap told c.index_mut.ensures.value ∙ there_is n told cs c.in-Some.i _
    (searched n cs _ _ (Some c.in-Some.i) c.in-Some.is c.place_of.ensures c.deref.ensures.value))) c.act.ensures.told)

pub returns-in-Some-clause-fails : goal.returns-in-Some-clause-fails
returns-in-Some-clause-fails g c =
    let signer = g.K.ChannelKeys.signer in
    let n = c.args.end.channel in
    let cs = c.self.inside.items.items in
    rw (← c.self.view_is) (IfErr-weaker c.act.result _ _ (λ r. by_record r _ _ (λ h.
    lacks_there signer c.args.end c.args.what cs c.in-Some.i _
    (searched n cs _ _ (Some c.in-Some.i) c.in-Some.is c.place_of.ensures c.deref.ensures.value)
    (subst (ActLacks signer c.args.end.node c.args.what) c.index_mut.ensures.value h))) c.act.ensures.fails)
