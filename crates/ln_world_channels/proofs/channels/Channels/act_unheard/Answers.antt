use Rattle.std.proofs.Common.{None, Some, sym, ap, subst, ◌∙◌}
use Rattle.std.proofs.lemmas.Result.{IfErr-weaker}
use Rattle.ln_world_channels.specs.WorldChannel.{acted_unheard}
use Rattle.ln_world_channels.specs.Failing.{ActLacks}
use Rattle.ln_world_channels.proofs.Lacking.{by_record, lacks_there}
use Rattle.ln_world_channels.proofs.Moving.{on_ok}
use Rattle.ln_world_channels.proofs.Places.{searched, changed, unchanged_there, still_once}
use Rattle.ln_world_channels.proofs.channels.Channels.act_unheard.Goals as goal

pub returns-in-None-clause-acted : goal.returns-in-None-clause-acted
returns-in-None-clause-acted g c =
    let n = c.args.end.channel in
    let cs = c.self.inside.items.items in
    rw (← c.self.view_is)
    (unchanged_there n (acted_unheard g.K.ChannelKeys.signer c.args.end.node c.args.what) cs
    (sym (searched n cs _ _ None c.in-None.is c.place_of.ensures c.deref.ensures.value)))

pub invariant_of-self : goal.invariant_of-self
invariant_of-self g c =
    still_once c.self.inside.items.items c.in-Some.i _ c.act_unheard.new.self c.index_mut.ensures.value
    c.act_unheard.ensures.number c.self.invariant

pub returns-in-Some-clause-acted : goal.returns-in-Some-clause-acted
returns-in-Some-clause-acted g c =
    let n = c.args.end.channel in
    let cs = c.self.inside.items.items in
    let acted = acted_unheard g.K.ChannelKeys.signer c.args.end.node c.args.what in
    rw (← c.self.view_is) (on_ok c.act_unheard.result (λ e. changed n acted cs c.in-Some.i _
    c.act_unheard.new.self c.self.invariant
    (searched n cs _ _ (Some c.in-Some.i) c.in-Some.is c.place_of.ensures c.deref.ensures.value)
    (e ∙ ap acted c.index_mut.ensures.value)) c.act_unheard.ensures.acted)

pub returns-in-Some-clause-fails : goal.returns-in-Some-clause-fails
returns-in-Some-clause-fails g c =
    let signer = g.K.ChannelKeys.signer in
    let n = c.args.end.channel in
    let cs = c.self.inside.items.items in
    rw (← c.self.view_is) (IfErr-weaker c.act_unheard.result _ _ (λ r. by_record r _ _ (λ h.
    lacks_there signer c.args.end c.args.what cs c.in-Some.i _
    (searched n cs _ _ (Some c.in-Some.i) c.in-Some.is c.place_of.ensures c.deref.ensures.value)
    (subst (ActLacks signer c.args.end.node c.args.what) c.index_mut.ensures.value h))) c.act_unheard.ensures.fails)
