use Rattle.std.proofs.Common.{◌≡◌, ◌∙◌, refl, sym, ap, subst, IfOk, IfErr, inl}
use Rattle.std.proofs.lemmas.Result.{err_from_is_err_and}
use Rattle.ln_refusals.specs.declared.refusal.Refusal.TheVariants as refusal
use Rattle.ln_channel.specs.Record.{saved_end}
use Rattle.ln_channel.specs.State.{State}
use Rattle.ln_link.specs.Loading.{ComesBackOf}
use Rattle.ln_world_channels.specs.Both.{back}
use Rattle.ln_world_channels.specs.Stored.{IsKept, link_record}
use Rattle.ln_world_channels.proofs.Stored.{comes_back_from, came_so, drops_kept}
use Rattle.ln_world_channels.proofs.saved_link.SavedLink.restart.Goals as goal

pub invariant_of-self : goal.invariant_of-self
invariant_of-self g c =
    let l = c.self.inside.link in
    subst (λ n. IsKept n c.self.inside.store) (sym (c.drop_connection.ensures.state l refl))
    (drops_kept (g.K.ChannelKeys.signer l.keys) l c.self.inside.store c.self.invariant)

pub returns-in_err-link-in-Some-clause-fails_for_memory_alone :
    goal.returns-in_err-link-in-Some-clause-fails_for_memory_alone
returns-in_err-link-in-Some-clause-fails_for_memory_alone g c =
    let x = comes_back_from (g.K.ChannelKeys.signer c.self.inside.link.keys) c.args.keys c.self.inside.link
    c.self.inside.store c.in-Some.bytes
    c.from_record.result
    (sym c.in-Some.is ∙ c.in_ok-record.ensures.record
    ∙ ap link_record (sym (c.self.view_is ∙ c.in_ok-record.ensures.changes_nothing)))
    c.self.invariant (λ i r e. c.from_record.ensures.loads_each_record i r (inl (c.as_slice.ensures ∙ e))) in
    let p = err_from_is_err_and c.from_residual-in_err-link-in-Some.result
    c.from_residual-in_err-link-in-Some.ensures.1 in
    rw (p.1, p.2) (subst (λ r. IfErr r (λ e. e ≡ refusal.Memory)) c.in_err-link-in-Some.was x.memory)

pub take_past_of-requires : goal.take_past_of-requires
take_past_of-requires g c =
    let x = comes_back_from (g.K.ChannelKeys.signer c.self.inside.link.keys) c.args.keys c.self.inside.link
    c.self.inside.store c.in-Some.bytes
    c.from_record.result
    (sym c.in-Some.is ∙ c.in_ok-record.ensures.record
    ∙ ap link_record (sym (c.self.view_is ∙ c.in_ok-record.ensures.changes_nothing)))
    c.self.invariant (λ i r e. c.from_record.ensures.loads_each_record i r (inl (c.as_slice.ensures ∙ e))) in
    (subst (λ r. IfOk r (λ (n : State _). ComesBackOf n c.self.inside.link × (n.keys ≡ c.args.keys)))
    c.in_ok-link-in-Some.was x.loaded).0

pub invariant_of-self-in-Some : goal.invariant_of-self-in-Some
invariant_of-self-in-Some g c =
    subst (λ (n : State _). IsKept n c.self.inside.store) (sym c.put.ensures)
    (came_so (g.K.ChannelKeys.signer c.self.inside.link.keys) c.in_ok-link-in-Some.link.keys c.self.inside.link
    c.take_past_of.new.self c.self.inside.store c.take_past_of.ensures c.self.invariant).1

pub returns-in_ok-link-in-Some-clause-back : goal.returns-in_ok-link-in-Some-clause-back
returns-in_ok-link-in-Some-clause-back g c =
    let x = comes_back_from (g.K.ChannelKeys.signer c.self.inside.link.keys) c.args.keys c.self.inside.link
    c.self.inside.store c.in-Some.bytes
    c.from_record.result
    (sym c.in-Some.is ∙ c.in_ok-record.ensures.record
    ∙ ap link_record (sym (c.self.view_is ∙ c.in_ok-record.ensures.changes_nothing)))
    c.self.invariant (λ i r e. c.from_record.ensures.loads_each_record i r (inl (c.as_slice.ensures ∙ e))) in
    let keys = (subst (λ r. IfOk r (λ (n : State _). ComesBackOf n c.self.inside.link × (n.keys ≡ c.args.keys)))
    c.in_ok-link-in-Some.was x.loaded).1 in
    c.put.ensures
    ∙ (came_so (g.K.ChannelKeys.signer c.self.inside.link.keys) c.in_ok-link-in-Some.link.keys c.self.inside.link
    c.take_past_of.new.self c.self.inside.store c.take_past_of.ensures c.self.invariant).0
    ∙ ap (λ k. back k c.self.inside.link (saved_end c.self.inside.link.stage)) keys
    ∙ ap (λ (l : State _). back c.args.keys l (saved_end l.stage))
    (c.self.view_is ∙ c.in_ok-record.ensures.changes_nothing)
