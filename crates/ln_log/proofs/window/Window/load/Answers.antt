use Rattle.std.proofs.Common.{refl, sym, ap, ◌∙◌, subst, take, ◌++◌, ◌-◌, arith}
use Rattle.ln_log.specs.Kept.{IsKeptInOrder}
use Rattle.ln_log.specs.RecordForm.{record_form, kept_of}
use Rattle.ln_log.proofs.Restored.{own_fits, peer_fits, fits_so, stands_so, same_kept}
use Rattle.ln_log.proofs.Retold.{in_order}
use Rattle.ln_log.proofs.Stands.{same_counts_by}
use Rattle.ln_log.proofs.window.Window.load.Goals as goal

pub standing_behind-requires : goal.standing_behind-requires
standing_behind-requires c =
    let t = record_form c.args.opening c.args.role c.args.base.now c.args.own.items c.args.received.items
    c.args.coverage in
    fits_so _ _ _ _ _ _ _ _ _ _ (c.deref-2.ensures.value ∙ c.in_ok-own_live_htlcs.ensures.own) c.deref-3.ensures.value
    (c.deref-4.ensures.value ∙ c.in_ok-own_live_htlcs.ensures.peer) c.deref-5.ensures.value (own_fits t c.requires)

pub standing_behind-requires-2 : goal.standing_behind-requires-2
standing_behind-requires-2 c =
    let t = record_form c.args.opening c.args.role c.args.base.now c.args.own.items c.args.received.items
    c.args.coverage in
    fits_so _ _ _ _ _ _ _ _ _ _ (c.deref-6.ensures.value ∙ c.in_ok-own_live_htlcs.ensures.peer) c.deref-7.ensures.value
    (c.deref-8.ensures.value ∙ c.in_ok-own_live_htlcs.ensures.own)
    (ap (take (c.args.coverage.acknowledged.own - c.args.base.now.updates.own)) c.deref.ensures.value)
    (peer_fits t c.requires)

pub invariant_of-result : goal.invariant_of-result
invariant_of-result c =
    let t = record_form c.args.opening c.args.role c.args.base.now c.args.own.items c.args.received.items
    c.args.coverage in
    let own = stands_so _ _ _ _ _ _ _ _ _ _ _ c.in_ok-own_standing.ensures.gives_the_standing
    (c.deref-2.ensures.value ∙ c.in_ok-own_live_htlcs.ensures.own) c.deref-3.ensures.value
    (c.deref-4.ensures.value ∙ c.in_ok-own_live_htlcs.ensures.peer) c.deref-5.ensures.value in
    let peer = stands_so _ _ _ _ _ _ _ _ _ _ _ c.in_ok-peer_standing.ensures.gives_the_standing
    (c.deref-6.ensures.value ∙ c.in_ok-own_live_htlcs.ensures.peer) c.deref-7.ensures.value
    (c.deref-8.ensures.value ∙ c.in_ok-own_live_htlcs.ensures.own)
    (ap (take (c.args.coverage.acknowledged.own - c.args.base.now.updates.own)) c.deref.ensures.value) in
    subst IsKeptInOrder
    (sym (same_kept _ (kept_of t) refl refl refl (same_counts_by _ _
    (omega (arith, c.len.ensures, c.args.base.now.own.ok))
    (omega (arith, c.len-2.ensures, c.args.base.now.peer.ok))) refl
    (c.in_ok-own.ensures.joins_them ∙ ap (λ x. x ++ c.args.own.items) c.in_ok-own_live_htlcs.ensures.own)
    (c.in_ok-received.ensures.joins_them ∙ ap (λ x. x ++ c.args.received.items) c.in_ok-own_live_htlcs.ensures.peer)
    refl refl refl own own peer peer))
    (in_order t c.requires)
