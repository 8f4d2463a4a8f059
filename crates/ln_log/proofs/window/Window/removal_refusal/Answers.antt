use Rattle.std.proofs.Common.{◌<◌, sym, ◌∙◌, arith}
use Rattle.ln_log.specs.Updates.{next_id}
use Rattle.ln_log.proofs.Handed.{next_all, held_is, removal_none, removal_gone, removal_unheld, removal_held}
use Rattle.ln_log.proofs.window.Window.removal_refusal.Goals as goal

pub returns-then-from-next : goal.returns-then-from-next
returns-then-from-next c = λ l s.
    removal_none l c.in-Some.removal _ s.is_kept.peer_ids (sym c.removal_of.ensures ∙ c.in-Some.is)
    (omega (
      arith,
      c.if-from-next.true,
      c.next_of_peer-next.ensures l s,
      next_all _ l.received (c.len.ensures.length l s),
      c.from.ensures,
    ))

pub returns-then-not-live : goal.returns-then-not-live
returns-then-not-live c = λ l s.
    let lt : c.in-Some.removal.id < next_id l.received = omega (
      arith,
      c.if-from-next.false,
      c.next_of_peer-next.ensures l s,
      next_all _ l.received (c.len.ensures.length l s),
      c.from.ensures,
    ) in
    removal_gone l c.in-Some.removal _ _ s.is_kept.peer_ids (sym c.removal_of.ensures ∙ c.in-Some.is) lt
    (c.is_live-live.ensures l s lt) c.if-not-live.true

pub returns-then-from-held : goal.returns-then-from-held
returns-then-from-held c = λ l s.
    let lt : c.in-Some.removal.id < next_id l.received = omega (
      arith,
      c.if-from-next.false,
      c.next_of_peer-next.ensures l s,
      next_all _ l.received (c.len.ensures.length l s),
      c.from.ensures,
    ) in
    removal_unheld l c.in-Some.removal _ _ s.is_kept.peer_ids (sym c.removal_of.ensures ∙ c.in-Some.is) lt
    (c.is_live-live.ensures l s lt) c.if-not-live.false
    (omega (
      arith,
      c.if-from-held.true,
      held_is _ _ l c.self.view_is s (c.next_of_peer-held.ensures l s),
      c.from-else-not-live.ensures,
    ))

pub returns-else-from-held : goal.returns-else-from-held
returns-else-from-held c = λ l s.
    let lt : c.in-Some.removal.id < next_id l.received = omega (
      arith,
      c.if-from-next.false,
      c.next_of_peer-next.ensures l s,
      next_all _ l.received (c.len.ensures.length l s),
      c.from.ensures,
    ) in
    removal_held l c.in-Some.removal _ _ s.is_kept.peer_ids (sym c.removal_of.ensures ∙ c.in-Some.is) lt
    (c.is_live-live.ensures l s lt) c.if-not-live.false
    (omega (
      arith,
      c.if-from-held.false,
      held_is _ _ l c.self.view_is s (c.next_of_peer-held.ensures l s),
      c.from-else-not-live.ensures,
    ))
