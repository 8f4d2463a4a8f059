use Rattle.std.proofs.Common.{refl, sym, ◌∙◌, ap, subst, inl, ◌≡◌, true, false, not, ◌&&◌, is_none, is_some}
use Rattle.ln_link.specs.Saving.{Refuses, is_failing}
use Rattle.ln_link.proofs.link.Link.refuse.Goals as goal

pub returns-in-Ok-clause-refuses : goal.returns-in-Ok-clause-refuses
returns-in-Ok-clause-refuses g c = λ l s.
    let k = c.self.view_is ∙ s in
    let up : l.halted ≡ false = sym (c.is_halted.ensures l k) ∙ c.if-is_halted.false in
    let some : is_some l.failure ≡ true =
    ap is_some (sym (c.failure.ensures.failure l k)) ∙ c.if-is_none.ensures in
    let failing : (is_failing l && c.args.healthy) ≡ true =
    ap (λ b. (not b && not (is_none l.failure)) && c.args.healthy) up
    ∙ ap (λ b. not (not b) && c.args.healthy) some ∙ c.if-not-healthy.false in
    subst (λ b. Refuses b c.args.refusal c.args.refusal l c.save.new.self
    (g.S.RecordStore.store_view c.args.store.now)
    (g.S.RecordStore.store_view c.save.new.store)) (sym failing)
    (let kept = c.in-Ok.ensures.keeps l s in inl (refl, kept.0, kept.1))
