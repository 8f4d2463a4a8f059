use Rattle.std.proofs.Common.{◌∙◌, ap, sym, slice_set}
use Rattle.std.specs.List.{position}
use Rattle.ln_channel.specs.Ledger.{is_held_at}
use Rattle.ln_channel.proofs.Held.{none_held, some_held, marked_at}
use Rattle.ln_channel.proofs.ledger.put_mark.Goals as goal

pub returns-in_default-clause-tells_it : goal.returns-in_default-clause-tells_it
returns-in_default-clause-tells_it c =
    sym (none_held (is_held_at c.args.event) c.args.decisions.now.items
    (ap (position (is_held_at c.args.event)) (sym c.as_slice.ensures.value) ∙ sym c.held_at.ensures ∙ c.in_default.is))

pub returns : goal.returns
returns c =
    let at = ap (position (is_held_at c.args.event)) (sym c.as_slice.ensures.value)
    ∙ sym c.held_at.ensures ∙ c.in-Some.is in
    let d = c.index_mut-decision.result.now in
    record {
      tells_it = sym (some_held (is_held_at c.args.event) c.args.decisions.now.items c.in-Some.place d at);
      put = λ _. ap (λ x. slice_set c.args.decisions.now.items c.in-Some.place (record { id = x; mark = c.args.mark }))
          (ap (λ x. x.id) c.index_mut-decision.ensures.value)
          ∙ marked_at c.args.event c.args.mark c.args.decisions.now.items c.in-Some.place _ at;
      changes_nothing = λ e. absurd cc;
    }
