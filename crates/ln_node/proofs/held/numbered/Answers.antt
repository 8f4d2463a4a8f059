use Rattle.std.proofs.Common.{◌++◌, Some, ap, sym, ◌∙◌, append-nil}
use Rattle.ln_node.specs.Held.{numbered, with_number}
use Rattle.ln_node.proofs.Numbering.{one-more}
use Rattle.ln_node.proofs.held.numbered.Goals as goal

pub loop-htlc-preserved-in-Continue-1 : goal.loop-htlc-preserved-in-Continue-1
loop-htlc-preserved-in-Continue-1 c =
    let place = sym c.place_of.ensures ∙ c.in-Some-place_of.is in
    c.in_ok-push.ensures.items
    ∙ ap (λ l. l ++ with_number (Some c.in-Some-place_of.channel) c.in-Some.htlc) c.loop-htlc.invariant
    ∙ ap (λ n. numbered c.args.ids.now c.loop-htlc.yielded ++ with_number n c.in-Some.htlc) (sym place)
    ∙ sym (one-more c.args.ids.now c.loop-htlc.yielded c.in-Some.htlc)

pub loop-htlc-preserved : goal.loop-htlc-preserved
loop-htlc-preserved c =
    let place = sym c.place_of.ensures ∙ c.in_default.is in
    c.loop-htlc.invariant
    ∙ sym (append-nil (numbered c.args.ids.now c.loop-htlc.yielded))
    ∙ ap (λ n. numbered c.args.ids.now c.loop-htlc.yielded ++ with_number n c.in-Some.htlc) (sym place)
    ∙ sym (one-more c.args.ids.now c.loop-htlc.yielded c.in-Some.htlc)
