use Rattle.std.proofs.Common.{◌≡◌, ℕ, List, Option, IfOk, refl, sym, ap, ◌∙◌, subst}
use Rattle.std.specs.Option.{option_copied}
use Rattle.ln_keys.specs.declared.view.View.{View}
use Rattle.ln_channel.specs.declared.machine.ConnectionState.{ConnectionState}
use Rattle.ln_host.specs.declared.question.Question.{Question}
use Rattle.ln_host.specs.Question.{asked_saved, asked_opening}
use Rattle.ln_channel.specs.Step.{opened}
use Rattle.ln_host.proofs.Asked.{of_saved, of_signed, of_opening}
use Rattle.ln_host.proofs.question.question_about.Goals as goal

pub returns-in-Some-clause-asked : goal.returns-in-Some-clause-asked
returns-in-Some-clause-asked g c = λ l s.
    let e = c.in-Some.channel.now in
    let m = c.args.message.now in
    let reaches = sym (c.reaches_channel.ensures l s) ∙ c.if-not-reaches_channel.false in
    let saved = sym (c.saved.ensures.end l s) ∙ ap option_copied c.in-Some.is in
    let asked = ap (λ (x : ConnectionState). asked_saved x m e) (c.connection.ensures l s)
    ∙ sym (of_saved l m e reaches saved) in
    subst (λ (q : Option Question). IfOk c.asked_saved.result (λ r. r ≡ q)) asked (c.asked_saved.ensures.asked e refl)

pub returns-in-Some-agreed-clause-asked : goal.returns-in-Some-agreed-clause-asked
returns-in-Some-agreed-clause-asked g c = λ l s.
    let e = c.in-Some-agreed.channel.now in
    let m = c.args.message.now in
    let reaches = sym (c.reaches_channel.ensures l s) ∙ c.if-not-reaches_channel.false in
    let unsaved = sym (c.saved.ensures.end l s) ∙ ap option_copied c.in_default.is in
    let agreed = sym (c.agreed.ensures.end l s) ∙ ap option_copied c.in-Some-agreed.is in
    subst (λ (q : Option Question). IfOk c.asked_signed.result (λ r. r ≡ q)) (sym (of_signed l m e reaches unsaved
    agreed))
    (c.asked_signed.ensures.asked e refl)

pub returns-in_ok-first_view-in-None-clause-asked : goal.returns-in_ok-first_view-in-None-clause-asked
returns-in_ok-first_view-in-None-clause-asked g c = λ l s.
    let m = c.args.message.now in
    let reaches = sym (c.reaches_channel.ensures l s) ∙ c.if-not-reaches_channel.false in
    let none = sym (c.agreed.ensures.end l s) ∙ ap option_copied c.in-None.is in
    let view = c.in_ok-first_view-in-None.ensures.view l s in
    c.asked_opening.ensures
    ∙ (ap (λ (o : Option (List ℕ)). asked_opening o c.in_ok-first_view-in-None.field-0) (c.opens.ensures l s)
    ∙ (ap (λ (v : Option View). asked_opening (opened l m) v) view ∙ sym (of_opening l m reaches none)))
