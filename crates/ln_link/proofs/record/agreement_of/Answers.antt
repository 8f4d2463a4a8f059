use Rattle.std.proofs.Common.{◌∙◌, ap, option_map, subst}
use Rattle.ln_msgs.specs.Messages.Typed.{open_wire, accept_wire}
use Rattle.ln_close.specs.declared.closing.Closing.{Closing}
use Rattle.ln_channel.specs.declared.opening.Terms.{Terms}
use Rattle.ln_channel.specs.declared.channel.Readiness.{Readiness}
use Rattle.ln_channel.specs.End.{End}
use Rattle.ln_link.specs.Record.{payload_of, chain_place_of}
use Rattle.ln_link.specs.Loading.{IsSaid}
use Rattle.ln_link.proofs.Written.{agreement_so}
use Rattle.ln_link.proofs.record.agreement_of.Goals as goal

pub returns-clause-agreement : goal.returns-clause-agreement
returns-clause-agreement c = λ e s.
    let terms = c.terms-terms.ensures ∙ ap (λ (x : End). x.terms) s in
    let readiness = c.readiness.ensures ∙ ap (λ (x : End). x.readiness) s in
    let closing = c.closing.ensures ∙ ap (λ (x : End). x.closing) s in
    agreement_so (record {
      open_payload = c.in_ok-open_payload.field-0;
      accept_payload = c.in_ok-accept_payload.field-0;
      place = c.chain_place_of.result;
      fees = c.closing.result.fees;
      script = c.in_ok-script.script;
      peer_script = c.in_ok-script.peer_script;
    }) e
    (c.in_ok-open_payload.ensures.payload ∙ ap (λ (t : Terms). payload_of (open_wire t.open_channel)) terms)
    (c.in_ok-accept_payload.ensures.payload ∙ ap (λ (t : Terms). payload_of (accept_wire t.accept_channel)) terms)
    (c.chain_place_of.ensures.place ∙ ap (λ (m : Readiness). option_map chain_place_of m.short_id) readiness)
    (ap (λ (x : Closing). x.fees) closing) (c.in_ok-script.ensures.copies.0 ∙ ap (λ (t : Terms). t.script) terms)
    (c.in_ok-script.ensures.copies.1 ∙ ap (λ (t : Terms). t.peer_script) terms)

pub returns-clause-open_can_be_read : goal.returns-clause-open_can_be_read
returns-clause-open_can_be_read c = λ e s.
    subst (λ (t : Terms). IsSaid (open_wire t.open_channel)) (c.terms-terms.ensures ∙ ap (λ (x : End). x.terms) s)
    c.in_ok-open_payload.ensures.can_be_read
