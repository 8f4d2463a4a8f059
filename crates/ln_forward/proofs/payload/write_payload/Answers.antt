use Rattle.std.proofs.Common.{◌≡◌, ◌∙◌, Ok}
use Rattle.ln_forward.specs.Payload.{SpellsHop, hop_of, payload_at, known}
use Rattle.ln_forward.proofs.Again.{payload_again}
use Rattle.ln_forward.proofs.Written.{if_ok_so, spells_hop, known_so}
use Rattle.ln_forward.proofs.payload.write_payload.Goals as goal

pub returns-clause-is_spelled_so : goal.returns-clause-is_spelled_so
returns-clause-is_spelled_so c =
    let h = hop_of c.args.payload.now in
    let is = c.deref.ensures.value ∙ c.in_ok-records.ensures.records in
    if_ok_so c.write_tlvs.result _ (λ v. SpellsHop h v.items)
    (λ v spells. spells_hop h c.deref.result.now v.items c.in_ok-records.ensures.is_wide is spells)
    (c.write_tlvs.ensures.spells_the_records known (known_so h c.deref.result.now is))

pub returns-clause-is_read_again : goal.returns-clause-is_read_again
returns-clause-is_read_again c =
    let h = hop_of c.args.payload.now in
    if_ok_so c.write_tlvs.result (λ v. SpellsHop h v.items) (λ v. payload_at v.items ≡ Ok h)
    (λ v spells. payload_again h v.items spells) (returns-clause-is_spelled_so c)
