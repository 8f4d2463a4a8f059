use Rattle.std.proofs.Common.{◌≡◌, List, Result, Ok, subst}
use Rattle.ln_bytes.specs.Reading.{Gives}
use Rattle.ln_bytes.specs.declared.fault.Fault.{Fault}
use Rattle.ln_bytes.specs.declared.record.Record.{Record}
use Rattle.ln_bytes.proofs.Reading.{ok_is}
use Rattle.ln_forward.specs.Payload.{Hop, hop_of, hop_in}
use Rattle.ln_forward.proofs.Again.{hop_again}
use Rattle.ln_forward.proofs.payload.read_payload.Goals as goal

pub returns-clause-reads_each_spelling : goal.returns-clause-reads_each_spelling
returns-clause-reads_each_spelling c h s =
    let same : s.records ≡ c.in_ok-records.records.items =
    ok_is {A = List Record} s.records c.in_ok-records.records.items
    (c.in_ok-records.ensures.reads_each_spelling s.records s.spells) in
    let read : hop_in c.in_ok-records.records.items ≡ Ok h = rw (← same) (hop_again h s.records s.has) in
    subst (λ (x : Result Hop Fault). Gives hop_of c.payload_in.result x) read
    (subst (λ (rs : List Record). Gives hop_of c.payload_in.result
    (hop_in rs)) c.deref.ensures.value c.payload_in.ensures.exact)
