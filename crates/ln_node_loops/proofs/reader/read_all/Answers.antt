use Rattle.std.proofs.Common.{◌≡◌, ◌⊎◌, Err, Ok, subst}
use Rattle.ln_bytes.specs.declared.fault.Fault.TheVariants.{Memory}
use Rattle.ln_msgs.specs.Messages.Message.{message_at}
use Rattle.ln_msgs.specs.Messages.Typed.{heard}
use Rattle.ln_node_loops.proofs.Hearing.{begins, refused, turned}
use Rattle.ln_node_loops.proofs.reader.read_all.Goals as goal

pub loop-init : goal.loop-init
loop-init g c = begins _ _

pub returns-in-Err-decode : goal.returns-in-Err-decode
returns-in-Err-decode g c =
    refused _ _ _ _ _ c.loop.invariant _ _ c.in-Ok-Some.message c.in-Ok-Some.field-0-is c.in-Ok-Some.ensures
    c.in-Err-decode.fault
    (subst (λ bs. (c.in-Err-decode.fault ≡ Memory) ⊎ (message_at bs ≡ Err c.in-Err-decode.fault))
    c.as_slice.ensures.value c.in-Err-decode.ensures.reads_as_defined)

pub loop-preserved : goal.loop-preserved
loop-preserved g c =
    turned _ _ _ _ _ c.loop.invariant _ _ c.in-Ok-Some.message c.in-Ok-Some.field-0-is c.in-Ok-Some.ensures _
    c.in-Ok.incoming (subst (λ bs. message_at bs ≡ Ok (heard c.in-Ok.incoming)) c.as_slice.ensures.value
    c.in-Ok.ensures.reads_as_defined) c.put_known.ensures
