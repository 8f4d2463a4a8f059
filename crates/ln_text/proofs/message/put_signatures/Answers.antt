use Rattle.ln_text.proofs.Shown.{signatures_more}
use Rattle.ln_text.proofs.message.put_signatures.Goals as goal

pub loop-signature-preserved : goal.loop-signature-preserved
loop-signature-preserved c =
    signatures_more _ _ _ c.args.list.now c.loop-signature.signature-index _ c.loop-signature-test.true
    c.loop-signature.invariant c.in_ok-put_signature.ensures
