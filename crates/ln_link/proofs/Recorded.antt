-- What a lost connection leaves of an end is what its record has.
use Rattle.std.proofs.Common.{◌≡◌, ◌∙◌, ap, arith, take, Option}
use Rattle.std.proofs.lemmas.List.{take-take}
use Rattle.ln_refusals.specs.declared.refusal.Refusal.{Refusal}
use Rattle.ln_log.specs.Log.{Log, after_drop}
use Rattle.ln_channel.specs.End.{End, end_dropped}
use Rattle.ln_channel.specs.Opening.{opening_of}
use Rattle.ln_link.specs.Record.{header_of, agreement_of, commitments_of, updates_of, progress_of, items_of}

-- what is lost twice is lost once
pub lost_twice : (l : Log) → after_drop (after_drop l) ≡ after_drop l
lost_twice l =
    ap (λ us. record l { own = us; received = take l.current.peer (take l.current.peer l.received) })
    (take-take l.signed.own l.signed.own l.own (omega arith))
    ∙ ap (λ us. record l { own = take l.signed.own l.own; received = us })
    (take-take l.current.peer l.current.peer l.received (omega arith))

pub recorded : (failure : Option Refusal) (e : End) → items_of failure (end_dropped e) ≡ items_of failure e
unfolding items_of header_of agreement_of progress_of
recorded failure e =
    ap (λ (l : Log). record {
      header = header_of failure e;
      agreement = agreement_of e;
      commitments = commitments_of e.dance;
      updates = updates_of (opening_of e.terms) e.closing.role l;
      progress = progress_of e;
    }) (lost_twice e.dance.log)
