use Rattle.std.proofs.Common.{refl, sym, ap, subst, rules, ◌∙◌}
use Rattle.ln_log.specs.Log.{Log}
use Rattle.ln_dance.specs.Dance.{AreInStep}
use Rattle.ln_log.specs.declared.opening.Opening.{Opening}
use Rattle.ln_channel.specs.Opening.{opening_of}
use Rattle.ln_channel.specs.declared.opening.Terms.{Terms}
use Rattle.ln_link.specs.Loading.{dance_of, log_of}
use Rattle.ln_link.proofs.Again.{parts, stepping, told_end, loadable}
use Rattle.ln_link.proofs.loading.channel_of.Goals as goal

pub ledger_of-ledger-requires : goal.ledger_of-ledger-requires
ledger_of-ledger-requires c = (parts c.args.items c.requires).decided

pub dance_of-dance-requires : goal.dance_of-dance-requires
dance_of-dance-requires c =
    let p = parts c.args.items c.requires in
    subst (λ (l : Log). AreInStep c.args.items.commitments.numbers l) (sym c.in-Ok-log_of.ensures.log.1)
    (stepping c.args.items.commitments.numbers c.opening_of.result c.args.items.header.role c.args.items.updates
    p.in_step p.settled)

pub from_parts-requires : goal.from_parts-requires
from_parts-requires c =
    let dance = c.dance_of-dance.ensures _ c.in-Ok-log_of.ensures.log.1 in search (rules, dance)

pub returns-clause-channel : goal.returns-clause-channel
returns-clause-channel c =
    let i = c.args.items in
    let told = c.in-Ok-log_of.ensures.log in
    let opening = c.opening_of.ensures ∙ ap (λ (t : Terms). opening_of t) c.in-Ok.ensures.terms in
    let dance = c.dance_of-dance.ensures _ told.1
    ∙ ap (λ (o : Opening). dance_of i.header i.commitments (log_of o i.header.role i.updates)) opening in
    let rest = c.if-not-are_loadable.ensures.0 refl in (
      loadable i c.opening_of.result opening told.0 rest.0 rest.1,
      c.from_parts.ensures ∙ told_end i _ _ _ _ _ dance c.closing_of-closing.ensures c.in-Ok.ensures.terms
          c.readiness_of-readiness.ensures c.ledger_of-ledger.ensures,
    )
