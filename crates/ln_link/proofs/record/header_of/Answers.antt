use Rattle.std.proofs.Common.{◌∙◌, ap}
use Rattle.ln_close.specs.declared.closing.Closing.{Closing}
use Rattle.ln_channel.specs.End.{End}
use Rattle.ln_link.proofs.Written.{header_so}
use Rattle.ln_link.proofs.record.header_of.Goals as goal

pub returns : goal.returns
returns c = λ e s.
    header_so (record {
      channel = c.id.result;
      role = c.closing.result.role;
      flags = c.flags_of.result;
      failure = c.args.failure;
    }) e (c.id.ensures ∙ ap (λ (x : End). x.dance.channel) s)
    (ap (λ (x : Closing). x.role) c.closing.ensures ∙ ap (λ (x : End). x.closing.role) s) (c.flags_of.ensures e s)
