use Rattle.std.proofs.Common.{subst}
use Rattle.ln_store.specs.Record.{record_at}
use Rattle.ln_link.specs.Loading.{Loads}
use Rattle.ln_manager_channels.specs.Loading.{ComesBack}
use Rattle.ln_manager_channels.proofs.parts.loading.come_back.Goals as goal

pub returns : goal.returns
unfolding ComesBack
returns g c = subst (λ b. Loads c.args.saved.keys (record_at b) c.from_record.result) c.as_slice.ensures
    c.from_record.ensures.loads_as_defined
