use Rattle.std.proofs.Common.{◌≡◌, refl, subst}
use Rattle.std.specs.Prelude.{IfOk}
use Rattle.ln_refusals.specs.declared.refusal.Refusal.TheVariants.{Memory}
use Rattle.ln_manager_channels.specs.Calls.{seats}
use Rattle.ln_manager_channels.specs.Loading.{LacksSome, no_seats}
use Rattle.ln_manager.specs.Leads.{Leads}
use Rattle.ln_manager.specs.Managed.{Managed}
use Rattle.ln_manager.proofs.Changed.{none_loaded}
use Rattle.ln_manager.proofs.Leading.{fails_or, loaded}
use Rattle.ln_manager.proofs.manager.Manager.load.Goals as goal

pub over-requires : goal.over-requires
over-requires g c =
    none_loaded c.args.saved.items no_seats (seats c.in-Ok.channels.parts) c.in-Ok.ensures.seats refl

pub returns-in-Ok-clause-loads : goal.returns-in-Ok-clause-loads
returns-in-Ok-clause-loads g c =
    loaded g.K.ChannelKeys.signer c.args.saved.items c.in-Ok.channels _ c.begun.result
    (c.in-Ok.ensures.seats, c.in-Ok.ensures.begins_with_the_ends) c.in-Ok.ensures.begins_here
    (subst (λ (m : Managed _ _). IfOk c.begun.result (λ n. Leads g.K.ChannelKeys.signer m.channels n.channels))
    c.over.ensures
    c.begun.ensures.leads_on)

pub returns-in-Ok-clause-fails : goal.returns-in-Ok-clause-fails
returns-in-Ok-clause-fails g c =
    fails_or (λ r. r ≡ Memory) (λ r. LacksSome c.args.saved.items no_seats r) c.begun.result
    c.begun.ensures.fails_for_memory_alone
