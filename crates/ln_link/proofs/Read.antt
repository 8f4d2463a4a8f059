-- The log that the updates of a record tell.
use Rattle.std.proofs.Common.{◌≡◌, refl, ap, List}
use Rattle.ln_keys.specs.declared.role.Role.{Role}
use Rattle.ln_keys.specs.Role.{other_role}
use Rattle.ln_log.specs.declared.loading.Coverage.{Coverage}
use Rattle.ln_log.specs.declared.opening.Opening.{Opening}
use Rattle.ln_log.specs.declared.record_form.BaseState as first
use Rattle.ln_log.specs.declared.update.Update.{Update}
use Rattle.ln_log.specs.RecordForm.{record_form}
use Rattle.ln_log.proofs.Retold.{same_told}
use Rattle.ln_store.specs.declared.record.Updates.{Updates}
use Rattle.ln_store.specs.Sides.{window_of}
use Rattle.ln_link.specs.Loading.{counts_by, balances_in, live_htlcs_in, coverage_in, told_in}

-- by what is read of its base
pub told_so : (o : Opening) (x : Role) (u : Updates) (b : first.BaseState) (own received : List Update) (c : Coverage)
    → b.updates ≡ counts_by x u.base.updates → b.balances ≡ balances_in x u.base
    → b.own.items ≡ live_htlcs_in x u.base.live
    → b.peer.items ≡ live_htlcs_in (other_role x) u.base.live → own ≡ window_of x u.window
    → received ≡ window_of (other_role x) u.window → c ≡ coverage_in u.pairs
    → record_form o x b own received c ≡ told_in o x u
told_so o x u b own received c first balances owns peers us vs covered =
    same_told (record_form o x b own received c) (told_in o x u) refl refl first balances owns peers us vs
    (ap (λ (y : Coverage). y.signed) covered) (ap (λ (y : Coverage). y.acknowledged) covered)
    (ap (λ (y : Coverage). y.current) covered)
