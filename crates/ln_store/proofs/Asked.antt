-- A store that was asked is as it was.
use Rattle.std.proofs.Common.{◌≡◌, ◌∙◌, ap}
use Rattle.ln_store.specs.Store.{StoreView}

pub asked : (s s' : StoreView) → s'.records ≡ s.records → s'.failed ≡ s.failed → s'.is_fresh ≡ s.is_fresh → s' ≡ s
asked s s' records failed fresh =
    ap (λ x. record s' { records = x }) records
    ∙ (ap (λ x. record s' { records = s.records; failed = x }) failed
    ∙ ap (λ x. record s { is_fresh = x }) fresh)
