-- A link that comes back from what its host saved.
use Rattle.std.proofs.Common.{◌≡◌, ℕ, List, Option, Some, Ok, refl, sym, ap, subst, ◌∙◌, inr}
use Rattle.std.specs.Prelude.{◌≢◌, replicate}
use Rattle.ln_refusals.specs.declared.refusal.Refusal.TheVariants as refusal
use Rattle.ln_channel.specs.State.{State, kept_channel}
use Rattle.ln_link.specs.Loading.{Loads}
use Rattle.ln_store.specs.Record.{record_at}
use Rattle.ln_host.specs.declared.keys.HostKeys.{HostKeys}
use Rattle.ln_host.specs.declared.record.HeldSignatures.{HeldSignatures}
use Rattle.ln_host.specs.declared.record.HostRecord.{HostRecord}
use Rattle.ln_host.specs.Hosted.{Seat, hosted, keys_with, with_pending, loaded}
use Rattle.ln_host.specs.Seats.{Tells, ComesBack, IsRefusedRecord}

-- its record's bytes tell the link that was loaded, by keys that were told nothing
tells : (r : HostRecord) (k : HostKeys) (bytes : List ℕ) (l : State HostKeys) → k ≡ keys_with (replicate 33 0)
    → bytes ≡ r.record_bytes → Loads k (record_at bytes) (Ok l) → Tells r (Ok l)
tells r k bytes l a b h =
    subst (λ (x : HostKeys). Loads x (record_at r.record_bytes) (Ok l)) a
    (subst (λ (bs : List ℕ). Loads k (record_at bs) (Ok l)) b h)

pub comes_back : (r : HostRecord) (k : HostKeys) (bytes : List ℕ) (l : State HostKeys) (h new : Seat)
    (signatures : Option HeldSignatures) → k ≡ keys_with (replicate 33 0) → bytes ≡ r.record_bytes
    → Loads k (record_at bytes) (Ok l) → h ≡ hosted (replicate 33 0) l → signatures ≡ r.signatures
    → kept_channel h.link.stage ≡ Some r.channel → new ≡ with_pending (record h { signatures = signatures })
    → ComesBack r new
comes_back r k bytes l h new signatures a b loads begun held channel n =
    let is_loaded : new ≡ loaded l r =
    n ∙ (ap (λ (s : Option HeldSignatures). with_pending (record h { signatures = s })) held
    ∙ ap (λ (s : Seat). with_pending (record s { signatures = r.signatures })) begun) in
    let link : new.link ≡ l = ap (λ (s : Seat). s.link) is_loaded in
    let before : h.link ≡ l = ap (λ (s : Seat). s.link) begun in
    record {
      told = subst (λ (x : State HostKeys). Tells r (Ok x)) (sym link) (tells r k bytes l a b loads);
      channel = ap (λ (x : State HostKeys). kept_channel x.stage) (link ∙ sym before) ∙ channel;
      seat = is_loaded ∙ ap (λ (x : State HostKeys). loaded x r) (sym link);
    }

pub of_another : (r : HostRecord) (k : HostKeys) (bytes : List ℕ) (l : State HostKeys) (h : Seat)
    → k ≡ keys_with (replicate 33 0) → bytes ≡ r.record_bytes → Loads k (record_at bytes) (Ok l)
    → h ≡ hosted (replicate 33 0) l → (kept_channel h.link.stage ≢ Some r.channel)
    → IsRefusedRecord r refusal.Damaged
of_another r k bytes l h a b loads begun other =
    let before : h.link ≡ l = ap (λ (s : Seat). s.link) begun in
    inr (inr (
      refl,
      record {
        link = l;
        told = tells r k bytes l a b loads;
        channel = subst (λ (x : State HostKeys). kept_channel x.stage ≢ Some r.channel) before other;
      },
    ))
