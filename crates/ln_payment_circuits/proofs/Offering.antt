-- The event that waits first tells of the HTLC that its end's ledger decides.
use Rattle.std.proofs.Common.{◌≡◌, ℕ, refl, ap, ◌∙◌, Bool, true, false, Option, Some, None}
use Rattle.std.specs.Prelude.{option_map}
use Rattle.ln_log.specs.declared.mark.EventRef.{EventRef}
use Rattle.ln_log.specs.declared.mark.EventRef.TheVariants as ref
use Rattle.ln_log.specs.declared.update.Update.{Update}
use Rattle.ln_log.specs.declared.update.Update.TheVariants as update
use Rattle.ln_log.specs.Log.{update_at}
use Rattle.ln_hooks.specs.declared.event.ChannelEvent.{ChannelEvent}
use Rattle.ln_hooks.specs.declared.event.ChannelEvent.TheVariants as event
use Rattle.ln_hooks.specs.Amount.{bounded}
use Rattle.ln_hooks.specs.Event.{event_of}
use Rattle.ln_channel.specs.End.{End}
use Rattle.ln_channel.specs.Ledger.{htlc_of, htlc_offered}
use Rattle.ln_channel.specs.Pending.{named_by, event_in}
use Rattle.ln_book_tables.specs.declared.htlc.Offer.{Offer}
use Rattle.ln_book.specs.Marks.{offer_of}

abbrev offer_in : Option ChannelEvent → Option Offer
offer_in None = None
offer_in (Some ev) = offer_of ev

-- what it offers is the HTLC that the ledger decides
offered_by : (own : Bool) (u : Update) (ev : ChannelEvent) (o : Offer) → event_of own u ≡ Some ev → offer_of ev ≡ Some o
    → (own ≡ false) × (htlc_offered (Some u) ≡ Some o.id)
offered_by own (update.Add a) ev o e f = cases (bounded a.amount) e
  where
    of : (own : Bool) (amount : ℕ) → offer_of (event.Added own a.id amount a.hash a.expiry a.onion) ≡ Some o
        → (own ≡ false) × (Some a.id ≡ Some o.id)
    of true amount g = absurd (cc)
    of false amount g = (refl, ap (λ (z : Option Offer). id_or a.id z) g)
      where
        id_or : ℕ → Option Offer → Option ℕ
        id_or i None = Some i
        id_or i (Some z) = Some z.id

    cases : (b : Option ℕ) → option_map (λ amount. event.Added own a.id amount a.hash a.expiry a.onion) b ≡ Some ev
        → (own ≡ false) × (Some a.id ≡ Some o.id)
    cases None g = absurd (cc)
    cases (Some amount) g =
        let same : event.Added own a.id amount a.hash a.expiry a.onion ≡ ev = cc in of own amount (ap offer_of same ∙ f)
offered_by own (update.Fulfil g) ev o e f = absurd (let same : None ≡ Some o = ap offer_in e ∙ f in cc)
offered_by own (update.Fail g) ev o e f = absurd (let same : None ≡ Some o = ap offer_in e ∙ f in cc)
offered_by own (update.Malformed g) ev o e f = absurd (let same : None ≡ Some o = ap offer_in e ∙ f in cc)
offered_by own (update.Fee g) ev o e f = absurd (cc)

pub first_offers : (x : End) (r : EventRef) (ev : ChannelEvent) (o : Offer) → named_by r x ≡ Some ev
    → offer_of ev ≡ Some o → htlc_of x.dance.log r ≡ Some o.id
first_offers x (ref.Own n) ev o e f = cases (update_at x.dance.log.first.own x.dance.log.own n) e
  where
    cases : (u : Option Update) → event_in true u ≡ Some ev → None ≡ Some o.id
    cases None g = absurd (cc)
    cases (Some u) g = absurd (let no : true ≡ false = (offered_by true u ev o g f).0 in cc)
first_offers x (ref.Peer n) ev o e f = cases (update_at x.dance.log.first.peer x.dance.log.received n) e
  where
    cases : (u : Option Update) → event_in false u ≡ Some ev → htlc_offered u ≡ Some o.id
    cases None g = absurd (cc)
    cases (Some u) g = (offered_by false u ev o g f).1
first_offers x ref.Close ev o e f = cases x.closing.closed e
  where
    cases : (c : Option ℕ) → option_map event.Closed c ≡ Some ev → None ≡ Some o.id
    cases None g = absurd (cc)
    cases (Some fee) g =
        absurd (let same : event.Closed fee ≡ ev = cc in let no : None ≡ Some o = ap offer_of same ∙ f in cc)
