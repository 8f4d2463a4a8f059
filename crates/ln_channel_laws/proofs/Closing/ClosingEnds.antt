-- Where fees overlap, closing ends.
use Rattle.std.proofs.Common.{◌≡◌, inl, inr, List, [], ◌∷◌, refl, sym, ap, ◌∙◌, Bool, true, false, ◌&&◌}
use Rattle.std.proofs.Common.{None, is_some}
use Rattle.ln_keys.specs.declared.role.Role.TheVariants.{Funder, Fundee}
use Rattle.ln_keys.specs.Signer.{Signer}
use Rattle.ln_log.specs.Log.{IsWithin}
use Rattle.ln_close.specs.declared.closing.Closing.{Closing}
use Rattle.ln_close.specs.Closing as closing
use Rattle.ln_channel.specs.declared.config.Config.{Config}
use Rattle.ln_channel.specs.declared.config.OpenSpec.{OpenSpec}
use Rattle.ln_channel.specs.declared.machine.ConnectionState.{ConnectionState}
use Rattle.ln_channel.specs.declared.machine.ConnectionState.TheVariants.{Down, Connected}
use Rattle.ln_channel.specs.declared.opening.Opened.{Opened}
use Rattle.ln_channel.specs.Meeting.{Opens}
use Rattle.ln_channel.specs.End.{is_settled}
use Rattle.ln_channel_laws.specs.Ends.{Ends, Step, opened, happens, run}
use Rattle.ln_keys.specs.Partners.{ArePartners}
use Rattle.ln_channel_laws.specs.Promises.{AreAgreeable, AllTaken}
use Rattle.ln_channel_laws.specs.Closes.{BothClose}
use Rattle.ln_channel_laws.proofs.Ends.OnceMet.{once_met}
use Rattle.ln_channel_laws.proofs.Fees.FeesInFlight.{Deal, Offer, Priced, not_none}
use Rattle.ln_channel_laws.proofs.Fees.Deals.{deal_of, offers_in}
use Rattle.ln_channel_laws.proofs.Machine.TurnMoves.{log_within}
use Rattle.ln_channel_laws.proofs.Ends.JustOpened.{opened_fresh, opened_holds}
use Rattle.ln_channel_laws.proofs.Fees.FeesOverRuns.{At, priced_at}
use Rattle.ln_channel_laws.proofs.Ends.Promised.{at_end, readiness_agrees}
use Rattle.ln_channel_laws.proofs.Fees.OneFee.{all_taken}
use Rattle.ln_channel_laws.proofs.Fees.OwnRules.{Firm, both_closed}
use Rattle.ln_channel_laws.proofs.Fees.FirstFee.{not_begun, Bids, given}
use Rattle.ln_channel_laws.proofs.Fees.LastFee.{Hearing, IsHeard, hears, heard_step}

-- ---- over every list of steps

-- what holds wherever a run stands
record Stands (a b : Signer) (p : Ends) : Type 0 where
  taken : AllTaken a b p
  priced : At p
  x_within : IsWithin p.x.dance.log
  y_within : IsWithin p.y.dance.log

heard_run : (a b : Signer) (ss : List Step) (p : Ends) → ((qs : List Step) → Stands a b (run a b qs p)) → IsHeard p
    → IsHeard (run a b ss p)
heard_run a b [] p all h = h
heard_run a b (s ∷ ss) p all h =
    let at = all [] in
    heard_run a b ss (happens a b s p) (λ qs. all (s ∷ qs)) (heard_step a b s p at.taken at.priced h)

-- ---- as they begin

fresh_firm : (d : Deal) → d.heard ≡ None → d.closed ≡ None → Firm d
fresh_firm d unheard unclosed = record {
  heard_it = λ n h. absurd (not_none n d.closed unclosed h);
  answered = λ n h. absurd (not_none n d.heard unheard h);
  closes = λ n h k. absurd (not_none n d.heard unheard k);
  decided = λ r n h. absurd (not_none n d.heard unheard h);
}

fresh_heard : (c g : Closing) → c ≡ closing.opened Funder c.fees → g ≡ closing.opened Fundee g.fees
    → Hearing Connected Connected (deal_of c) (deal_of g) [] []
fresh_heard c g ec eg =
    let unbid : c.own_fee ≡ None = ap (λ (q : Closing). q.own_fee) ec in
    let unheard : c.peer_fee ≡ None = ap (λ (q : Closing). q.peer_fee) ec in
    let unclosed : c.closed ≡ None = ap (λ (q : Closing). q.closed) ec in
    let their_unbid : g.own_fee ≡ None = ap (λ (q : Closing). q.own_fee) eg in
    let their_unheard : g.peer_fee ≡ None = ap (λ (q : Closing). q.peer_fee) eg in
    let their_unclosed : g.closed ≡ None = ap (λ (q : Closing). q.closed) eg in
    record {
      firm = fresh_firm (deal_of c) unheard unclosed;
      their_firm = fresh_firm (deal_of g) their_unheard their_unclosed;
      known = λ n h. absurd (not_none n g.peer_fee their_unheard h);
      their_known = λ n h. absurd (not_none n c.peer_fee unheard h);
      last = λ met up. their_unheard ∙ sym unbid;
      their_last = λ met up. unheard ∙ sym their_unbid;
    }

-- ---- where nothing is in flight

met_up : (l : ConnectionState) → l ≡ Connected → l ≡ Down → ⊥
met_up l met down = let no : Connected ≡ Down = sym met ∙ down in absurd (cc)

begun_of : (s p t : Bool) → s ≡ true → p ≡ true → t ≡ true → (s && (p && t)) ≡ true
begun_of true true true a b c = refl
begun_of false p t a b c = absurd (cc)
begun_of true false t a b c = absurd (cc)
begun_of true true false a b c = absurd (cc)

ends_by : (d e : Deal) (os qs : List Offer) → Firm d → Firm e → Priced d e os qs
    → (d.funder ≡ true → is_some d.bid ≡ true) → (e.funder ≡ true → is_some e.bid ≡ true) → e.heard ≡ d.bid
    → d.heard ≡ e.bid → (is_some d.closed ≡ true) × (is_some e.closed ≡ true)
ends_by d e os qs fd fe (inl a) bx their there back =
    both_closed d e fd fe a.funder (bx a.funder) there back a.closed
ends_by d e os qs fd fe (inr a) bx their there back =
    let both = both_closed e d fe fd a.funder (their a.funder) back there a.closed in
    (both.1, both.0)

pub both_close : (a b : Signer) (s : OpenSpec) (c : Config) (funder fundee : Opened) (steps : List Step)
    → ArePartners a b
    → Opens a b s c funder fundee → AreAgreeable funder.closing.fees fundee.closing.fees
    → BothClose (run a b steps (opened funder fundee))
both_close a b s c funder fundee steps keys o g quiet dx dy =
    let start = opened funder fundee in
    let p = run a b steps start in
    let x = p.x.closing in
    let y = p.y.closing in
    let fresh = opened_fresh a b s c funder fundee o in
    let all : (qs : List Step) → Stands a b (run a b qs start) = λ qs.
    (let h = at_end a b s c funder fundee qs keys o in
    record {
      taken = all_taken a b s c funder fundee qs keys o g;
      priced = priced_at a b funder fundee qs fresh;
      x_within = log_within a (run a b qs start).x h.hold.kept.there.within;
      y_within = log_within b (run a b qs start).y h.hold.kept.back.within;
    }) in
    let h = heard_run a b steps start all (fresh_heard funder.closing fundee.closing fresh.funder_is fresh.fundee_is) in
    let bids = once_met Bids given a b keys steps start (opened_holds a b s c funder fundee o) (
      not_begun Connected start.x (ap (λ (q : Closing). q.peer_shut) fresh.funder_is),
      not_begun Connected start.y (ap (λ (q : Closing). q.peer_shut) fresh.fundee_is),
    ) in
    let ready = readiness_agrees a b s c funder fundee steps keys o quiet in
    let begun_x = begun_of x.shut x.peer_shut (is_settled p.x.dance.log) dx.shut (ready.1.shutdown ∙ dy.shut)
    dx.settled in
    let begun_y = begun_of y.shut y.peer_shut (is_settled p.y.dance.log) dy.shut (ready.0.shutdown ∙ dx.shut)
    dy.settled in
    let there : y.peer_fee ≡ x.own_fee = ap (λ ms. hears y.peer_fee (offers_in ms)) (sym quiet.to_y)
    ∙ h.last quiet.x_met (met_up p.y_line quiet.y_met) in
    let back : x.peer_fee ≡ y.own_fee = ap (λ ms. hears x.peer_fee (offers_in ms)) (sym quiet.to_x)
    ∙ h.their_last quiet.y_met (met_up p.x_line quiet.x_met) in
    ends_by (deal_of x) (deal_of y) (offers_in p.to_y) (offers_in p.to_x) h.firm h.their_firm
    (all steps).priced (λ r. bids.0 quiet.x_met r begun_x) (λ r. bids.1 quiet.y_met r begun_y) there back
