-- A closing_signed that comes is out of place nowhere, and its signature is right: its fee alone may be refused.
use Rattle.std.proofs.Common.{◌≡◌, ◌⊎◌, inl, inr, ℕ, ◌+◌, ◌<◌, ◌^◌, List, [], ◌∷◌, ◌++◌, length, take, drop, refl, sym}
use Rattle.std.proofs.Common.{ap, ◌∙◌, subst, arith, append-nil, Bool, true, cond, not, ◌&&◌, ◌==◌}
use Rattle.std.proofs.Common.{Result, Ok, Err}
use Rattle.std.proofs.lemmas.Bool.{eq-eqb}
use Rattle.std.proofs.lemmas.List.{take_all, take-append-drop}
use Rattle.ln_msgs.specs.declared.messages.message.Message.{Message}
use Rattle.ln_msgs.specs.declared.messages.closing.ClosingSigned.{ClosingSigned}
use Rattle.ln_refusals.specs.declared.refusal.Refusal.{Refusal}
use Rattle.ln_refusals.specs.declared.refusal.Refusal.TheVariants as refusal
use Rattle.ln_keys.specs.declared.role.Role.{Role}
use Rattle.ln_keys.specs.Signer.{Signer}
use Rattle.ln_log.specs.declared.opening.Opening.{Opening}
use Rattle.ln_log.specs.declared.standing.Standing.{Standing}
use Rattle.ln_log.specs.declared.update.Update.{Update as Change}
use Rattle.ln_log.specs.Updates.{all_sent}
use Rattle.ln_log.specs.View.{live_adds}
use Rattle.ln_log.specs.Log.{Counts, covered, live_in}
use Rattle.ln_log.proofs.Sent.{standing_sent}
use Rattle.ln_close.specs.declared.closing.FeeAnswer.{FeeAnswer}
use Rattle.ln_close.specs.declared.closing.Fees.{Fees}
use Rattle.ln_close.specs.Closing.{answer_to}
use Rattle.ln_channel.specs.declared.machine.ConnectionState.{ConnectionState}
use Rattle.ln_channel.specs.declared.machine.ConnectionState.TheVariants.{Connected}
use Rattle.ln_channel.specs.End.{End, Turn, has_begun, is_settled}
use Rattle.ln_channel.specs.Taking.{answered, completed_row, fee_row, range_in}
use Rattle.ln_keys.specs.Partners.{ArePartners}
use Rattle.ln_channel_laws.specs.Promises.{IsTaken, AreSent}
use Rattle.ln_channel_laws.proofs.Tests.{both_true}
use Rattle.ln_channel_laws.proofs.Flight.Sides.{Notice, Close, Side}
use Rattle.ln_channel_laws.proofs.Flight.Walk.{AllFit, Phase, Idle, Sent, Answered, LacksNothing, Flows}
use Rattle.ln_channel_laws.proofs.Readiness.ReadinessInFlight.{NoneOpens, ReadinessFlow}
use Rattle.ln_channel_laws.proofs.Flight.WalkOverActs.{fit-behind, signed_is, number_is}
use Rattle.ln_channel_laws.proofs.Closing.NothingMoves.{HasBegun, Ending, no_removal, covers_all}
use Rattle.ln_channel_laws.proofs.Closing.ClosingInFlight.{IsOffer, ClosesFlow}
use Rattle.ln_channel_laws.proofs.Fees.FairAnswers.{IsFair, fair}
use Rattle.ln_channel_laws.proofs.Flight.Images.{side_of, length-sent}
use Rattle.ln_channel_laws.proofs.Ends.Acts.{Hold}

-- ---- where an end has begun, so has who lacks nothing of it

none_behind : (o : Opening) (r : Role) (own seen held us : List Change) → live_adds held own ≡ [] → NoneOpens us
    → AllFit o r own seen held us → us ≡ []
none_behind o r own seen held [] e n f = refl
none_behind o r own seen held (u ∷ us) e n f = absurd (no_removal o r own seen held u e n.0 f.0)

acked_is : (s a c : ℕ) (am sm current : Counts) → c ≡ a → Phase s a c am sm current
    → (current.peer ≡ am.own) × (current.own ≡ am.peer)
acked_is s a c am sm current e (Idle e1 e2 e3 e4 e5 e6) = (e5 ∙ sym e3, e6 ∙ sym e4)
acked_is s a c am sm current e (Sent e1 e2 e3 e4) = (e3, e4)
acked_is s a c am sm current e (Answered e1 e2 e3 e4) = absurd (omega (arith, e, e1, e2))

both_begun : (lx ly : ConnectionState) (x y : Side) (ms ns : List Notice) → Flows lx ly x y ms → Flows ly lx y x ns
    → ReadinessFlow ly lx y x ns → HasBegun x
    → LacksNothing x.own x.current.peer x.signatures x.number y.got y.acked.own
    y.number y.revocations → y.peer_shut ≡ true → HasBegun y
both_begun lx ly x y ms ns f g t b l peer =
    let w = f.within in
    let p = acked_is y.signatures y.revocations x.number y.acked y.signed x.current (sym l.revoked) g.phase in
    let q = signed_is x.signatures x.revocations y.number x.acked x.signed y.current l.accepted f.phase in
    let shut : y.shut ≡ true = t.shut_sent b.shut_taken in
    let all = covers_all x w b in
    let signed_peer : x.signed.peer ≡ length x.got = all.1 ∙ b.peer_current in
    let lengths : length y.got ≡ length x.own = ap length l.has_all in
    let acked_peer : y.acked.peer ≡ length y.got = sym p.1 ∙ b.own_current ∙ sym lengths in
    let acked_own : y.acked.own ≡ length x.got = l.knows ∙ b.peer_current in
    let front : take y.acked.own y.own ≡ x.got = ap (λ n. take n y.own) l.knows ∙ sym g.agree
    ∙ take_all x.current.peer x.got (omega (arith, b.peer_current)) in
    let held : take y.acked.peer y.got ≡ x.own = take_all y.acked.peer y.got (omega (arith, acked_peer)) ∙ l.has_all in
    let parts : take y.acked.own y.own ++ drop y.acked.own y.own ≡ y.own = take-append-drop y.acked.own y.own in
    let seen = take y.current.peer y.got in
    let got = take y.acked.peer y.got in
    let fits : AllFit y.opening y.role (take y.acked.own y.own) seen got (drop y.acked.own y.own) =
    fit-behind y.opening y.role [] seen got (take y.acked.own y.own) (drop y.acked.own y.own)
    (subst (λ us. AllFit y.opening y.role [] seen got us) (sym parts) g.fit) in
    let quiet : live_adds got (take y.acked.own y.own) ≡ [] = ap (λ us. live_adds us (take y.acked.own y.own)) held
    ∙ ap (live_adds x.own) front ∙ b.none_own in
    let none : drop y.acked.own y.own ≡ [] = none_behind y.opening y.role (take y.acked.own y.own) seen got
    (drop y.acked.own y.own) quiet (t.shut shut) fits in
    let own : y.own ≡ x.got = sym parts ∙ ap (λ us. take y.acked.own y.own ++ us) none
    ∙ append-nil (take y.acked.own y.own) ∙ front in
    record {
      shut_sent = shut;
      shut_taken = peer;
      own_acked = acked_own ∙ ap length (sym own);
      own_current = q.1 ∙ signed_peer ∙ ap length (sym own);
      peer_current = q.0 ∙ all.0 ∙ sym lengths;
      peer_acked = acked_peer;
      none_own = ap (λ us. live_adds us y.got) own ∙ ap (live_adds x.got) l.has_all ∙ b.none_got;
      none_got = ap (λ us. live_adds us y.own) l.has_all ∙ ap (live_adds x.own) own ∙ b.none_own;
    }

-- ---- who takes a closing_signed has begun

taker_begun : (lx ly : ConnectionState) (k : Signer) (f : Fees) (x y : Side) (m : ClosingSigned) (ms ns : List Notice)
    → Flows lx ly x y ms → Flows ly lx y x (Close m ∷ ns) → ReadinessFlow lx ly x y ms → Ending y x
    → ClosesFlow k f y x (Close m ∷ ns) → HasBegun x
taker_begun lx ly k f x y m ms ns there back told ended due =
    let at = due.0 in
    let b = ended.begun at.bid in
    let all = covers_all y back.within b in
    let number : x.number ≡ y.signatures = number_is y.signatures y.revocations x.number y.acked y.signed x.current
    (λ one. ended.news one (b.own_acked ∙ sym all.0) (b.peer_acked ∙ sym b.peer_current ∙ sym all.1)) back.phase in
    let q = signed_is y.signatures y.revocations x.number y.acked y.signed x.current number back.phase in
    let p = acked_is x.signatures x.revocations y.number x.acked x.signed y.current (sym at.revoked) there.phase in
    let lengths : length x.got ≡ length y.own = at.has_all ∙ all.0 in
    let has_all : x.got ≡ y.own =
    sym (take_all x.current.peer x.got (let c = q.0 in let g = at.has_all in omega (arith, c, g)))
    ∙ back.agree ∙ take_all x.current.peer y.own (let c = q.0 in let g = all.0 in omega (arith, c, g)) in
    both_begun ly lx y x (Close m ∷ ns) ms back there told b
    (record { has_all = has_all; knows = sym p.0; accepted = number; revoked = at.revoked }) at.shut

-- ---- as the end tells it

none_of : {A : Type 0} (us : List A) → us ≡ [] → length us ≡ 0
none_of us e = ap length e

live_back : (us rs : List Change) → live_adds (all_sent us) (all_sent rs) ≡ [] → length (live_adds us rs) ≡ 0
live_back us rs e = sym (ap (λ (s : Standing). s.live) (standing_sent 0 us rs)) ∙ none_of _ e

and5 : (p q r s t : Bool) → p ≡ true → q ≡ true → r ≡ true → s ≡ true → t ≡ true → (p && q && r && s && t) ≡ true
and5 p q r s t ep eq er es et =
    both_true (p && q && r && s) t (both_true (p && q && r) s (both_true (p && q) r (both_true p q ep eq) er) es) et

begun_back : (k : Signer) (e : End) → HasBegun (side_of k e) → has_begun e ≡ true
begun_back k e b =
    let l = e.dance.log in
    let c1 = b.own_acked ∙ length-sent l.own in
    let c2 = b.own_current ∙ length-sent l.own in
    let c3 = b.peer_current ∙ length-sent l.received in
    let c4 = b.peer_acked ∙ length-sent l.received in
    let own : take l.current.own l.own ≡ l.own = take_all l.current.own l.own (omega (arith, c2)) in
    let peer : take l.current.peer l.received ≡ l.received = take_all l.current.peer l.received (omega (arith, c3)) in
    let none_own = live_back l.own l.received b.none_own in
    let none_got = live_back l.received l.own b.none_got in
    let zero_own : length (live_adds (take l.current.own l.own) (take l.current.peer l.received)) ≡ 0 =
    ap (λ us. length (live_adds (take l.current.own l.own) us)) peer ∙ ap (λ us. length (live_adds us l.received)) own
    ∙ none_own in
    let zero_got : length (live_adds (take l.current.peer l.received) (take l.current.own l.own)) ≡ 0 =
    ap (λ us. length (live_adds (take l.current.peer l.received) us)) own ∙ ap (λ us. length (live_adds us l.own)) peer
    ∙ none_got in
    let live : live_in (covered l l.current) ≡ 0 = omega (arith, zero_own, zero_got) in
    both_true e.closing.shut (e.closing.peer_shut && is_settled l) b.shut_sent
    (both_true e.closing.peer_shut (is_settled l) b.shut_taken
    (and5 (l.acknowledged.own == length l.own) (l.current.own == length l.own) (l.current.peer == length l.received)
    (l.acknowledged.peer == length l.received) (live_in (covered l l.current) == 0)
    (eq-eqb l.acknowledged.own (length l.own) c1) (eq-eqb l.current.own (length l.own) c2)
    (eq-eqb l.current.peer (length l.received) c3) (eq-eqb l.acknowledged.peer (length l.received) c4)
    (eq-eqb (live_in (covered l l.current)) 0 live)))

-- ---- its row

abbrev pub TakenOr36 : Result Turn Refusal → Type 0
TakenOr36 r = IsTaken r ⊎ (r ≡ Err refusal.FeeOutside)

answered_or : (k : Signer) (m : ClosingSigned) (e : End) (r : Result FeeAnswer Refusal) → IsFair e.closing.fees r
    → TakenOr36 (completed_row k (answered k m e r))
answered_or k m e (Ok a) h = inl (_, refl)
answered_or k m e (Err r) h = inr (ap Err h)

row_or : (k : Signer) (m : ClosingSigned) (e : End) → has_begun e ≡ true
    → k.accepts_close m.fee_satoshis m.signature ≡ true → TakenOr36 (completed_row k (fee_row k m e))
row_or k m e begun right =
    let r = answer_to e.closing m.fee_satoshis (range_in m) in
    let is : fee_row k m e ≡ answered k m e r =
    ap (λ b. cond (not b) (Err refusal.OutOfPlace) (cond (k.accepts_close m.fee_satoshis m.signature)
    (answered k m e r) (Err refusal.SignatureWrong))) begun
    ∙ ap (λ b. cond b (answered k m e r) (Err refusal.SignatureWrong)) right in
    subst (λ q. TakenOr36 (completed_row k q)) (sym is)
    (answered_or k m e r (fair e.closing m.fee_satoshis (range_in m)))

small : (f : Fees) (fee : ℕ) → AreSent f → IsOffer f fee → fee < 2 ^ 64
small f fee s (inl e) = let b = s.first in omega (arith, e, b)
small f fee s (inr le) = let b = s.greatest in omega (arith, le, b)

pub close_row : (a b : Signer) (channel : List ℕ) (ly : ConnectionState) (x y : End) (m : ClosingSigned)
    (ns to_y : List Notice) (said_x said_y : List Message) → ArePartners a b → AreSent y.closing.fees
    → Hold a b channel Connected ly x y (Close m ∷ ns) to_y said_x said_y → TakenOr36 (completed_row a (fee_row a m x))
close_row a b channel ly x y m ns to_y said_x said_y keys sent h =
    let begun = taker_begun Connected ly b y.closing.fees (side_of a x) (side_of b y) m to_y ns h.kept.there
    h.kept.back h.told.there h.ended_back h.closes_back in
    let signed = h.closes_back.0.signed in
    row_or a m x (begun_back a x begun)
    (ap (λ s. a.accepts_close m.fee_satoshis s) signed.0
    ∙ keys.back.closings m.fee_satoshis (small y.closing.fees m.fee_satoshis sent signed.1))
