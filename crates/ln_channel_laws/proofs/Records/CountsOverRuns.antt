-- Over every list of steps the numbers, the counts and the events of an end fit together, and what it keeps of the
-- peer is as wide as in its record.
use Rattle.std.proofs.Common.{◌≡◌, inl, inr, ℕ, zero, suc, ◌+◌, ◌<◌, ◌≤◌, ◌^◌, List, [], ◌∷◌, length, refl, sym}
use Rattle.std.proofs.Common.{ap, ◌∙◌, subst, arith, Bool, true, false, cond, not, ◌==◌, Option, Some, None, option_map}
use Rattle.std.proofs.Common.{Result, Ok, Err}
use Rattle.std.proofs.lemmas.Bool.{eq-eqb}
use Rattle.ln_msgs.specs.declared.messages.message.Message.TheVariants as message
use Rattle.ln_msgs.specs.declared.messages.closing.ClosingSigned.{ClosingSigned}
use Rattle.ln_msgs.specs.declared.messages.commitments.ChannelReestablish.{ChannelReestablish}
use Rattle.ln_msgs.specs.declared.messages.opening.FundingCreated.{FundingCreated}
use Rattle.ln_refusals.specs.declared.refusal.Refusal.{Refusal}
use Rattle.ln_refusals.specs.declared.refusal.Refusal.TheVariants as refusal
use Rattle.ln_keys.specs.declared.role.Role.{Role}
use Rattle.ln_keys.specs.declared.role.Role.TheVariants.{Funder, Fundee}
use Rattle.ln_keys.specs.Signer.{Signer}
use Rattle.ln_log.specs.Log as log
use Rattle.ln_log.specs.Log.{Counts, same_counts}
use Rattle.ln_close.specs.declared.closing.FeeAnswer.{FeeAnswer}
use Rattle.ln_close.specs.declared.closing.Fees.{Fees}
use Rattle.ln_close.specs.Closing.{answer_to}
use Rattle.ln_channel.specs.declared.command.Command.{Command}
use Rattle.ln_channel.specs.declared.command.Command.TheVariants as command
use Rattle.ln_channel.specs.declared.config.Config.{Config}
use Rattle.ln_channel.specs.declared.config.OpenSpec.{OpenSpec}
use Rattle.ln_channel.specs.declared.machine.ConnectionState.{ConnectionState}
use Rattle.ln_channel.specs.declared.machine.ConnectionState.TheVariants.{Down, AwaitingReestablish, Connected}
use Rattle.ln_channel.specs.declared.opening.Opened.{Opened}
use Rattle.ln_channel.specs.declared.opening.Terms.{Terms}
use Rattle.ln_channel.specs.Opening.{unless, opened_by, accept_fault, funder_end, created_message, created_fault}
use Rattle.ln_channel.specs.Opening.{fundee_end}
use Rattle.ln_channel.specs.Meeting.{Opens}
use Rattle.ln_channel.specs.End.{End, Turn, end_of, end_dropped, has_begun, closing_message}
use Rattle.ln_channel.specs.Taking.{answering, answered_end, answered, range_in, completed_row}
use Rattle.ln_channel.specs.Commands.{confirm_fault, sign_command_fault, shut_fault, shuts_down, command_row}
use Rattle.ln_channel.specs.Commands.{unready_fault}
use Rattle.ln_channel.specs.State.{is_down}
use Rattle.ln_channel.specs.Step.{faulted, line_fault}
use Rattle.ln_channel_laws.specs.Ends.{Ends, turned, opened, message_at, answers, delivers, notes, Act, Deliver, Give}
use Rattle.ln_channel_laws.specs.Ends.{Note, Lose, Cut, Save, still_come, acts}
use Rattle.ln_channel_laws.specs.Ends.{connects, Step, By, Connect, happens, run}
use Rattle.ln_keys.specs.Partners.{ArePartners}
use Rattle.ln_channel_laws.specs.Promises.{AreSent}
use Rattle.ln_channel_laws.proofs.Tests.{both_true, was_given}
use Rattle.ln_channel_laws.proofs.Flight.Sides.{Notice, Sign, Shutdown, Close, Again}
use Rattle.ln_channel_laws.proofs.Flight.Walk.{Phase, Idle, Sent, Answered}
use Rattle.ln_channel_laws.proofs.Closing.ClosingInFlight.{IsOffer, SignsAll}
use Rattle.ln_channel_laws.proofs.Fees.FeesInFlight.{Deal, Offer, Priced}
use Rattle.ln_channel_laws.proofs.Fees.Deals.{deal_of, offers_in, run_fees}
use Rattle.ln_channel_laws.proofs.Flight.Images.{messages_of}
use Rattle.ln_channel_laws.proofs.Ends.Acts.{Hold, revoked_within}
use Rattle.ln_channel_laws.proofs.Ends.Turns.{turn_of, is_close, by_front}
use Rattle.ln_channel_laws.proofs.Ends.Runs.{Sound, flipped, flipped_keys, met_row, meeting_row, ran}
use Rattle.ln_channel_laws.proofs.Ends.JustOpened.{opened_holds, opened_fresh}
use Rattle.ln_channel_laws.proofs.Fees.FeesOverRuns.{At, turned_at, priced_at}
use Rattle.ln_channel_laws.proofs.Machine.TurnMoves.{log_within}
use Rattle.ln_channel_laws.proofs.Records.RecordFits.{Where, IsCounted}
use Rattle.ln_channel_laws.proofs.Records.CountsOverTurns.{closes_in, IsFee, Steady, settled_steady, turn_steady}
use Rattle.ln_channel_laws.proofs.Records.CountsOverTurns.{fee_steady}
use Rattle.ln_channel_laws.proofs.Records.CountsOverTurns.{noted_steady}
use Rattle.ln_channel_laws.proofs.Records.CountsOverTurns.{based_steady}
use Rattle.ln_channel_laws.proofs.Events.Decisions.{noted}

-- ---- what x does, where y is as it was

record Stays (p q : Ends) : Type 0 where
  x : Steady q.x
  y : q.y ≡ p.y

offer_below : (f : Fees) (n : ℕ) → AreSent f → IsOffer f n → IsFee n
offer_below f n s (inl e) = let b = s.first in omega (arith, e, b)
offer_below f n s (inr le) = let b = s.greatest in omega (arith, le, b)

module _ (a b : Signer) (keys : ArePartners a b) where
  met : (p : Ends) → p.x_line ≡ Connected → Steady p.x → (channel : List ℕ) (n : Notice) (ns to_y : List Notice)
      → is_close n ≡ false → Hold a b channel Connected p.y_line p.x p.y (n ∷ ns) to_y p.said_x p.said_y
      → Stays p (delivers a (messages_of channel (n ∷ ns)) p)
  met p is s channel n ns to_y other h =
      let q : Ends = record p { to_x = messages_of channel ns } in
      let t = turn_steady a p.x (log_within a p.x h.kept.there.within) s n other in
      subst (λ res. Stays p (answers res q)) (sym (met_row a b keys p is channel n ns to_y other h))
      (record { x = settled_steady (turn_of a n p.x).end t; y = refl })

  meeting : (p : Ends) → p.x_line ≡ AwaitingReestablish → Steady p.x
      → (channel : List ℕ) (m : ChannelReestablish) (ns to_y : List Notice)
      → Hold a b channel AwaitingReestablish p.y_line p.x p.y (Again m ∷ ns) to_y p.said_x p.said_y
      → Stays p (delivers a (messages_of channel (Again m ∷ ns)) p)
  meeting p is s channel m ns to_y h =
      let q : Ends = record p { to_x = messages_of channel ns } in
      subst (λ res. Stays p (answers res q)) (sym (meeting_row a b keys p is channel m ns to_y h))
      (record { x = settled_steady p.x s; y = refl })

  fee_by : (begun right : Bool) (res : Result FeeAnswer Refusal) (p : Ends) → Steady p.x → log.IsWithin p.x.dance.log
      → (channel : List ℕ) (m : ClosingSigned) (ns : List Notice)
      → answer_to p.x.closing m.fee_satoshis (range_in m) ≡ res → IsFee m.fee_satoshis
      → Stays p (answers (completed_row a (cond (not begun) (Err refusal.OutOfPlace)
      (cond right (answered a m p.x res) (Err refusal.SignatureWrong)))) (record p { to_x = messages_of channel ns }))
  fee_by true true (Ok ans) p s w channel m ns e below =
      let n = (answering a ans (answered_end m ans p.x)).end in
      record { x = settled_steady n (fee_steady a p.x w s m ans e below); y = refl }
  fee_by true true (Err z) p s w channel m ns e below = record { x = s; y = refl }
  fee_by true false res p s w channel m ns e below = record { x = s; y = refl }
  fee_by false right res p s w channel m ns e below = record { x = s; y = refl }

  fee : (p : Ends) → p.x_line ≡ Connected → Steady p.x → AreSent p.y.closing.fees
      → (channel : List ℕ) (m : ClosingSigned) (ns to_y : List Notice)
      → Hold a b channel Connected p.y_line p.x p.y (Close m ∷ ns) to_y p.said_x p.said_y
      → Stays p (delivers a (messages_of channel (Close m ∷ ns)) p)
  fee p is s sent channel m ns to_y h =
      let q : Ends = record p { to_x = messages_of channel ns } in
      subst (λ l. Stays p (answers (message_at a l (message.ClosingSigned m) p.x) q)) (sym is)
      (fee_by (has_begun p.x) (a.accepts_close m.fee_satoshis m.signature)
      (answer_to p.x.closing m.fee_satoshis (range_in m)) p s (log_within a p.x h.kept.there.within) channel m ns refl
      (offer_below p.y.closing.fees m.fee_satoshis sent h.closes_back.0.signed.1))

  given_by : (f : Option Refusal) (t : Turn) (p : Ends) → Steady p.x → Steady t.end
      → Stays p (answers (unless f t) p)
  given_by None t p s k = record { x = k; y = refl }
  given_by (Some z) t p s k = record { x = s; y = refl }

  given : (c : Command) (p : Ends) → Steady p.x → Stays p (answers (command_row a c p.x) p)
  given (command.Confirm id) p s = given_by (confirm_fault p.x) _ p s s
  given (command.Add amount hash expiry onion origin) p s = given_by _ _ p s s
  given (command.Fulfil id preimage) p s = given_by _ _ p s s
  given (command.Fail id reason) p s = given_by _ _ p s s
  given (command.Malformed id sha code) p s = given_by _ _ p s s
  given (command.Fee feerate) p s = given_by _ _ p s s
  given command.Sign p s = given_by (sign_command_fault p.x) _ p s s
  given (command.Shutdown script) p s =
      given_by (shut_fault script p.x) _ p s (settled_steady (shuts_down script p.x) s)
  given (command.Decide event mark) p s = record { x = s; y = refl }
  given (command.Forget id) p s = record { x = s; y = refl }
  given (command.Resume event mark) p s = record { x = s; y = refl }

  commanded_by : (f : Option Refusal) (l : ConnectionState) (c : Command) (p : Ends) → Steady p.x
      → Stays p (answers (faulted f (faulted (line_fault l) (command_row a c p.x))) p)
  commanded_by (Some z) l c p s = record { x = s; y = refl }
  commanded_by None Down c p s = record { x = s; y = refl }
  commanded_by None AwaitingReestablish c p s = record { x = s; y = refl }
  commanded_by None Connected c p s = given c p s

  lost_by : (down : Bool) (p : Ends) → Steady p.x
      → Stays p (cond down p (record p { x_line = Down; x = end_dropped p.x; to_x = [] }))
  lost_by true p s = record { x = s; y = refl }
  lost_by false p s = record { x = s; y = refl }

  cut_by : (down : Bool) (n : ℕ) (p : Ends) → Steady p.x
      → Stays p (cond down (record p { to_y = still_come n p.y_line p.to_y }) p)
  cut_by true n p s = record { x = s; y = refl }
  cut_by false n p s = record { x = s; y = refl }

  acts_steady : (act : Act) (p : Ends) → Steady p.x → AreSent p.y.closing.fees → Sound a b p → Stays p (acts a act p)
  acts_steady Deliver p s sent h =
      let is = h.in_x in
      subst (λ ms. Stays p (delivers a ms p)) (sym is)
      (by_front a b h.channel p.y_line p.x p.y h.to_y p.said_x p.said_y
      (λ l ns. p.x_line ≡ l → Stays p (delivers a (messages_of h.channel ns) p))
      (λ l is. record { x = s; y = refl })
      (λ m ns k is. meeting p is s h.channel m ns h.to_y k)
      (λ n ns other k is. met p is s h.channel n ns h.to_y other k)
      (λ m ns k is. fee p is s sent h.channel m ns h.to_y k) p.x_line h.to_x h.hold refl)
  acts_steady (Give c) p s sent h = commanded_by (unready_fault c p.x) p.x_line c p s
  acts_steady (Note c) p s sent h =
      record { x = noted_steady p.x (notes c p).x.ledger (noted c p.x) s; y = refl }
  acts_steady Lose p s sent h = lost_by (is_down p.x_line) p s
  acts_steady (Cut n) p s sent h = cut_by (is_down p.x_line) n p s
  acts_steady Save p s sent h = record { x = based_steady p.x s; y = refl }

-- ---- steps

record Lasts (p : Ends) : Type 0 where
  x : Steady p.x
  y : Steady p.y
  x_sent : AreSent p.x.closing.fees
  y_sent : AreSent p.y.closing.fees

both_steady : (a b : Signer) → ArePartners a b → (s : Step) (p : Ends) → Lasts p → Sound a b p
    → Steady (happens a b s p).x × Steady (happens a b s p).y
both_steady a b keys (By Funder act) p k h =
    let m = acts_steady a b keys act p k.x k.y_sent h in
    (m.x, subst (λ (e : End). Steady e) (sym m.y) k.y)
both_steady a b keys (By Fundee act) p k h =
    let m = acts_steady b a (flipped_keys a b keys) act (turned p) k.y k.x_sent (flipped a b p h) in
    (subst (λ (e : End). Steady e) (sym m.y) k.x, m.x)
both_steady a b keys Connect p k h = by p.x_line p.y_line
  where
    by : (lx ly : ConnectionState) → Steady (connects a b lx ly p).x × Steady (connects a b lx ly p).y
    by Down Down = (k.x, k.y)
    by Down AwaitingReestablish = (k.x, k.y)
    by Down Connected = (k.x, k.y)
    by AwaitingReestablish l = (k.x, k.y)
    by Connected l = (k.x, k.y)

lasts : (a b : Signer) → ArePartners a b → (ss : List Step) (p : Ends) → Lasts p → Sound a b p → Lasts (run a b ss p)
lasts a b keys [] p k h = k
lasts a b keys (s ∷ ss) p k h =
    let q = happens a b s p in
    let same = run_fees a b (s ∷ []) p in
    let both = both_steady a b keys s p k h in
    lasts a b keys ss q (record {
      x = both.0;
      y = both.1;
      x_sent = subst AreSent (sym same.x) k.x_sent;
      y_sent = subst AreSent (sym same.y) k.y_sent;
    }) (ran a b keys (s ∷ []) p h)

-- ---- as they begin

pub first_steady : (r : Role) (c : List ℕ) (f : Fees) (t : Terms) → Steady (end_of (opened_by r c f t))
first_steady r c f t = record {
  first_own = omega arith;
  first_peer = omega arith;
  undecided = tt;
  there = tt;
  events = omega arith;
  decisions = omega arith;
  results = omega arith;
  secret = λ e. refl;
  next_point = λ e g. refl;
  heard = tt;
}

first_lasts : (a b : Signer) (s : OpenSpec) (c : Config) (funder fundee : Opened) → Opens a b s c funder fundee
    → AreSent funder.closing.fees → AreSent fundee.closing.fees → Lasts (opened funder fundee)
first_lasts a b s c funder fundee o fx fy =
    let e = funder_end a s o.accept in
    let d = fundee_end o.agreement o.created in
    let funder_is : e ≡ funder =
    ap (λ (p : Opened × FundingCreated). p.0) (was_given (accept_fault s o.accept) (
      funder_end a s o.accept,
      created_message a s o.accept,
    ) (funder, o.created) o.accept_channel) in
    let fundee_is : d ≡ fundee =
    ap (λ p. p.0) (was_given (created_fault b o.agreement o.created) _ _ o.funding_created) in
    record {
      x = subst (λ (z : Opened). Steady (end_of z)) funder_is
          (first_steady Funder e.dance.channel e.closing.fees e.terms);
      y = subst (λ (z : Opened). Steady (end_of z)) fundee_is
          (first_steady Fundee d.dance.channel d.closing.fees d.terms);
      x_sent = fx;
      y_sent = fy;
    }

-- ---- how an end is counted

-- the other's commitment is no further than the last signature
accepted_within : (s a c : ℕ) (acked signed current : Counts) → Phase s a c acked signed current → c ≤ s
accepted_within s a c acked signed current (Idle e1 e2 e3 e4 e5 e6) = omega (arith, e2)
accepted_within s a c acked signed current (Sent e1 e2 e3 e4) = omega (arith, e1, e2)
accepted_within s a c acked signed current (Answered e1 e2 e3 e4) = omega (arith, e2)

one_ahead : (s a c : ℕ) (acked signed current : Counts) → Phase s a c acked signed current → s ≤ a + 1
one_ahead s a c acked signed current (Idle e1 e2 e3 e4 e5 e6) = omega (arith, e1)
one_ahead s a c acked signed current (Sent e1 e2 e3 e4) = omega (arith, e1)
one_ahead s a c acked signed current (Answered e1 e2 e3 e4) = omega (arith, e1)

all_acknowledged : (s a c : ℕ) (acked signed current : Counts) → Phase s a c acked signed current → s ≡ a
    → same_counts acked signed ≡ true
all_acknowledged s a c acked signed current (Idle e1 e2 e3 e4 e5 e6) e =
    both_true (acked.own == signed.own) (acked.peer == signed.peer) (eq-eqb acked.own signed.own e3)
    (eq-eqb acked.peer signed.peer e4)
all_acknowledged s a c acked signed current (Sent e1 e2 e3 e4) e = absurd (omega (arith, e, e1))
all_acknowledged s a c acked signed current (Answered e1 e2 e3 e4) e = absurd (omega (arith, e, e1))

one_close : (c : Option ℕ) → closes_in c ≤ 1
one_close None = omega arith
one_close (Some fee) = omega arith

where_some : (o : Option ℕ) → ((n : ℕ) → o ≡ Some n → IsFee n) → Where IsFee o
where_some None h = tt
where_some (Some n) h = h n refl

-- what it has sent, and what it has closed at, which it has sent too
bid_below : (k : Signer) (e : End) (f : Fees) (o : Option ℕ) → AreSent f
    → SignsAll k f (option_map (closing_message k e) o) → Where IsFee o
bid_below k e f None s h = tt
bid_below k e f (Some n) s h = offer_below f n s h.1

closed_bid : (d e : Deal) (p q : List Offer) (n : ℕ) → Priced d e p q → d.closed ≡ Some n → d.bid ≡ Some n
closed_bid d e p q n (inl a) h = (a.closed n h).0
closed_bid d e p q n (inr a) h = (a.their_closed n h).1

-- none was told before the first revocation
secret_by : (r : ℕ) (k : Signer) (o : Option (List ℕ)) → ((m : ℕ) → m ≤ 2 ^ 48 → length (k.secret_of m) ≡ 32)
    → r < 2 ^ 48 → (r ≡ 0 → o ≡ None)
    → ((n : ℕ) → r ≡ n + 1 → o ≡ Some (k.secret_of n)) → Where (λ s. length s ≡ 32) o
secret_by zero k o secrets below none one = subst (Where (λ s. length s ≡ 32)) (sym (none refl)) tt
secret_by (suc n) k o secrets below none one =
    subst (Where (λ s. length s ≡ 32)) (sym (one n (omega arith))) (secrets n (omega (arith, below)))

-- the peer's next point came with its channel_ready, or is as it was at first
next_by : (ready : Bool) (k : Signer) (r s : ℕ) (point : List ℕ)
    → ((m : ℕ) → m ≤ 2 ^ 48 → length (k.point_of m) ≡ 33) → r ≤ s → s < 2 ^ 48 → (1 ≤ s → ready ≡ true)
    → (ready ≡ true → point ≡ k.point_of (r + 1))
    → (r ≡ 0 → ready ≡ false → length point ≡ 33) → length point ≡ 33
next_by true k r s point points le below used told first =
    ap length (told refl) ∙ points (r + 1) (omega (arith, le, below))
next_by false k zero s point points le below used told first = first refl refl
next_by false k (suc r) s point points le below used told first =
    absurd (let no : false ≡ true = used (omega (arith, le)) in cc)

counted : (a b : Signer) → ArePartners a b → (p : Ends) → Steady p.x → AreSent p.x.closing.fees
    → Sound a b p → At p → IsCounted p.x
counted a b keys p s sent h at =
    let x = p.x in
    let l = x.dance.log in
    let n = x.dance.numbers in
    let f = h.hold.kept.there in
    let g = h.hold.kept.back in
    let m = p.y.dance.log in
    let i = p.y.dance.numbers in
    let below = h.hold.x_knows.below in
    let their = h.hold.y_knows.below in
    let most = accepted_within i.signed i.revoked n.commitment m.acknowledged m.signed l.current g.phase in
    let few = revoked_within n.signed n.revoked i.commitment l.acknowledged l.signed m.current f.phase in
    let one = one_close x.closing.closed in
    let events = s.events in
    let bid = bid_below a x x.closing.fees x.closing.own_fee sent h.hold.x_signs in
    record {
      step = record {
        commitment = omega (arith, most, their);
        signed = omega (arith, below);
        revoked = few;
        one_unrevoked = one_ahead n.signed n.revoked i.commitment l.acknowledged l.signed m.current f.phase;
        acknowledged = all_acknowledged n.signed n.revoked i.commitment l.acknowledged l.signed m.current
            f.phase;
      };
      within = log_within a x f.within;
      first_own = s.first_own;
      first_peer = s.first_peer;
      undecided = s.undecided;
      there = s.there;
      events = omega (arith, events, one);
      decisions = s.decisions;
      results = s.results;
      point = ap length h.hold.x_knows.point ∙ keys.back.sized_points n.revoked (omega (arith, few, below));
      next_point = next_by x.readiness.ready_received b n.revoked n.signed x.dance.peer.next_point
          keys.back.sized_points
          few below (λ e. (h.hold.told.there.used_signature e).taken) h.hold.x_knows.next_point s.next_point;
      secret = secret_by n.revoked b x.dance.peer.secret keys.back.sized_secrets (omega (arith, few, below)) s.secret
          h.hold.x_knows.secret;
      own_fee = bid;
      peer_fee = s.heard;
      closed = where_some x.closing.closed (λ c e. subst (Where IsFee)
          (closed_bid (deal_of x.closing) (deal_of p.y.closing) (offers_in p.to_y) (offers_in p.to_x) c at e) bid);
    }

-- both ends, over every list of steps
pub are_counted : (a b : Signer) (s : OpenSpec) (c : Config) (funder fundee : Opened) (steps : List Step)
    → ArePartners a b
    → Opens a b s c funder fundee
    → AreSent funder.closing.fees → AreSent fundee.closing.fees
    → IsCounted (run a b steps (opened funder fundee)).x × IsCounted (run a b steps (opened funder fundee)).y
are_counted a b s c funder fundee steps keys o fx fy =
    let first = opened funder fundee in
    let p = run a b steps first in
    let begun = opened_holds a b s c funder fundee o in
    let h = ran a b keys steps first begun in
    let k = lasts a b keys steps first (first_lasts a b s c funder fundee o fx fy) begun in
    let at = priced_at a b funder fundee steps (opened_fresh a b s c funder fundee o) in (
      counted a b keys p k.x k.x_sent h at,
      counted b a (flipped_keys a b keys) (turned p) k.y k.y_sent (flipped a b p h) (turned_at p at),
    )
