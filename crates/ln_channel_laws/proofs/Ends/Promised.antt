-- What every list of steps promises.
use Rattle.std.proofs.Common.{◌≡◌, ℕ, ◌≤◌, List, [], ◌∷◌, ◌++◌, length, take, drop, refl, sym, ap, ◌∙◌, subst, arith}
use Rattle.std.proofs.Common.{Bool, true, false, cond, ◌==◌, Some, None, is_some}
use Rattle.std.proofs.lemmas.List.{take-append-drop, take-take, take_all}
use Rattle.std.proofs.lemmas.Bool.{eqb-true}
use Rattle.ln_refusals.specs.declared.refusal.Refusal.TheVariants as refusal
use Rattle.ln_keys.specs.Signer.{Signer}
use Rattle.ln_log.specs.declared.update.Update.{Update as Change}
use Rattle.ln_log.specs.Updates.{all_sent}
use Rattle.ln_log.specs.Lists.{Begins}
use Rattle.ln_log.specs.Limits.{first_fault}
use Rattle.ln_log.specs.Log.{Log, same_counts, after_sign}
use Rattle.ln_log.specs.Machine.{Follows}
use Rattle.ln_dance.specs.Dance.{Dancer, owes, is_last, sign_fault}
use Rattle.ln_channel.specs.declared.config.Config.{Config}
use Rattle.ln_channel.specs.declared.config.OpenSpec.{OpenSpec}
use Rattle.ln_channel.specs.declared.opening.Opened.{Opened}
use Rattle.ln_channel.specs.Meeting.{Opens}
use Rattle.ln_channel.specs.End.{End, completed}
use Rattle.ln_channel_laws.specs.Ends.{Ends, Step, opened, turned, run}
use Rattle.ln_keys.specs.Partners.{ArePartners}
use Rattle.ln_channel_laws.specs.Promises.{AreSent, party, Headline, TakesFront, NoneRefused, HoldsAll, Agrees}
use Rattle.ln_channel_laws.specs.Promises.{NoneAddsLate, HasTakenReadiness, ReadinessAgrees}
use Rattle.ln_channel.specs.declared.machine.ConnectionState.{ConnectionState}
use Rattle.ln_channel.specs.declared.machine.ConnectionState.TheVariants.{Connected}
use Rattle.ln_channel.specs.Resume.{resumed}
use Rattle.ln_channel_laws.proofs.Tests.{parts}
use Rattle.ln_channel_laws.proofs.Flight.Sides.{Notice}
use Rattle.ln_channel_laws.proofs.Flight.Walk.{LacksNothing, Flows}
use Rattle.ln_channel_laws.proofs.Readiness.ReadinessInFlight.{ReadinessFlight, ReadinessFlow}
use Rattle.ln_log.specs.Log.{covered, view_for}
use Rattle.ln_log.proofs.Sent.{turned_views}
use Rattle.ln_channel_laws.specs.Promises.{balances}
use Rattle.ln_channel_laws.proofs.Flight.WalkOverActs.{current_own, current_peer, signed_is}
use Rattle.ln_channel_laws.proofs.Flight.Images.{messages_of, side_of, length-sent, take-sent}
use Rattle.ln_channel_laws.proofs.Ends.Turns.{turn_of, by_front}
use Rattle.ln_channel_laws.proofs.Ends.Runs.{Sound, flipped, flipped_keys, met_row, meeting_row, ran}
use Rattle.ln_channel_laws.proofs.Ends.JustOpened.{opened_holds}
use Rattle.ln_channel_laws.proofs.Closing.ClosingTaken.{TakenOr36, close_row}
use Rattle.ln_channel_laws.proofs.Fees.Deals.{run_fees}
use Rattle.ln_msgs.specs.declared.messages.message.Message.{Message}
use Rattle.ln_msgs.specs.declared.messages.message.Message.TheVariants as message
use Rattle.ln_msgs.specs.declared.messages.closing.ClosingSigned.{ClosingSigned}
use Rattle.ln_channel.specs.Taking.{taken}
use Rattle.std.proofs.Common.{inl, inr}

-- at every end of a run
pub at_end : (a b : Signer) (s : OpenSpec) (c : Config) (funder fundee : Opened) (steps : List Step) → ArePartners a b
    → Opens a b s c funder fundee
    → Sound a b (run a b steps (opened funder fundee))
at_end a b s c funder fundee steps keys o =
    ran a b keys steps (opened funder fundee) (opened_holds a b s c funder fundee o)

-- ---- what is held begins what the other has covered

begins : (n k m : ℕ) (us vs : List Change) → take k us ≡ take k vs → n ≤ k → n ≤ m → Begins (take n us) (take m vs)
begins n k m us vs e le lm =
    let same : take n us ≡ take n (take m vs) = sym (take-take n k us le) ∙ ap (take n) e ∙ take-take n k vs le
    ∙ sym (take-take n m vs lm) in
    (drop n (take m vs), ap (λ ws. ws ++ drop n (take m vs)) same ∙ take-append-drop n (take m vs))

begins_all : (n k : ℕ) (us vs : List Change) → take k us ≡ take k vs → n ≤ k → Begins (take n us) vs
begins_all n k us vs e le =
    let same : take n us ≡ take n vs = sym (take-take n k us le) ∙ ap (take n) e ∙ take-take n k vs le in
    (drop n vs, ap (λ ws. ws ++ drop n vs) same ∙ take-append-drop n vs)

begins_so : (p q r s : List Change) → p ≡ r → q ≡ s → Begins p q → Begins r s
begins_so p q r s e f h = subst (λ w. Begins w s) e (subst (λ w. Begins p w) f h)

follows : (a b : Signer) (lx ly : ConnectionState) (x y : End) (ms ns : List Notice)
    → Flows lx ly (side_of a x) (side_of b y) ms
    → Flows ly lx (side_of b y) (side_of a x) ns → Follows (party x) (party y)
follows a b lx ly x y ms ns f g =
    let l = x.dance.log in
    let m = y.dance.log in
    let own : m.current.peer ≤ l.signed.own = current_own x.dance.numbers.signed x.dance.numbers.revoked
    y.dance.numbers.commitment l.acknowledged l.signed m.current f.within.own_acked f.phase in
    let peer : m.current.own ≤ l.signed.peer = current_peer x.dance.numbers.signed x.dance.numbers.revoked
    y.dance.numbers.commitment l.acknowledged l.signed m.current f.within.peer_acked f.phase in
    let w = g.within in
    let held : m.acknowledged.peer ≤ m.current.peer = omega (arith, w.peer_acked, w.peer_signed) in
    record {
      of_x = begins_so _ _ _ _ (take-sent m.acknowledged.peer m.received) (take-sent l.signed.own l.own)
          (begins m.acknowledged.peer m.current.peer l.signed.own (all_sent m.received) (all_sent l.own) f.agree held
          (omega (arith, held, own)));
      of_y = begins_so _ _ _ _ (take-sent m.current.own m.own) (take-sent l.signed.peer l.received)
          (begins m.current.own l.current.peer l.signed.peer (all_sent m.own) (all_sent l.received) (sym g.agree)
          (omega (arith, peer, f.within.peer_signed)) peer);
      in_order = begins_so _ _ _ _ (take-sent m.acknowledged.peer m.received) refl
          (begins_all m.acknowledged.peer m.current.peer (all_sent m.received) (all_sent l.own) f.agree held);
    }

headline_of : (a b : Signer) (p : Ends) → Sound a b p → Headline p
headline_of a b p h = (
  follows a b p.x_line p.y_line p.x p.y h.to_y h.to_x h.hold.kept.there h.hold.kept.back,
  follows b a p.y_line p.x_line p.y p.x h.to_x h.to_y h.hold.kept.back h.hold.kept.there,
)

pub headline : (a b : Signer) (s : OpenSpec) (c : Config) (funder fundee : Opened) (steps : List Step) → ArePartners a b
    → Opens a b s c funder fundee
    → Headline (run a b steps (opened funder fundee))
headline a b s c funder fundee steps keys o =
    headline_of a b (run a b steps (opened funder fundee)) (at_end a b s c funder fundee steps keys o)

-- ---- no message is refused

fee_front : (a : Signer) (m : ClosingSigned) (ms : List Message) (e : End)
    → TakenOr36 (taken a (message.ClosingSigned m) e) → TakesFront a Connected (message.ClosingSigned m ∷ ms) e
fee_front a m ms e (inl t) = inl t
fee_front a m ms e (inr r) = inr (refl, r)

front : (a b : Signer) → ArePartners a b → (p : Ends) → AreSent p.y.closing.fees → Sound a b p
    → TakesFront a p.x_line p.to_x p.x
front a b keys p sent h = let is = h.in_x in subst (λ ms. TakesFront a p.x_line ms p.x) (sym is)
    (by_front a b h.channel p.y_line p.x p.y h.to_y p.said_x p.said_y
    (λ l ns. p.x_line ≡ l → TakesFront a p.x_line (messages_of h.channel ns) p.x) (λ l is. tt)
    (λ m ns k is. inl (completed a (resumed a m p.x), meeting_row a b keys p is h.channel m ns h.to_y k))
    (λ n ns other k is. inl (completed a (turn_of a n p.x), met_row a b keys p is h.channel n ns h.to_y other k))
    (λ m ns k is. subst (λ l. TakesFront a l (message.ClosingSigned m ∷ messages_of h.channel ns) p.x) (sym is)
    (fee_front a m (messages_of h.channel ns) p.x
    (close_row a b h.channel p.y_line p.x p.y m ns h.to_y p.said_x p.said_y keys sent k))) p.x_line h.to_x h.hold refl)

pub none_refused : (a b : Signer) (s : OpenSpec) (c : Config) (funder fundee : Opened) (steps : List Step)
    → ArePartners a b
    → Opens a b s c funder fundee → AreSent funder.closing.fees → AreSent fundee.closing.fees
    → NoneRefused a b (run a b steps (opened funder fundee))
none_refused a b s c funder fundee steps keys o fx fy =
    let p = run a b steps (opened funder fundee) in
    let h = at_end a b s c funder fundee steps keys o in
    let same = run_fees a b steps (opened funder fundee) in
    let sent_x : AreSent p.x.closing.fees = subst AreSent (sym same.x) fx in
    let sent_y : AreSent p.y.closing.fees = subst AreSent (sym same.y) fy in
    (front a b keys p sent_y h, front b a (flipped_keys a b keys) (turned p) sent_x (flipped a b p h))

-- ---- at rest

nothing_in : (channel : List ℕ) (ns : List Notice) → messages_of channel ns ≡ [] → ns ≡ []
nothing_in channel [] e = refl
nothing_in channel (n ∷ ns) e = absurd (cc)

-- nothing is left to sign or to acknowledge
record HasNothing (l : Log) : Type 0 where
  acked_own : l.acknowledged.own ≡ l.signed.own
  acked_peer : l.acknowledged.peer ≡ l.signed.peer
  all : l.signed.own ≡ length l.own
  seen : l.signed.peer ≡ l.current.peer

nothing_new : (o a s l : Bool) → cond o (Some refusal.SignatureOutstanding)
    (first_fault (cond a (cond s (Some refusal.NothingToSign) None) (Some refusal.SignatureOutstanding))
    (cond l (Some refusal.NumbersSpent) None)) ≡ Some refusal.NothingToSign → (a ≡ true) × (s ≡ true)
nothing_new true a s l e = absurd (cc)
nothing_new false false s l e = absurd (cc)
nothing_new false true true l e = (refl, refl)
nothing_new false true false true e = absurd (cc)
nothing_new false true false false e = absurd (cc)

has_nothing : (d : Dancer) → sign_fault d ≡ Some refusal.NothingToSign → HasNothing d.log
has_nothing d e =
    let l = d.log in
    let p = nothing_new (owes d) (same_counts l.acknowledged l.signed) (same_counts l.signed (after_sign l).signed)
    (is_last d.numbers.signed) e in
    let a = parts (l.acknowledged.own == l.signed.own) (l.acknowledged.peer == l.signed.peer) p.0 in
    let s = parts (l.signed.own == length l.own) (l.signed.peer == l.current.peer) p.1 in
    record {
      acked_own = eqb-true l.acknowledged.own l.signed.own a.0;
      acked_peer = eqb-true l.acknowledged.peer l.signed.peer a.1;
      all = eqb-true l.signed.own (length l.own) s.0;
      seen = eqb-true l.signed.peer l.current.peer s.1;
    }

holds_all : (a b : Signer) (x y : End) → Flows Connected Connected (side_of a x) (side_of b y) []
    → Flows Connected Connected (side_of b y) (side_of a x) [] → HasNothing x.dance.log → HasNothing y.dance.log
    → HoldsAll (party x) (party y)
holds_all a b x y f g sx sy =
    let l = x.dance.log in
    let k = y.dance.log in
    let has : LacksNothing (all_sent l.own) l.current.peer x.dance.numbers.signed x.dance.numbers.commitment
    (all_sent k.received) k.acknowledged.own y.dance.numbers.commitment y.dance.numbers.revoked = f.flight in
    let m : LacksNothing (all_sent k.own) k.current.peer y.dance.numbers.signed y.dance.numbers.commitment
    (all_sent l.received) l.acknowledged.own x.dance.numbers.commitment x.dance.numbers.revoked = g.flight in
    let p = signed_is y.dance.numbers.signed y.dance.numbers.revoked x.dance.numbers.commitment k.acknowledged k.signed
    l.current m.accepted g.phase in
    let own : l.current.own ≡ length l.own = p.1 ∙ sy.seen ∙ sym m.knows ∙ sx.acked_own ∙ sx.all in
    let peer : l.acknowledged.peer ≡ length l.received = sx.acked_peer ∙ sx.seen ∙ p.0 ∙ sy.all
    ∙ sym (length-sent k.own) ∙ ap length (sym m.has_all) ∙ length-sent l.received in
    record {
      own = ap all_sent (take_all l.current.own l.own (omega (arith, own)));
      peer = ap all_sent (take_all l.acknowledged.peer l.received (omega (arith, peer))) ∙ m.has_all;
    }

-- its commitment covers all of the other's
covers_peer : (a b : Signer) (x y : End) → Flows Connected Connected (side_of b y) (side_of a x) []
    → HasNothing y.dance.log
    → all_sent (take x.dance.log.current.peer x.dance.log.received) ≡ all_sent y.dance.log.own
covers_peer a b x y g sy =
    let l = x.dance.log in
    let k = y.dance.log in
    let m : LacksNothing (all_sent k.own) k.current.peer y.dance.numbers.signed y.dance.numbers.commitment
    (all_sent l.received) l.acknowledged.own x.dance.numbers.commitment x.dance.numbers.revoked = g.flight in
    let p = signed_is y.dance.numbers.signed y.dance.numbers.revoked x.dance.numbers.commitment k.acknowledged k.signed
    l.current m.accepted g.phase in
    let all : l.current.peer ≡ length l.received = p.0 ∙ sy.all ∙ sym (length-sent k.own) ∙ ap length (sym m.has_all)
    ∙ length-sent l.received in
    ap all_sent (take_all l.current.peer l.received (omega (arith, all))) ∙ m.has_all

same_balances : (a b : Signer) (x y : End) → Flows Connected Connected (side_of a x) (side_of b y) []
    → Flows Connected Connected (side_of b y) (side_of a x) [] → HasNothing x.dance.log → HasNothing y.dance.log
    → balances x ≡ balances y
same_balances a b x y f g sx sy =
    let l = x.dance.log in
    let k = y.dance.log in
    let own = (holds_all a b x y f g sx sy).own ∙ sym (covers_peer b a y x f sx) in
    let peer = covers_peer a b x y g sy ∙ sym (holds_all b a y x g f sy sx).own in
    turned_views l.opening l.role (covered l l.current) (covered k k.current) (cc (own, peer))
    ∙ ap (λ r. view_for l.opening r (covered k k.current)) g.roles
    ∙ ap (λ o. view_for o k.role (covered k k.current)) (sym f.same)

module _ (a b : Signer) (x y : End) where
  at_rest : (lx ly : ConnectionState) (to_x to_y : List Notice) → lx ≡ Connected → ly ≡ Connected → to_y ≡ []
      → Flows lx ly (side_of a x) (side_of b y) to_y → Flows Connected Connected (side_of a x) (side_of b y) []
  at_rest lx ly to_x to_y ex ey dy f =
      let f1 : Flows Connected ly (side_of a x) (side_of b y) to_y =
      subst (λ l. Flows l ly (side_of a x) (side_of b y) to_y) ex f in
      let f2 : Flows Connected Connected (side_of a x) (side_of b y) to_y =
      subst (λ l. Flows Connected l (side_of a x) (side_of b y) to_y) ey f1 in
      subst (λ ms. Flows Connected Connected (side_of a x) (side_of b y) ms) dy f2

pub agrees : (a b : Signer) (s : OpenSpec) (c : Config) (funder fundee : Opened) (steps : List Step) → ArePartners a b
    → Opens a b s c funder fundee
    → Agrees (run a b steps (opened funder fundee))
agrees a b s c funder fundee steps keys o rest =
    let p = run a b steps (opened funder fundee) in
    let h = at_end a b s c funder fundee steps keys o in
    let nx = nothing_in h.channel h.to_x (sym h.in_x ∙ rest.to_x) in
    let ny = nothing_in h.channel h.to_y (sym h.in_y ∙ rest.to_y) in
    let sx = has_nothing p.x.dance rest.x in
    let sy = has_nothing p.y.dance rest.y in
    let f = at_rest a b p.x p.y p.x_line p.y_line h.to_x h.to_y rest.x_met rest.y_met ny h.hold.kept.there in
    let g = at_rest b a p.y p.x p.y_line p.x_line h.to_y h.to_x rest.y_met rest.x_met nx h.hold.kept.back in
    (holds_all a b p.x p.y f g sx sy, holds_all b a p.y p.x g f sy sx, same_balances a b p.x p.y f g sx sy)

-- ---- what was sent beside updates, where nothing is in flight

taken_readiness : (a b : Signer) (x y : End) (lx ly : ConnectionState) (ms : List Notice) → lx ≡ Connected
    → ly ≡ Connected → ms ≡ []
    → ReadinessFlow lx ly (side_of a x) (side_of b y) ms → HasTakenReadiness x y
taken_readiness a b x y lx ly ms ex ey none t =
    let one : ReadinessFlight Connected ly (side_of a x) (side_of b y) ms =
    subst (λ l. ReadinessFlight l ly (side_of a x) (side_of b y) ms) ex t.flight in
    let both : ReadinessFlight Connected Connected (side_of a x) (side_of b y) ms =
    subst (λ l. ReadinessFlight Connected l (side_of a x) (side_of b y) ms) ey one in
    let last : ReadinessFlight Connected Connected (side_of a x) (side_of b y) [] =
    subst (λ ns. ReadinessFlight Connected Connected (side_of a x) (side_of b y) ns) none both in
    record { shutdown = last.1; ready = λ e. last.0 (ap is_some e) }

pub readiness_agrees : (a b : Signer) (s : OpenSpec) (c : Config) (funder fundee : Opened) (steps : List Step)
    → ArePartners a b
    → Opens a b s c funder fundee → ReadinessAgrees (run a b steps (opened funder fundee))
readiness_agrees a b s c funder fundee steps keys o quiet =
    let p = run a b steps (opened funder fundee) in
    let h = at_end a b s c funder fundee steps keys o in
    let nx = nothing_in h.channel h.to_x (sym h.in_x ∙ quiet.to_x) in
    let ny = nothing_in h.channel h.to_y (sym h.in_y ∙ quiet.to_y) in (
      taken_readiness a b p.x p.y p.x_line p.y_line h.to_y quiet.x_met quiet.y_met ny h.hold.told.there,
      taken_readiness b a p.y p.x p.y_line p.x_line h.to_x quiet.y_met quiet.x_met nx h.hold.told.back,
    )

-- ---- no add after the own shutdown

pub none_adds_late : (a b : Signer) (s : OpenSpec) (c : Config) (funder fundee : Opened) (steps : List Step)
    → ArePartners a b → Opens a b s c funder fundee
    → NoneAddsLate (run a b steps (opened funder fundee))
none_adds_late a b s c funder fundee steps keys o =
    let h = at_end a b s c funder fundee steps keys o in
    (h.hold.x_said.adds, h.hold.y_said.adds)
