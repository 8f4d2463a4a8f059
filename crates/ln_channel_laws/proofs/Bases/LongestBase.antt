-- Over every list of steps all that an end holds, up to any of its events, can be its base.
use Rattle.std.proofs.Common.{◌≡◌, ℕ, ◌+◌, ◌*◌, ◌-◌, ◌≤◌, List, [], ◌∷◌, ◌++◌, length, take, drop, refl, sym, ap}
use Rattle.std.proofs.Common.{◌∙◌, subst, arith, Bool, true, false, cond, not, ◌||◌, Option, Some, None}
use Rattle.std.proofs.Common.{Result, Ok, Err}
use Rattle.std.proofs.Common.{length-drop}
use Rattle.std.proofs.lemmas.List.{take-take, take-append-drop, length-take-le}
use Rattle.ln_msgs.specs.declared.messages.message.Message.{Message}
use Rattle.ln_msgs.specs.declared.messages.message.Message.TheVariants as message
use Rattle.ln_msgs.specs.declared.messages.closing.ClosingSigned.{ClosingSigned}
use Rattle.ln_msgs.specs.declared.messages.commitments.ChannelReestablish.{ChannelReestablish}
use Rattle.ln_msgs.specs.declared.messages.opening.FundingCreated.{FundingCreated}
use Rattle.ln_refusals.specs.declared.refusal.Refusal.{Refusal}
use Rattle.ln_refusals.specs.declared.refusal.Refusal.TheVariants as refusal
use Rattle.ln_keys.specs.declared.role.Role.{Role}
use Rattle.ln_keys.specs.declared.role.Role.TheVariants.{Funder, Fundee}
use Rattle.ln_keys.specs.Signer.{Signer}
use Rattle.ln_log.specs.declared.opening.Opening.{Opening}
use Rattle.ln_log.specs.declared.update.Update.{Update as Change}
use Rattle.ln_log.specs.declared.update.Update.TheVariants as update
use Rattle.ln_log.specs.declared.mark.EventRef.{EventRef}
use Rattle.ln_log.specs.declared.mark.EventRef.TheVariants as ref
use Rattle.ln_log.specs.Opening.{HasFunds, IsFit}
use Rattle.ln_log.specs.Updates.{as_sent, next_id}
use Rattle.ln_log.specs.Limits.{HasNextId}
use Rattle.ln_log.specs.Log as log
use Rattle.ln_log.specs.Log.{Log, Counts, between, taken_fault}
use Rattle.ln_log.specs.Window.{IsClosed, MayBeBase}
use Rattle.ln_log.proofs.Bases.{base_tells}
use Rattle.ln_log.proofs.Kept.{part_within}
use Rattle.ln_log.proofs.Removing.{numbered-take}
use Rattle.ln_dance.specs.Dance.{Dancer}
use Rattle.ln_dance.specs.Messages.{update_message}
use Rattle.ln_close.specs.declared.closing.FeeAnswer.{FeeAnswer}
use Rattle.ln_close.specs.declared.closing.FeeAnswer.TheVariants as answer
use Rattle.ln_close.specs.Closing.{after_shut, may_start, answer_to}
use Rattle.ln_hooks.specs.Amount.{greatest_amount}
use Rattle.ln_channel.specs.declared.command.Command.{Command}
use Rattle.ln_channel.specs.declared.command.Command.TheVariants as command
use Rattle.ln_channel.specs.declared.config.Config.{Config}
use Rattle.ln_channel.specs.declared.config.OpenSpec.{OpenSpec}
use Rattle.ln_channel.specs.declared.machine.ConnectionState.{ConnectionState}
use Rattle.ln_channel.specs.declared.machine.ConnectionState.TheVariants.{Down, AwaitingReestablish, Connected}
use Rattle.ln_channel.specs.declared.opening.Opened.{Opened}
use Rattle.ln_channel.specs.Opening.{unless, accept_fault, funder_end, created_message}
use Rattle.ln_channel.specs.Opening.{created_fault, fundee_end}
use Rattle.ln_channel.specs.Meeting.{Opens}
use Rattle.ln_channel.specs.Base.{own_number, peer_number, allowed, based, next_base}
use Rattle.ln_channel.specs.Ledger.{refs_of}
use Rattle.ln_channel.specs.End.{End, Turn, end_of, end_dropped, has_begun, is_closed, owes_shutdown, answers_shutdown}
use Rattle.ln_channel.specs.End.{settled, sending}
use Rattle.ln_channel.specs.Taking.{takes, answering, answered_end, answered, range_in, completed_row, shuts_by_peer}
use Rattle.ln_channel.specs.Taking.{update_fault, early_fault, update_row}
use Rattle.ln_channel.specs.Commands.{confirm_fault, own_fault, propose_fault, proposes}
use Rattle.ln_channel.specs.Commands.{sign_command_fault, shut_fault, shuts_down, command_row}
use Rattle.ln_channel.specs.Commands.{unready_fault}
use Rattle.ln_channel.specs.State.{is_down}
use Rattle.ln_channel.specs.Step.{faulted, line_fault}
use Rattle.ln_channel_laws.specs.Ends.{Ends, turned, opened, message_at, answers, delivers, notes, Act, Deliver, Give}
use Rattle.ln_channel_laws.specs.Ends.{Note}
use Rattle.ln_channel_laws.specs.Ends.{Lose, Cut, Save, still_come, acts, connects, Step, By, Connect, happens, run}
use Rattle.ln_keys.specs.Partners.{ArePartners}
use Rattle.ln_channel_laws.specs.Longest.{IsLongest, BothAreLongest}
use Rattle.ln_channel_laws.proofs.Tests.{first_none, was_none, was_given}
use Rattle.ln_channel_laws.proofs.Flight.Sides.{Notice, Update, Sign, Revoke, Ready, Shutdown, Close, Again}
use Rattle.ln_channel_laws.proofs.Flight.Images.{messages_of, side_of}
use Rattle.ln_channel_laws.proofs.Flight.DueRows.{row_of_update}
use Rattle.ln_channel_laws.proofs.Ends.Acts.{Hold, front_reads}
use Rattle.ln_channel_laws.proofs.Ends.Turns.{turn_of, is_close, row, by_front}
use Rattle.ln_channel_laws.proofs.Ends.Runs.{Sound, flipped, flipped_keys, met_row, meeting_row, ran}
use Rattle.ln_channel_laws.proofs.Ends.JustOpened.{opened_holds, opened_fresh}
use Rattle.ln_channel_laws.proofs.Machine.TurnMoves.{log_within}
use Rattle.ln_channel_laws.proofs.Machine.RunMoves.{starts}
use Rattle.ln_channel_laws.proofs.All.{All}
use Rattle.ln_channel_laws.proofs.Bases.BaseStands.{IsAt}
use Rattle.ln_channel_laws.proofs.Events.Decisions.{Behind, noted}
use Rattle.ln_channel_laws.proofs.Events.Undecided.{IsNamed, NamedIn, Named, keep_own, keep_peer, keep_dropped}
use Rattle.ln_channel_laws.proofs.Events.EventsOverRuns.{acts_told, none_named}
use Rattle.ln_channel_laws.proofs.Bases.PaidAsItCame.{IsPaced, paced_proposed, paced_received, paced_signed}
use Rattle.ln_channel_laws.proofs.Bases.PaidAsItCame.{paced_accepted}
use Rattle.ln_channel_laws.proofs.Bases.PaidAsItCame.{paced_learned}
use Rattle.ln_channel_laws.proofs.Bases.PaidAsItCame.{paced_dropped, paced_based, paced_opened, square, fee_own}
use Rattle.ln_channel_laws.proofs.Bases.PaidAsItCame.{fee_peer}
use Rattle.ln_channel_laws.proofs.Bases.HowFar.{EachRest, whole_rest, rest-drop, rests_so, least, own_least}
use Rattle.ln_channel_laws.proofs.Bases.HowFar.{peer_least, IsBelow, IsFrom, least_le, least-append, least_from}
use Rattle.ln_channel_laws.proofs.Bases.HowFar.{rests_grow}
use Rattle.ln_channel_laws.proofs.Bases.HowFar.{all_refs}
use Rattle.ln_channel_laws.proofs.Bases.HowFar.{one_more, passes}

-- ---- what every step keeps

-- where these events are undecided, so much may be the base of a log whose own part is c at most, and the peer's p
abbrev Allows : Opening → Role → ℕ → ℕ → List Change → List Change → List EventRef → Type 0
Allows o r c p own got rs = IsClosed o r (take (least own_number c rs) own) (take (least peer_number p rs) got)

-- of the events that are undecided, the first may be decided, or more of them
record IsSettling (l : Log) (undecided : List EventRef) : Type 0 where
  paced : IsPaced l
  rests : EachRest (Allows l.opening l.role l.current.own l.acknowledged.peer l.own l.received) undecided

abbrev Settling : End → Type 0
Settling e = IsSettling e.dance.log e.ledger.undecided

all_so : (P Q : EventRef → Type 0) → ((r : EventRef) → P r → Q r) → (rs : List EventRef) → All P rs → All Q rs
all_so P Q f [] h = tt
all_so P Q f (r ∷ rs) h = (f r h.0, all_so P Q f rs h.1)

-- ---- lists that change after what is held

cut : (n m : ℕ) (us vs : List Change) → n ≤ m → take m vs ≡ take m us → take n us ≡ take n vs
cut n m us vs le e = sym (take-take n m us le) ∙ ap (take n) (sym e) ∙ take-take n m vs le

same_rests : (o : Opening) (r : Role) (c p : ℕ) (own own_now got got_now : List Change)
    → take c own_now ≡ take c own → take p got_now ≡ take p got → (rs : List EventRef)
    → EachRest (Allows o r c p own got) rs → EachRest (Allows o r c p own_now got_now) rs
same_rests o r c p own own_now got got_now e f rs = rests_so (Allows o r c p own got) (Allows o r c p own_now got_now)
    (λ qs h. subst (λ us. IsClosed o r us (take (least peer_number p qs) got_now))
    (cut (least own_number c qs) c own own_now (least_le own_number c qs) e)
    (subst (IsClosed o r (take (least own_number c qs) own))
    (cut (least peer_number p qs) p got got_now (least_le peer_number p qs) f) h)) rs

-- ---- more is held

own_below : (c p : ℕ) (d : Option ℕ) (r : EventRef) → IsNamed c p d r → IsBelow c (own_number r)
own_below c p d (ref.Own n) h = h
own_below c p d (ref.Peer n) h = tt
own_below c p d ref.Close h = tt

peer_below : (c p : ℕ) (d : Option ℕ) (r : EventRef) → IsNamed c p d r → IsBelow p (peer_number r)
peer_below c p d (ref.Own n) h = tt
peer_below c p d (ref.Peer n) h = h
peer_below c p d ref.Close h = tt

few_funds : (l : Log) → IsPaced l → 1000 * l.opening.satoshis ≤ greatest_amount
few_funds l h = omega (arith, h.kept.funds.funds)

length-part : (c d : ℕ) (us : List Change) → c ≤ d → d ≤ length us → c + length (between c d us) ≡ d
length-part c d us le in_ =
    let rest = length-drop c us in
    let part = length-take-le (d - c) (drop c us) (omega (arith, rest, in_)) in
    omega (arith, part, le)

accepts_rests : (l : Log) (d : Option ℕ) (rs : List EventRef) → IsPaced l
    → All (IsNamed l.current.own l.acknowledged.peer d) rs
    → EachRest (Allows l.opening l.role l.current.own l.acknowledged.peer l.own l.received) rs
    → EachRest (Allows l.opening l.role l.acknowledged.own l.acknowledged.peer l.own l.received)
    (rs ++ refs_of true l.current.own (between l.current.own l.acknowledged.own l.own))
accepts_rests l d rs h named old =
    let k = h.kept in
    let w = k.within in
    let o = l.opening in
    let r = l.role in
    let from = l.current.own in
    let to = l.acknowledged.own in
    let p = l.acknowledged.peer in
    let us = between from to l.own in
    let most = 1000 * o.satoshis in
    rests_grow own_number peer_number (λ a b. IsClosed o r (take a l.own) (take b l.received)) from to p w.own_current
    (refs_of true from us) (all_refs (λ q. IsFrom from (own_number q)) true from us (λ n le. le))
    (all_refs (λ q. peer_number q ≡ None) true from us (λ n le. refl))
    (λ a low high. square l h a p low high (omega arith) w.peer_acknowledged)
    (λ b first. passes own_number true (λ n. refl) most (few_funds l h) l.own
    (λ a. IsClosed o r (take a l.own) (take b l.received))
    (λ n x vs e now. subst (λ ws. IsClosed o r ws (take b l.received)) (sym (one_more n l.own (update.Fee x) vs e))
    (fee_own o r (take n l.own) (take b l.received) x (numbered-take 0 b l.received k.peer_ids) now))
    from to us (drop (to - from) (drop from l.own)) (sym (take-append-drop (to - from) (drop from l.own)))
    (length-part from to l.own w.own_current (omega (arith, w.own_acknowledged, w.own_signed)))
    (part_within most from to us l.own k.own_amounts refl) first)
    rs (all_so (IsNamed from p d) (λ q. IsBelow from (own_number q)) (own_below from p d) rs named) old

learns_rests : (l : Log) (d : Option ℕ) (rs : List EventRef) → IsPaced l
    → All (IsNamed l.current.own l.acknowledged.peer d) rs
    → EachRest (Allows l.opening l.role l.current.own l.acknowledged.peer l.own l.received) rs
    → EachRest (Allows l.opening l.role l.current.own l.signed.peer l.own l.received)
    (rs ++ refs_of false l.acknowledged.peer (between l.acknowledged.peer l.signed.peer l.received))
learns_rests l d rs h named old =
    let k = h.kept in
    let w = k.within in
    let o = l.opening in
    let r = l.role in
    let from = l.acknowledged.peer in
    let to = l.signed.peer in
    let p = l.current.own in
    let us = between from to l.received in
    let most = 1000 * o.satoshis in
    rests_grow peer_number own_number (λ a b. IsClosed o r (take b l.own) (take a l.received)) from to p
    w.peer_acknowledged
    (refs_of false from us) (all_refs (λ q. IsFrom from (peer_number q)) false from us (λ n le. le))
    (all_refs (λ q. own_number q ≡ None) false from us (λ n le. refl))
    (λ a low high. square l h p a (omega arith) w.own_current low high)
    (λ b first. passes peer_number false (λ n. refl) most (few_funds l h) l.received
    (λ a. IsClosed o r (take b l.own) (take a l.received))
    (λ n x vs e now. subst (IsClosed o r (take b l.own)) (sym (one_more n l.received (update.Fee x) vs e))
    (fee_peer o r (take b l.own) (take n l.received) x (numbered-take 0 b l.own k.own_ids) now))
    from to us (drop (to - from) (drop from l.received)) (sym (take-append-drop (to - from) (drop from l.received)))
    (length-part from to l.received w.peer_acknowledged (omega (arith, w.peer_signed, w.peer_current)))
    (part_within most from to us l.received k.peer_amounts refl) first)
    rs (all_so (IsNamed p from d) (λ q. IsBelow from (peer_number q)) (peer_below p from d) rs named) old

-- the close tells of no update
closes_rests : (o : Opening) (r : Role) (c p : ℕ) (own got : List Change) (rs : List EventRef)
    → EachRest (Allows o r c p own got) rs → EachRest (Allows o r c p own got) (rs ++ ref.Close ∷ [])
closes_rests o r c p own got [] h = (h, h)
closes_rests o r c p own got (q ∷ rs) h = (
  subst (λ n. IsClosed o r (take n own) (take (least peer_number p (q ∷ (rs ++ ref.Close ∷ []))) got))
      (sym (least-append own_number c (q ∷ rs) (ref.Close ∷ [])))
      (subst (λ n. IsClosed o r (take (least own_number c (q ∷ rs)) own) (take n got))
      (sym (least-append peer_number p (q ∷ rs) (ref.Close ∷ []))) h.0),
  closes_rests o r c p own got rs h.1,
)

-- ---- turns

either : (b : Bool) (e f : End) → Settling e → Settling f → Settling (cond b e f)
either true e f h k = h
either false e f h k = k

settled_settling : (e : End) → Settling e → Settling (settled e)
settled_settling e h =
    let n = answers_shutdown e in
    begun (has_begun n) (may_start n.closing) n
    (either (owes_shutdown e) (record e { closing = after_shut e.closing }) e h h)
  where
    begun : (t s : Bool) (n : End) → Settling n → Settling
        (cond t (record n { closing = cond s (record n.closing { own_fee = Some n.closing.fees.first }) n.closing }) n)
    begun true true n k = k
    begun true false n k = k
    begun false s n k = k

proposes_settling : (x : End) (u : Change) → log.IsWithin x.dance.log → HasNextId x.dance.log.own u
    → propose_fault x u ≡ None → Settling x → Settling (proposes u x)
proposes_settling x u w id none s =
    let l = x.dance.log in
    let k = keep_own l x.closing.closed u w in
    record {
      paced = paced_proposed l u (first_none (own_fault x u) _ none).1 id s.paced;
      rests = same_rests l.opening l.role l.current.own l.acknowledged.peer l.own (l.own ++ u ∷ []) l.received
          l.received k.own k.peer x.ledger.undecided s.rests;
    }

takes_settling : (x : End) (u : Change) → log.IsWithin x.dance.log → taken_fault x.dance.log u ≡ None → Settling x
    → Settling (takes u x)
takes_settling x u w none s =
    let l = x.dance.log in
    let k = keep_peer l x.closing.closed u w in
    record {
      paced = paced_received l u none s.paced;
      rests = same_rests l.opening l.role l.current.own l.acknowledged.peer l.own l.own l.received
          (l.received ++ u ∷ []) k.own k.peer x.ledger.undecided s.rests;
    }

drops_settling : (x : End) → log.IsWithin x.dance.log → Settling x → Settling (end_dropped x)
drops_settling x w s =
    let l = x.dance.log in
    let k = keep_dropped l x.closing.closed w in
    record {
      paced = paced_dropped l s.paced;
      rests = same_rests l.opening l.role l.current.own l.acknowledged.peer l.own (take l.signed.own l.own) l.received
          (take l.current.peer l.received) k.own k.peer x.ledger.undecided s.rests;
    }

based_settling : (x : End) → Settling x → Settling (based x)
based_settling x s = record { paced = paced_based x.dance.log (next_base x) s.paced; rests = s.rests }

module _ (a b : Signer) (keys : ArePartners a b) (channel : List ℕ) (ly : ConnectionState) (x y : End)
    (said_x said_y : List Message) where
  -- it takes the peer's update by its log's rules too
  log_takes : (u : Change) (ns to_y : List Notice)
      → Hold a b channel Connected ly x y (Update u ∷ ns) to_y said_x said_y
      → taken_fault x.dance.log u ≡ None
  log_takes u ns to_y h =
      let fits = (front_reads ly (side_of a x) (side_of b y) (Update u) ns h.kept.back.flight).0 in
      let taken : update_row (as_sent u) x ≡ Ok (turn_of a (Update u) x) = sym (row_of_update a channel u x)
      ∙ row a b keys channel ly x y said_x said_y (Update u) ns to_y refl h in
      let none = first_none (early_fault x (as_sent u)) _ (was_none (update_fault x (as_sent u)) _ _ taken) in
      subst (λ v. taken_fault x.dance.log v ≡ None) fits.sent none.1

  turn_settling : (n : Notice) (ns to_y : List Notice) → is_close n ≡ false → NamedIn x x.ledger.undecided
      → Settling x → Hold a b channel Connected ly x y (n ∷ ns) to_y said_x said_y → Settling (turn_of a n x).end
  turn_settling (Update u) ns to_y other named s h =
      takes_settling x u (log_within a x h.kept.there.within) (log_takes u ns to_y h) s
  turn_settling (Sign m) ns to_y other named s h = record {
    paced = paced_accepted x.dance.log s.paced;
    rests = accepts_rests x.dance.log x.closing.closed x.ledger.undecided s.paced named s.rests;
  }
  turn_settling (Revoke m) ns to_y other named s h = record {
    paced = paced_learned x.dance.log s.paced;
    rests = learns_rests x.dance.log x.closing.closed x.ledger.undecided s.paced named s.rests;
  }
  turn_settling (Ready m) ns to_y other named s h = either (x.readiness.ready_received || is_closed x) x _ s s
  turn_settling (Shutdown m) ns to_y other named s h = either x.closing.peer_shut x (shuts_by_peer m x) s s
  turn_settling (Close m) ns to_y other named s h = absurd (cc)
  turn_settling (Again m) ns to_y other named s h = s

fee_settling : (k : Signer) (x : End) (m : ClosingSigned) (ans : FeeAnswer) → Settling x
    → Settling (answering k ans (answered_end m ans x)).end
fee_settling k x m answer.Nothing s = s
fee_settling k x m (answer.Propose fee) s = s
fee_settling k x m (answer.Close fee) s = let l = x.dance.log in record {
  paced = s.paced;
  rests = closes_rests l.opening l.role l.current.own l.acknowledged.peer l.own l.received x.ledger.undecided s.rests;
}
fee_settling k x m (answer.EchoAndClose fee) s = let l = x.dance.log in record {
  paced = s.paced;
  rests = closes_rests l.opening l.role l.current.own l.acknowledged.peer l.own l.received x.ledger.undecided s.rests;
}

-- ---- what x does, where y is as it was

record Stays (p q : Ends) : Type 0 where
  x : Settling q.x
  other : q.y ≡ p.y

module _ (a b : Signer) (keys : ArePartners a b) where
  met : (p : Ends) → p.x_line ≡ Connected → Named p.x → Settling p.x → (channel : List ℕ) (n : Notice)
      (ns to_y : List Notice) → is_close n ≡ false
      → Hold a b channel Connected p.y_line p.x p.y (n ∷ ns) to_y p.said_x p.said_y
      → Stays p (delivers a (messages_of channel (n ∷ ns)) p)
  met p is named s channel n ns to_y other h =
      let q : Ends = record p { to_x = messages_of channel ns } in
      let t = turn_settling a b keys channel p.y_line p.x p.y p.said_x p.said_y n ns to_y other named.held s h in
      subst (λ res. Stays p (answers res q)) (sym (met_row a b keys p is channel n ns to_y other h))
      (record { x = settled_settling (turn_of a n p.x).end t; other = refl })

  meeting : (p : Ends) → p.x_line ≡ AwaitingReestablish → Settling p.x
      → (channel : List ℕ) (m : ChannelReestablish) (ns to_y : List Notice)
      → Hold a b channel AwaitingReestablish p.y_line p.x p.y (Again m ∷ ns) to_y p.said_x p.said_y
      → Stays p (delivers a (messages_of channel (Again m ∷ ns)) p)
  meeting p is s channel m ns to_y h =
      let q : Ends = record p { to_x = messages_of channel ns } in
      subst (λ res. Stays p (answers res q)) (sym (meeting_row a b keys p is channel m ns to_y h))
      (record { x = settled_settling p.x s; other = refl })

  fee_by : (begun right : Bool) (res : Result FeeAnswer Refusal) (p : Ends) → Settling p.x
      → (channel : List ℕ) (m : ClosingSigned) (ns : List Notice)
      → Stays p (answers (completed_row a (cond (not begun) (Err refusal.OutOfPlace)
      (cond right (answered a m p.x res) (Err refusal.SignatureWrong)))) (record p { to_x = messages_of channel ns }))
  fee_by true true (Ok ans) p s channel m ns =
      let n = (answering a ans (answered_end m ans p.x)).end in
      record { x = settled_settling n (fee_settling a p.x m ans s); other = refl }
  fee_by true true (Err z) p s channel m ns = record { x = s; other = refl }
  fee_by true false res p s channel m ns = record { x = s; other = refl }
  fee_by false right res p s channel m ns = record { x = s; other = refl }

  fee : (p : Ends) → p.x_line ≡ Connected → Settling p.x → (channel : List ℕ) (m : ClosingSigned) (ns : List Notice)
      → Stays p (delivers a (messages_of channel (Close m ∷ ns)) p)
  fee p is s channel m ns =
      let q : Ends = record p { to_x = messages_of channel ns } in
      subst (λ l. Stays p (answers (message_at a l (message.ClosingSigned m) p.x) q)) (sym is)
      (fee_by (has_begun p.x) (a.accepts_close m.fee_satoshis m.signature)
      (answer_to p.x.closing m.fee_satoshis (range_in m)) p s channel m ns)

  given_by : (f : Option Refusal) (t : Turn) (p : Ends) → Settling p.x → (f ≡ None → Settling t.end)
      → Stays p (answers (unless f t) p)
  given_by None t p s k = record { x = k refl; other = refl }
  given_by (Some z) t p s k = record { x = s; other = refl }

  propose : (u : Change) (p : Ends) → Settling p.x → Sound a b p → HasNextId p.x.dance.log.own u
      → Stays p (answers (unless (propose_fault p.x u)
      (sending (update_message p.x.dance.channel u) (proposes u p.x))) p)
  propose u p s h id = given_by (propose_fault p.x u) _ p s
      (λ none. proposes_settling p.x u (log_within a p.x h.hold.kept.there.within) id none s)

  given : (c : Command) (p : Ends) → Settling p.x → Sound a b p → Stays p (answers (command_row a c p.x) p)
  given (command.Confirm id) p s h = given_by (confirm_fault p.x) _ p s (λ none. s)
  given (command.Add amount hash expiry onion origin) p s h =
      propose (update.Add (record {
        id = next_id p.x.dance.log.own;
        amount = amount;
        hash = hash;
        expiry = expiry;
        onion = onion;
        origin = origin;
      })) p s h refl
  given (command.Fulfil id preimage) p s h =
      propose (update.Fulfil (record { id = id; preimage = preimage })) p s h tt
  given (command.Fail id reason) p s h = propose (update.Fail (record { id = id; reason = reason })) p s h tt
  given (command.Malformed id sha code) p s h =
      propose (update.Malformed (record { id = id; sha256_of_onion = sha; failure_code = code })) p s h tt
  given (command.Fee feerate) p s h = propose (update.Fee (record { feerate = feerate })) p s h tt
  given command.Sign p s h = given_by (sign_command_fault p.x) _ p s
      (λ none. record { paced = paced_signed p.x.dance.log s.paced; rests = s.rests })
  given (command.Shutdown script) p s h =
      given_by (shut_fault script p.x) _ p s (λ none. settled_settling (shuts_down script p.x) s)
  given (command.Decide event mark) p s h = record { x = s; other = refl }
  given (command.Forget id) p s h = record { x = s; other = refl }
  given (command.Resume event mark) p s h = record { x = s; other = refl }

  commanded_by : (f : Option Refusal) (l : ConnectionState) (c : Command) (p : Ends) → Settling p.x → Sound a b p
      → Stays p (answers (faulted f (faulted (line_fault l) (command_row a c p.x))) p)
  commanded_by (Some z) l c p s h = record { x = s; other = refl }
  commanded_by None Down c p s h = record { x = s; other = refl }
  commanded_by None AwaitingReestablish c p s h = record { x = s; other = refl }
  commanded_by None Connected c p s h = given c p s h

  noted_settling : (x : End) (n : End) → n.dance ≡ x.dance → Behind x.ledger n.ledger → Settling x → Settling n
  noted_settling x n same b s =
      let l = x.dance.log in
      subst (λ (d : Dancer). IsSettling d.log n.ledger.undecided) (sym same)
      (subst (IsSettling l) (sym b.undecided) (record {
        paced = s.paced;
        rests = rest-drop (Allows l.opening l.role l.current.own l.acknowledged.peer l.own l.received) b.gone
            x.ledger.undecided s.rests;
      }))

  lost_by : (down : Bool) (p : Ends) → Settling p.x → Sound a b p
      → Stays p (cond down p (record p { x_line = Down; x = end_dropped p.x; to_x = [] }))
  lost_by true p s h = record { x = s; other = refl }
  lost_by false p s h =
      record { x = drops_settling p.x (log_within a p.x h.hold.kept.there.within) s; other = refl }

  cut_by : (down : Bool) (n : ℕ) (p : Ends) → Settling p.x
      → Stays p (cond down (record p { to_y = still_come n p.y_line p.to_y }) p)
  cut_by true n p s = record { x = s; other = refl }
  cut_by false n p s = record { x = s; other = refl }

  acts_settling : (act : Act) (p : Ends) → Named p.x → Settling p.x → Sound a b p → Stays p (acts a act p)
  acts_settling Deliver p named s h =
      let is = h.in_x in
      subst (λ ms. Stays p (delivers a ms p)) (sym is)
      (by_front a b h.channel p.y_line p.x p.y h.to_y p.said_x p.said_y
      (λ l ns. p.x_line ≡ l → Stays p (delivers a (messages_of h.channel ns) p))
      (λ l is. record { x = s; other = refl })
      (λ m ns k is. meeting p is s h.channel m ns h.to_y k)
      (λ n ns other k is. met p is named s h.channel n ns h.to_y other k)
      (λ m ns k is. fee p is s h.channel m ns) p.x_line h.to_x h.hold refl)
  acts_settling (Give c) p named s h = commanded_by (unready_fault c p.x) p.x_line c p s h
  acts_settling (Note c) p named s h =
      record { x = noted_settling p.x (notes c p).x refl (noted c p.x) s; other = refl }
  acts_settling Lose p named s h = lost_by (is_down p.x_line) p s h
  acts_settling (Cut n) p named s h = cut_by (is_down p.x_line) n p s
  acts_settling Save p named s h = record { x = based_settling p.x s; other = refl }

-- ---- steps

record Both (p : Ends) : Type 0 where
  x : Settling p.x
  y : Settling p.y
  x_named : Named p.x
  y_named : Named p.y

swapped : (p : Ends) → Both p → Both (turned p)
swapped p k = record { x = k.y; y = k.x; x_named = k.y_named; y_named = k.x_named }

acted : (a b : Signer) → ArePartners a b → (act : Act) (p : Ends) → Both p → Sound a b p → Both (acts a act p)
acted a b keys act p k h =
    let m = acts_settling a b keys act p k.x_named k.x h in
    let t = acts_told a b keys Funder p.x.dance.log.opening act p h in
    record {
      x = m.x;
      y = subst Settling (sym m.other) k.y;
      x_named = (t.pends (log_within a p.x h.hold.kept.there.within) k.x_named).named;
      y_named = subst Named (sym m.other) k.y_named;
    }

stepped : (a b : Signer) → ArePartners a b → (s : Step) (p : Ends) → Both p → Sound a b p → Both (happens a b s p)
stepped a b keys (By Funder act) p k h = acted a b keys act p k h
stepped a b keys (By Fundee act) p k h = swapped (acts b act (turned p))
    (acted b a (flipped_keys a b keys) act (turned p) (swapped p k) (flipped a b p h))
stepped a b keys Connect p k h = by p.x_line p.y_line
  where
    by : (lx ly : ConnectionState) → Both (connects a b lx ly p)
    by Down Down = record { x = k.x; y = k.y; x_named = k.x_named; y_named = k.y_named }
    by Down AwaitingReestablish = k
    by Down Connected = k
    by AwaitingReestablish l = k
    by Connected l = k

all_stepped : (a b : Signer) → ArePartners a b → (ss : List Step) (p : Ends) → Both p → Sound a b p
    → Both (run a b ss p)
all_stepped a b keys [] p k h = k
all_stepped a b keys (s ∷ ss) p k h =
    all_stepped a b keys ss (happens a b s p) (stepped a b keys s p k h) (ran a b keys (s ∷ []) p h)

-- ---- as they begin

new_settling : (e : End) (r : Role) → HasFunds e.dance.log.opening → e.dance.log ≡ log.opened e.dance.log.opening r
    → e.ledger.undecided ≡ [] → Settling e
new_settling e r funds is none =
    let o = e.dance.log.opening in
    let l = log.opened o r in
    let p = paced_opened o r funds in
    subst (λ (m : Log). IsSettling m e.ledger.undecided) (sym is) (subst (IsSettling l) (sym none) (record {
      paced = p;
      rests = square l p 0 0 (omega arith) (omega arith) (omega arith) (omega arith);
    }))

funds_of : (o : Opening) → IsFit o → HasFunds o
funds_of o f = record { some_funds = f.some_funds; funds = f.funds; push = f.push }

begun : (a b : Signer) (s : OpenSpec) (c : Config) (funder fundee : Opened) → Opens a b s c funder fundee
    → Both (opened funder fundee)
begun a b s c funder fundee o =
    let st = starts a b s c funder fundee o in
    let new = opened_fresh a b s c funder fundee o in
    let funds = funds_of funder.dance.log.opening st.fit in
    let funder_is : funder_end a s o.accept ≡ funder =
    ap (λ (p : Opened × FundingCreated). p.0) (was_given (accept_fault s o.accept) (
      funder_end a s o.accept,
      created_message a s o.accept,
    ) (funder, o.created) o.accept_channel) in
    let fundee_is : fundee_end o.agreement o.created ≡ fundee =
    ap (λ p. p.0) (was_given (created_fault b o.agreement o.created) _ _ o.funding_created) in
    record {
      x = new_settling (end_of funder) Funder funds
          (subst (λ (e : Opened). e.dance.log ≡ log.opened e.dance.log.opening Funder) funder_is refl) refl;
      y = new_settling (end_of fundee) Fundee (subst HasFunds (sym st.keeps.y.opening) funds)
          (subst (λ (e : Opened). e.dance.log ≡ log.opened e.dance.log.opening Fundee) fundee_is refl) refl;
      x_named = none_named (end_of funder) refl new.funder_first;
      y_named = none_named (end_of fundee) refl new.fundee_first;
    }

-- ---- the law

own_from : (f : Counts) (r : EventRef) → IsAt f r → IsFrom f.own (own_number r)
own_from f (ref.Own n) h = h
own_from f (ref.Peer n) h = tt
own_from f ref.Close h = tt

peer_from : (f : Counts) (r : EventRef) → IsAt f r → IsFrom f.peer (peer_number r)
peer_from f (ref.Own n) h = tt
peer_from f (ref.Peer n) h = h
peer_from f ref.Close h = tt

may_settle : (e : End) → Named e → Settling e → MayBeBase e.dance.log (allowed e)
may_settle e named s =
    let l = e.dance.log in
    let rs = e.ledger.undecided in
    let own = own_least l.current.own rs in
    let peer = peer_least l.acknowledged.peer rs in
    let own_least_from = least_from own_number l.first.own l.current.own rs named.own_first
    (all_so (IsAt l.first) (λ r. IsFrom l.first.own (own_number r)) (own_from l.first) rs named.there) in
    let peer_least_from = least_from peer_number l.first.peer l.acknowledged.peer rs named.peer_first
    (all_so (IsAt l.first) (λ r. IsFrom l.first.peer (peer_number r)) (peer_from l.first) rs named.there) in
    let all = whole_rest (Allows l.opening l.role l.current.own l.acknowledged.peer l.own l.received) rs s.rests in
    record {
      own_first = omega (arith, own, own_least_from);
      own_current = omega (arith, own, least_le own_number l.current.own rs);
      peer_first = omega (arith, peer, peer_least_from);
      peer_acknowledged = omega (arith, peer, least_le peer_number l.acknowledged.peer rs);
      closed = subst (λ n. IsClosed l.opening l.role (take n l.own) (take (allowed e).peer l.received)) (sym own)
          (subst (λ n. IsClosed l.opening l.role (take (least own_number l.current.own rs) l.own)
          (take n l.received)) (sym peer) all);
    }

longest : (e : End) → Named e → Settling e → IsLongest e
longest e named s =
    let may = may_settle e named s in
    record {
      may = may;
      is = ap (λ b. cond b (allowed e) e.dance.log.first) ((base_tells e.dance.log (allowed e)).1 may);
    }

pub both_longest : (a b : Signer) (s : OpenSpec) (c : Config) (funder fundee : Opened) (steps : List Step)
    → ArePartners a b → Opens a b s c funder fundee → BothAreLongest (run a b steps (opened funder fundee))
both_longest a b s c funder fundee steps keys o =
    let p = run a b steps (opened funder fundee) in
    let k = all_stepped a b keys steps (opened funder fundee) (begun a b s c funder fundee o)
    (opened_holds a b s c funder fundee o) in
    (longest p.x k.x_named k.x, longest p.y k.y_named k.y)

-- ---- what is known of each end otherwise

-- its lists and counts, and that the undecided events tell of updates that are held, after the base
pub record Stands (e : End) : Type 0 where
  pub within : log.IsWithin e.dance.log
  pub own_ids : log.AreNumbered 0 e.dance.log.own
  pub peer_ids : log.AreNumbered 0 e.dance.log.received
  pub peer_removals : log.AreRemovals (take e.dance.log.current.own e.dance.log.own) [] e.dance.log.received
  pub own_first : e.dance.log.first.own ≤ e.dance.log.current.own
  pub peer_first : e.dance.log.first.peer ≤ e.dance.log.acknowledged.peer
  pub held : NamedIn e e.ledger.undecided
  pub there : All (IsAt e.dance.log.first) e.ledger.undecided

stands : (e : End) → Named e → Settling e → Stands e
stands e named s =
    let k = s.paced.kept in
    record {
      within = k.within;
      own_ids = k.own_ids;
      peer_ids = k.peer_ids;
      peer_removals = k.peer_removals;
      own_first = named.own_first;
      peer_first = named.peer_first;
      held = named.held;
      there = named.there;
    }

pub both_stand : (a b : Signer) (s : OpenSpec) (c : Config) (funder fundee : Opened) (steps : List Step)
    → ArePartners a b → Opens a b s c funder fundee
    → Stands (run a b steps (opened funder fundee)).x × Stands (run a b steps (opened funder fundee)).y
both_stand a b s c funder fundee steps keys o =
    let p = run a b steps (opened funder fundee) in
    let k = all_stepped a b keys steps (opened funder fundee) (begun a b s c funder fundee o)
    (opened_holds a b s c funder fundee o) in
    (stands p.x k.x_named k.x, stands p.y k.y_named k.y)
