-- Over every list of steps an end tells the events of the machine's moves.
use Rattle.std.proofs.Common.{◌≡◌, ℕ, List, [], ◌∷◌, length, refl, sym, ap, ◌∙◌, subst}
use Rattle.std.proofs.Common.{Bool, true, false, cond, not, Option, Some, None, Result, Ok, Err}
use Rattle.ln_msgs.specs.declared.messages.message.Message.{Message}
use Rattle.ln_msgs.specs.declared.messages.message.Message.TheVariants as message
use Rattle.ln_msgs.specs.declared.messages.closing.ClosingSigned.{ClosingSigned}
use Rattle.ln_msgs.specs.declared.messages.commitments.ChannelReestablish.{ChannelReestablish}
use Rattle.ln_refusals.specs.declared.refusal.Refusal.{Refusal}
use Rattle.ln_refusals.specs.declared.refusal.Refusal.TheVariants as refusal
use Rattle.ln_keys.specs.declared.role.Role.{Role}
use Rattle.ln_keys.specs.declared.role.Role.TheVariants.{Funder, Fundee}
use Rattle.ln_keys.specs.Signer.{Signer}
use Rattle.ln_log.specs.declared.opening.Opening.{Opening}
use Rattle.ln_log.specs.Machine.{Machine, Move, Drop}
use Rattle.ln_close.specs.declared.closing.FeeAnswer.{FeeAnswer}
use Rattle.ln_close.specs.declared.closing.FeeAnswer.TheVariants as answer
use Rattle.ln_close.specs.Closing.{answer_to}
use Rattle.ln_channel.specs.declared.command.Command.{Command}
use Rattle.ln_channel.specs.declared.command.Command.TheVariants as command
use Rattle.ln_channel.specs.declared.machine.ConnectionState.{ConnectionState}
use Rattle.ln_channel.specs.declared.machine.ConnectionState.TheVariants.{Down, AwaitingReestablish, Connected}
use Rattle.ln_channel.specs.declared.config.Config.{Config}
use Rattle.ln_channel.specs.declared.config.OpenSpec.{OpenSpec}
use Rattle.ln_channel.specs.declared.opening.Opened.{Opened}
use Rattle.ln_channel.specs.Opening.{unless}
use Rattle.ln_channel.specs.Meeting.{Opens}
use Rattle.ln_channel.specs.End.{End, Turn, end_dropped, has_begun}
use Rattle.ln_channel.specs.Taking.{answering, answered_end, answered, range_in, completed_row}
use Rattle.ln_channel.specs.Commands.{confirm_fault, sign_command_fault, ledgered}
use Rattle.ln_channel.specs.Commands.{shut_fault, shuts_down, command_row, unready_fault}
use Rattle.ln_channel.specs.State.{is_down}
use Rattle.ln_channel.specs.Step.{faulted, line_fault}
use Rattle.ln_channel_laws.specs.Ends.{Ends, turned, message_at, answers, delivers, ledger_behind, notes, Act, Deliver}
use Rattle.ln_channel_laws.specs.Ends.{Give}
use Rattle.ln_channel_laws.specs.Ends.{Note, Lose, Cut, Save, still_come, acts}
use Rattle.ln_channel_laws.specs.Ends.{opened, connects, Step, By, Connect, happens, run}
use Rattle.ln_keys.specs.Partners.{ArePartners}
use Rattle.ln_channel_laws.specs.Promises.{party}
use Rattle.ln_channel_laws.specs.Moves.{moves_asked, moves_of_command, moves_of_message, moves_delivered}
use Rattle.ln_channel_laws.specs.Moves.{moves_of_act, moves_of, all_moves, history}
use Rattle.ln_channel_laws.proofs.Flight.Sides.{Notice, Update, Sign, Revoke, Ready, Shutdown, Close, Again}
use Rattle.ln_channel_laws.proofs.Flight.Images.{message_of, messages_of, side_of}
use Rattle.ln_channel_laws.proofs.Ends.Acts.{Hold}
use Rattle.ln_channel_laws.proofs.Ends.JustOpened.{opened_holds, opened_fresh}
use Rattle.ln_channel_laws.proofs.Ends.Turns.{turn_of, is_close, by_front}
use Rattle.ln_channel_laws.proofs.Ends.Runs.{Sound, flipped, flipped_keys, met_row, meeting_row, ran}
use Rattle.ln_channel_laws.proofs.Machine.OneMove.{seen_by}
use Rattle.std.proofs.Common.{◌+◌, ◌++◌, ◌||◌, arith}
use Rattle.ln_keys.specs.Role.{other_role}
use Rattle.ln_log.specs.Log.{between}
use Rattle.ln_log.specs.Machine.{Party}
use Rattle.ln_log.specs.Events.{held_events, events}
use Rattle.ln_hooks.specs.declared.event.ChannelEvent.{ChannelEvent}
use Rattle.ln_hooks.specs.declared.event.ChannelEvent.TheVariants as event
use Rattle.ln_close.specs.Closing.{after_shut, may_start}
use Rattle.ln_log.specs.declared.mark.EventRef.TheVariants as ref
use Rattle.ln_channel.specs.declared.output.Output.{Output}
use Rattle.ln_log.specs.declared.log.Counts.{Counts}
use Rattle.ln_channel.specs.Ledger.{Ledger, next_event, no_events, refs_of, entered}
use Rattle.ln_channel.specs.Outputs.{events_of, numbered}
use Rattle.ln_channel.specs.End.{end_of, is_closed, owes_shutdown, answers_shutdown, settled}
use Rattle.ln_channel_laws.specs.Moves.{moves_taken, closes, shuts}
use Rattle.ln_channel_laws.specs.Told.{as_told, events_in, told_by, told_on, told_in, told, all_told}
use Rattle.ln_channel_laws.specs.Pending.{end_of_role}
use Rattle.std.specs.List.{cons_option}
use Rattle.std.proofs.Common.{◌-◌, ◌≤◌, drop, option_map}
use Rattle.std.proofs.lemmas.List.{take-append-drop}
use Rattle.ln_log.specs.Log as log
use Rattle.ln_dance.specs.Dance.{Dancer}
use Rattle.ln_channel_laws.proofs.All.{All}
use Rattle.ln_channel_laws.proofs.Records.CountsOverTurns.{length-between}
use Rattle.ln_channel_laws.proofs.Events.Undecided.{IsNamed, Named, LogStays, HeldStays, Pends, enters, enters_none}
use Rattle.ln_channel_laws.proofs.Events.Undecided.{leaves}
use Rattle.ln_channel_laws.proofs.Events.Undecided.{bases}
use Rattle.ln_channel_laws.proofs.Events.Undecided.{own_named, peer_named, own_at, peer_at, keep_same, keep_own}
use Rattle.ln_channel_laws.proofs.Events.Undecided.{keep_peer}
use Rattle.ln_channel_laws.proofs.Events.Undecided.{keep_dropped, keep_either, NamedIn}
use Rattle.ln_channel_laws.proofs.Events.Undecided.{pending, own_pend, peer_pend, pends_both, same_pends, pending_so}
use Rattle.ln_channel_laws.proofs.Bases.BaseStands.{IsAt}
use Rattle.ln_channel_laws.proofs.Events.Decisions.{noted, next_behind}
use Rattle.ln_channel.specs.Commands.{signs_next}
use Rattle.ln_channel_laws.specs.Pending.{counted, IsInStep}
use Rattle.ln_channel_laws.proofs.Ends.Acts.{front_reads}
use Rattle.ln_channel_laws.proofs.Machine.TurnMoves.{no_move, tells, settled_closed, settled_dance, still_open}
use Rattle.std.proofs.Common.{◌&&◌, length-append}
use Rattle.ln_dance.specs.declared.resume.Resend.{Resend}
use Rattle.ln_dance.specs.declared.resume.Resend.TheVariants as resend
use Rattle.ln_dance.specs.Resume.{owed, is_before_the_first}
use Rattle.ln_channel.specs.declared.output.Output.TheVariants as output
use Rattle.ln_channel.specs.Outputs.{all_of}
use Rattle.ln_channel.specs.End.{fee_sent, due_sent, due_fee, shutdown_sent, shutdown_message}
use Rattle.ln_channel.specs.Commands.{ready_message}
use Rattle.ln_channel.specs.Resume.{all_sent, one_again, owed_again, shutdown_again, fee_again, sent_again, ready_again}
use Rattle.ln_channel_laws.proofs.Events.EventLists.{in_numbered, events_in-append, numbered_append, told_append}
use Rattle.ln_channel_laws.proofs.Events.EventLists.{events_append}
use Rattle.ln_channel_laws.proofs.Events.EventLists.{held_told}
use Rattle.ln_channel_laws.proofs.Events.EventLists.{grown_so, refs_count, entered_next, tail_none, tail_close}
use Rattle.ln_channel_laws.proofs.Events.EventLists.{tail_other}
use Rattle.ln_channel_laws.proofs.Events.EventLists.{accept_told, learn_told, accept_other, learn_other}
use Rattle.ln_channel_laws.proofs.Machine.RunMoves.{BothStand, acts_so, happens_so, run_after, starts}
use Rattle.ln_channel_laws.proofs.Machine.TurnMoves.{log_within}

settled_ledger : (e : End) → (settled e).ledger ≡ e.ledger
settled_ledger e = begun (has_begun (answers_shutdown e)) (may_start (answers_shutdown e).closing) (answers_shutdown e)
    ∙ owed (owes_shutdown e)
  where
    begun : (t s : Bool) (n : End)
        → (cond t (record n { closing = cond s (record n.closing { own_fee = Some n.closing.fees.first }) n.closing })
        n).ledger ≡ n.ledger
    begun true true n = refl
    begun true false n = refl
    begun false s n = refl

    owed : (b : Bool) → (cond b (record e { closing = after_shut e.closing }) e).ledger ≡ e.ledger
    owed true = refl
    owed false = refl

-- after the end of a turn
undecided_so : (e : End) → (settled e).ledger.undecided ≡ e.ledger.undecided
undecided_so e = ap (λ (l : Ledger). l.undecided) (settled_ledger e)

decided_so : (e : End) → (settled e).ledger.decided ≡ e.ledger.decided
decided_so e = ap (λ (l : Ledger). l.decided) (settled_ledger e)

-- what x tells are the events of its moves, and none of them is the other side's
pub record TellsEvents (r : Role) (o : Opening) (x n : End) (y : Party) (ms : List Move) (os : List Output) : Type 0
  where
    pub told : events_in os ≡ numbered (next_event x.ledger) (as_told (events r ms (Some (seen_by r o (party x) y))))
    pub next : next_event n.ledger
        ≡ next_event x.ledger + length (as_told (events r ms (Some (seen_by r o (party x) y))))
    pub other : events (other_role r) ms (Some (seen_by r o (party x) y)) ≡ []
    pub pends : log.IsWithin x.dance.log → Named x → Pends x n (as_told (events r ms (Some (seen_by r o (party x) y))))

module _ (r : Role) (o : Opening) (x n : End) (y : Party) where
  telling : (ms : List Move) (os : List Output) (es : List ChannelEvent)
      → as_told (events r ms (Some (seen_by r o (party x) y))) ≡ es
      → events_in os ≡ numbered (next_event x.ledger) es → next_event n.ledger ≡ next_event x.ledger + length es
      → events (other_role r) ms (Some (seen_by r o (party x) y)) ≡ []
      → (log.IsWithin x.dance.log → Named x → Pends x n es) → TellsEvents r o x n y ms os
  telling ms os es e told next other pends = record {
    told = told ∙ ap (numbered (next_event x.ledger)) (sym e);
    next = next ∙ ap (λ fs. next_event x.ledger + length fs) (sym e);
    other = other;
    pends = λ w named. subst (Pends x n) (sym e) (pends w named);
  }

  silent : (ms : List Move) (os : List Output) → events_in os ≡ [] → n.ledger ≡ x.ledger
      → ((q : Role) → events q ms (Some (seen_by r o (party x) y)) ≡ []) → (log.IsWithin x.dance.log → HeldStays x n)
      → TellsEvents r o x n y ms os
  silent ms os none same es keep = telling ms os [] (ap as_told (es r)) none
      (ap next_event same ∙ (let k : next_event x.ledger ≡ next_event x.ledger + 0 = omega arith in k))
      (es (other_role r)) (λ w named. enters_none x n (keep w) same named)

-- settling changes neither what is held nor whether it is closed
keep_settled : (r : Role) (o : Opening) (y : Party) (x t : End) → HeldStays x t → HeldStays x (settled t)
keep_settled r o y x t k =
    subst (λ (d : Dancer). LogStays x.dance.log d.log x.closing.closed (settled t).closing.closed)
    (sym (settled_dance r o y t))
    (subst (λ c. LogStays x.dance.log t.dance.log x.closing.closed c) (sym (settled_closed r o y t)) k)

ready_ledger : (b : Bool) (x k n : End) → n ≡ cond b x k → k.ledger ≡ x.ledger → n.ledger ≡ x.ledger
ready_ledger true x k n is e = ap (λ (q : End). q.ledger) is
ready_ledger false x k n is e = ap (λ (q : End). q.ledger) is ∙ e

module _ (a b : Signer) (keys : ArePartners a b) (r : Role) (o : Opening) (channel : List ℕ) (ly : ConnectionState)
    (x y : End) (said_x said_y : List Message) where
  abbrev tail : Notice → List Move
  tail n = closes r x.closing.closed (settled (turn_of a n x).end).closing.closed
      ++ shuts r x.closing.shut (settled (turn_of a n x).end).closing.shut

  turn_tells : (n : Notice) (ns to_y : List Notice) → is_close n ≡ false
      → Hold a b channel Connected ly x y (n ∷ ns) to_y said_x said_y
      → TellsEvents r o x (settled (turn_of a n x).end) (party y) (moves_taken r (message_of channel n) ++ tail n)
      (turn_of a n x).handed.told
  turn_tells (Update u) ns to_y other h =
      let n = settled (turn_of a (Update u) x).end in
      silent r o x n (party y) (moves_taken r (message_of channel (Update u)) ++ tail (Update u)) [] refl
      (settled_ledger (turn_of a (Update u) x).end)
      (λ q. ap (λ ms. events q (ms ++ tail (Update u)) (Some (seen_by r o (party x) (party y)))) (no_move r channel u)
      ∙ tail_none q r x.closing.closed n.closing.closed x.closing.shut n.closing.shut _
      (settled_closed r o (party y) (turn_of a (Update u) x).end))
      (λ w. keep_settled r o (party y) x (turn_of a (Update u) x).end
      (keep_peer x.dance.log x.closing.closed u w))
  turn_tells (Sign m) ns to_y other h =
      let t = (turn_of a (Sign m) x).end in
      let n = settled t in
      let l = x.dance.log in
      let w = log_within a x h.kept.there.within in
      let us = between l.current.own l.acknowledged.own l.own in
      let s = tells a b keys r o channel ly x y said_x said_y (Sign m) ns to_y other h in
      let same = settled_closed r o (party y) t in
      telling r o x n (party y) (moves_taken r (message_of channel (Sign m)) ++ tail (Sign m))
      (turn_of a (Sign m) x).handed.told (events_of true us)
      (ap as_told (accept_told o (party x) (party y) (party t) x.closing.closed n.closing.closed x.closing.shut
      n.closing.shut same r s.run)
      ∙ ap (λ vs. as_told (held_events true vs)) (grown_so l.current.own l.acknowledged.own l.own w.own_current
      (let p = w.own_acknowledged in let q = w.own_signed in omega (arith, p, q)))
      ∙ held_told true us)
      (in_numbered (next_event x.ledger) (events_of true us))
      (ap next_event (settled_ledger t) ∙ entered_next x.ledger (refs_of true l.current.own us)
      ∙ ap (λ k. next_event x.ledger + k) (refs_count true l.current.own us))
      (accept_other o (party x) (party y) (party t) x.closing.closed n.closing.closed x.closing.shut
      n.closing.shut same r)
      (λ z named.
      let c = l.current.own in
      let d = l.acknowledged.own in
      let grow : c ≤ d = w.own_current in
      let many = length-between c d l.own in
      let dance = settled_dance r o (party y) t in
      let rest = drop (d - c) (drop c l.own) in
      enters x n (refs_of true c us) (events_of true us)
      (keep_settled r o (party y) x t (record {
        own = refl;
        peer = refl;
        own_le = w.own_current;
        peer_le = omega arith;
        closed = λ f e. e;
        first = refl;
      })) (undecided_so t) (decided_so t)
      (own_pend n c us rest (ap (λ (q : Dancer). drop c q.log.own) dance
      ∙ sym (take-append-drop (d - c) (drop c l.own)))) (refs_count true c us)
      (subst (λ (q : Dancer). All (IsNamed q.log.current.own q.log.acknowledged.peer n.closing.closed)
      (refs_of true c us)) (sym dance)
      (own_named c d l.acknowledged.peer n.closing.closed us (omega (arith, grow, many))))
      (own_at l.first c us named.own_first) named)
  turn_tells (Revoke m) ns to_y other h =
      let t = (turn_of a (Revoke m) x).end in
      let n = settled t in
      let l = x.dance.log in
      let w = log_within a x h.kept.there.within in
      let us = between l.acknowledged.peer l.signed.peer l.received in
      let s = tells a b keys r o channel ly x y said_x said_y (Revoke m) ns to_y other h in
      let same = settled_closed r o (party y) t in
      telling r o x n (party y) (moves_taken r (message_of channel (Revoke m)) ++ tail (Revoke m))
      (turn_of a (Revoke m) x).handed.told (events_of false us)
      (ap as_told (learn_told o (party x) (party y) (party t) x.closing.closed n.closing.closed x.closing.shut
      n.closing.shut same r s.run)
      ∙ ap (λ vs. as_told (held_events false vs)) (grown_so l.acknowledged.peer l.signed.peer l.received
      w.peer_acknowledged (let p = w.peer_signed in let q = w.peer_current in omega (arith, p, q)))
      ∙ held_told false us)
      (in_numbered (next_event x.ledger) (events_of false us))
      (ap next_event (settled_ledger t) ∙ entered_next x.ledger (refs_of false l.acknowledged.peer us)
      ∙ ap (λ k. next_event x.ledger + k) (refs_count false l.acknowledged.peer us))
      (learn_other o (party x) (party y) (party t) x.closing.closed n.closing.closed x.closing.shut
      n.closing.shut same r)
      (λ z named.
      let c = l.acknowledged.peer in
      let d = l.signed.peer in
      let grow : c ≤ d = w.peer_acknowledged in
      let many = length-between c d l.received in
      let dance = settled_dance r o (party y) t in
      let rest = drop (d - c) (drop c l.received) in
      enters x n (refs_of false c us) (events_of false us)
      (keep_settled r o (party y) x t (record {
        own = refl;
        peer = refl;
        own_le = omega arith;
        peer_le = w.peer_acknowledged;
        closed = λ f e. e;
        first = refl;
      })) (undecided_so t) (decided_so t)
      (peer_pend n c us rest (ap (λ (q : Dancer). drop c q.log.received) dance
      ∙ sym (take-append-drop (d - c) (drop c l.received)))) (refs_count false c us)
      (subst (λ (q : Dancer). All (IsNamed q.log.current.own q.log.acknowledged.peer n.closing.closed)
      (refs_of false c us)) (sym dance)
      (peer_named c l.current.own d n.closing.closed us (omega (arith, grow, many))))
      (peer_at l.first c us named.peer_first) named)
  turn_tells (Ready m) ns to_y other h =
      let t = (turn_of a (Ready m) x).end in
      let n = settled t in
      let s = tells a b keys r o channel ly x y said_x said_y (Ready m) ns to_y other h in
      silent r o x n (party y) (tail (Ready m)) [] refl
      (settled_ledger t ∙ ready_ledger (x.readiness.ready_received || is_closed x) x _ t refl refl)
      (λ q. tail_none q r x.closing.closed n.closing.closed x.closing.shut n.closing.shut _
      (settled_closed r o (party y) t ∙ s.closed))
      (λ w. keep_settled r o (party y) x t (keep_either (x.readiness.ready_received || is_closed x) x _ (keep_same x)))
  turn_tells (Shutdown m) ns to_y other h =
      let t = (turn_of a (Shutdown m) x).end in
      let n = settled t in
      let s = tells a b keys r o channel ly x y said_x said_y (Shutdown m) ns to_y other h in
      silent r o x n (party y) (tail (Shutdown m)) [] refl
      (settled_ledger t ∙ ready_ledger x.closing.peer_shut x _ t refl refl)
      (λ q. tail_none q r x.closing.closed n.closing.closed x.closing.shut n.closing.shut _
      (settled_closed r o (party y) t ∙ s.closed))
      (λ w. keep_settled r o (party y) x t (keep_either x.closing.peer_shut x _ (keep_same x)))
  turn_tells (Close m) ns to_y other h = absurd (cc)
  turn_tells (Again m) ns to_y other h =
      absurd (front_reads ly (side_of a x) (side_of b y) (Again m) ns h.kept.back.flight)

-- ---- a closing fee

closed_told : (k : Signer) (r : Role) (o : Opening) (fee : ℕ) (ans : FeeAnswer) (x t : End) (y : Party)
    (os : List Output)
    → x.closing.closed ≡ None → t.closing.closed ≡ Some fee → t.dance ≡ x.dance
    → t.ledger ≡ entered (ref.Close ∷ []) x.ledger
    → events_in os ≡ numbered (next_event x.ledger) (event.Closed fee ∷ [])
    → TellsEvents r o x (settled t) y ([] ++ (closes r x.closing.closed (settled t).closing.closed
    ++ shuts r x.closing.shut (settled t).closing.shut)) os
closed_told k r o fee ans x t y os none is held entry told =
    let n = settled t in
    let sh = shuts r x.closing.shut n.closing.shut in
    let m = Some (seen_by r o (party x) y) in
    let now : n.closing.closed ≡ Some fee = settled_closed r o y t ∙ is in
    let so : (q : Role) → events q (closes r x.closing.closed n.closing.closed ++ sh) m
    ≡ events q (closes r None (Some fee) ++ sh) m =
    λ q. ap (λ c. events q (closes r c n.closing.closed ++ sh) m) none
    ∙ ap (λ c. events q (closes r None c ++ sh) m) now in
    telling r o x n y _ os (event.Closed fee ∷ [])
    (ap as_told (so r ∙ tail_close r fee x.closing.shut n.closing.shut _)) told
    (ap next_event (settled_ledger t ∙ entry) ∙ entered_next x.ledger (ref.Close ∷ []))
    (so (other_role r) ∙ tail_other r fee x.closing.shut n.closing.shut _)
    (λ w named. enters x n (ref.Close ∷ []) (event.Closed fee ∷ [])
    (subst (λ (d : Dancer). LogStays x.dance.log d.log x.closing.closed n.closing.closed)
    (sym (settled_dance r o y t ∙ held)) (record {
      own = refl;
      peer = refl;
      own_le = omega arith;
      peer_le = omega arith;
      closed = λ f e. absurd (let no : None ≡ Some f = sym none ∙ e in cc);
      first = refl;
    })) (undecided_so t ∙ ap (λ (l : Ledger). l.undecided) entry) (decided_so t ∙ ap (λ (l : Ledger). l.decided) entry)
    (ap (λ c. cons_option (option_map event.Closed c) []) now) refl
    (subst (λ c. All (IsNamed n.dance.log.current.own n.dance.log.acknowledged.peer c) (ref.Close ∷ [])) (sym now)
    (tt, tt)) (tt, tt) named)

fee_tells : (k : Signer) (r : Role) (o : Opening) (m : ClosingSigned) (ans : FeeAnswer) (x : End) (y : Party)
    → answer_to x.closing m.fee_satoshis (range_in m) ≡ Ok ans
    → TellsEvents r o x (settled (answering k ans (answered_end m ans x)).end) y ([] ++ (closes r x.closing.closed
    (settled (answering k ans (answered_end m ans x)).end).closing.closed
    ++ shuts r x.closing.shut (settled (answering k ans (answered_end m ans x)).end).closing.shut))
    (answering k ans (answered_end m ans x)).handed.told
fee_tells k r o m answer.Nothing x y e =
    let t = (answering k answer.Nothing (answered_end m answer.Nothing x)).end in
    let n = settled t in
    silent r o x n y _ [] refl (settled_ledger t)
    (λ q. tail_none q r x.closing.closed n.closing.closed x.closing.shut n.closing.shut _ (settled_closed r o y t))
    (λ w. keep_settled r o y x t (keep_same x))
fee_tells k r o m (answer.Propose fee) x y e =
    let t = (answering k (answer.Propose fee) (answered_end m (answer.Propose fee) x)).end in
    let n = settled t in
    silent r o x n y _ [] refl (settled_ledger t)
    (λ q. tail_none q r x.closing.closed n.closing.closed x.closing.shut n.closing.shut _ (settled_closed r o y t))
    (λ w. keep_settled r o y x t (keep_same x))
fee_tells k r o m (answer.Close fee) x y e =
    let t = (answering k (answer.Close fee) (answered_end m (answer.Close fee) x)).end in
    closed_told k r o fee (answer.Close fee) x t y _
    (still_open x.closing.closed m.fee_satoshis _ (answer.Close fee) (λ q. absurd (cc)) e) refl refl refl refl
fee_tells k r o m (answer.EchoAndClose fee) x y e =
    let t = (answering k (answer.EchoAndClose fee) (answered_end m (answer.EchoAndClose fee) x)).end in
    closed_told k r o fee (answer.EchoAndClose fee) x t y _
    (still_open x.closing.closed m.fee_satoshis _ (answer.EchoAndClose fee) (λ q. absurd (cc)) e) refl refl refl refl

-- ---- no event is among the messages

shutdown_none : (owed : Bool) (m : Message) → events_in (cond owed (output.Send m ∷ []) []) ≡ []
shutdown_none true m = refl
shutdown_none false m = refl

fee_none : (k : Signer) (e : End) (f : Option ℕ) → events_in (fee_sent k e f) ≡ []
fee_none k e None = refl
fee_none k e (Some fee) = refl

both_none : (os ps : List Output) → events_in os ≡ [] → events_in ps ≡ [] → events_in (os ++ ps) ≡ []
both_none os ps e f = events_in-append os ps ∙ ap (λ z. z ++ events_in ps) e ∙ f

due_none : (k : Signer) (e : End) → events_in (due_sent k e) ≡ []
due_none k e = both_none (shutdown_sent e) (fee_sent k (answers_shutdown e) (due_fee (answers_shutdown e)))
    (shutdown_none (owes_shutdown e) (message.Shutdown (shutdown_message e)))
    (fee_none k (answers_shutdown e) (due_fee (answers_shutdown e)))

updates_none : (ms : List Message) → events_in (all_sent ms) ≡ []
updates_none [] = refl
updates_none (m ∷ ms) = updates_none ms

one_none : (w : Resend) → events_in (one_again w) ≡ []
one_none (resend.Updates ms) = updates_none ms
one_none (resend.Signature m) = refl
one_none (resend.Revocation m) = refl

owed_none : (ws : List Resend) → events_in (owed_again ws) ≡ []
owed_none [] = refl
owed_none (w ∷ ws) = both_none (one_again w) (owed_again ws) (one_none w) (owed_none ws)

again_none : (k : Signer) (m : ChannelReestablish) (e : End) → events_in (sent_again k m e) ≡ []
again_none k m e =
    let ready = ready_again k m e in
    let owes = owed_again (owed k m e.dance) in
    both_none ((ready ++ owes) ++ shutdown_again e) (fee_again k e)
    (both_none (ready ++ owes) (shutdown_again e) (both_none ready owes
    (shutdown_none (is_before_the_first m e.dance && e.readiness.ready_sent) (message.ChannelReady (ready_message k e)))
    (owed_none (owed k m e.dance))) (shutdown_none e.closing.shut (message.Shutdown (shutdown_message e))))
    (fee_none k e e.closing.own_fee)

turn_none : (k : Signer) (n : Notice) (e : End) → events_in (turn_of k n e).handed.sent ≡ []
turn_none k (Update u) e = refl
turn_none k (Sign m) e = refl
turn_none k (Revoke m) e = refl
turn_none k (Ready m) e = refl
turn_none k (Shutdown m) e = refl
turn_none k (Close m) e = refl
turn_none k (Again m) e = refl

answer_none : (k : Signer) (ans : FeeAnswer) (e : End) → events_in (answering k ans e).handed.sent ≡ []
answer_none k answer.Nothing e = refl
answer_none k (answer.Close fee) e = refl
answer_none k (answer.EchoAndClose fee) e = refl
answer_none k (answer.Propose fee) e = refl

with_sent : (r : Role) (o : Opening) (x n : End) (y : Party) (ms : List Move) (sent os : List Output)
    → events_in sent ≡ [] → TellsEvents r o x n y ms os → TellsEvents r o x n y ms (sent ++ os)
with_sent r o x n y ms sent os none t = record {
  told = events_in-append sent os ∙ ap (λ z. z ++ events_in os) none ∙ t.told;
  next = t.next;
  other = t.other;
  pends = t.pends;
}

-- ---- two ends

keep_sign : (x : End) → HeldStays x (signs_next x)
keep_sign x = record {
  own = refl;
  peer = refl;
  own_le = omega arith;
  peer_le = omega arith;
  closed = λ f e. e;
  first = refl;
}

asked_none : (q r : Role) (c : Command) (e : End) (m : Machine) → events q (moves_asked r c e) (Some m) ≡ []
asked_none q r (command.Confirm id) e m = refl
asked_none q r (command.Add amount hash expiry onion origin) e m = refl
asked_none q r (command.Fulfil id preimage) e m = refl
asked_none q r (command.Fail id reason) e m = refl
asked_none q r (command.Malformed id sha code) e m = refl
asked_none q r (command.Fee feerate) e m = refl
asked_none q r command.Sign e m = refl
asked_none q r (command.Shutdown script) e m = refl
asked_none q r (command.Decide event mark) e m = refl
asked_none q r (command.Forget id) e m = refl
asked_none q r (command.Resume event mark) e m = refl

module _ (a b : Signer) (keys : ArePartners a b) (r : Role) (o : Opening) where
  rests : (p q : Ends) → q.x ≡ p.x → TellsEvents r o p.x q.x (party p.y) [] []
  rests p q e = silent r o p.x q.x (party p.y) [] [] refl (ap (λ (z : End). z.ledger) e) (λ z. refl)
      (λ w. subst (HeldStays p.x) (sym e) (keep_same p.x))

  met : (p : Ends) → p.x_line ≡ Connected → (channel : List ℕ) (n : Notice) (ns to_y : List Notice) → is_close n ≡ false
      → Hold a b channel Connected p.y_line p.x p.y (n ∷ ns) to_y p.said_x p.said_y
      → TellsEvents r o p.x (delivers a (messages_of channel (n ∷ ns)) p).x (party p.y)
      (moves_delivered a r p.x_line (messages_of channel (n ∷ ns)) p.x)
      (told_on a p.x_line (messages_of channel (n ∷ ns)) p.x)
  met p is channel n ns to_y other h =
      let q : Ends = record p { to_x = messages_of channel ns } in
      let m = message_of channel n in
      subst (λ res. TellsEvents r o p.x (answers res q).x (party p.y) (moves_of_message r m p.x res) (told_by res))
      (sym (met_row a b keys p is channel n ns to_y other h))
      (with_sent r o p.x _ (party p.y) _ ((turn_of a n p.x).handed.sent ++ due_sent a (turn_of a n p.x).end)
      (turn_of a n p.x).handed.told (both_none (turn_of a n p.x).handed.sent (due_sent a (turn_of a n p.x).end)
      (turn_none a n p.x) (due_none a (turn_of a n p.x).end))
      (turn_tells a b keys r o channel p.y_line p.x p.y p.said_x p.said_y n ns to_y other h))

  meeting : (p : Ends) → p.x_line ≡ AwaitingReestablish
      → (channel : List ℕ) (m : ChannelReestablish) (ns to_y : List Notice)
      → Hold a b channel AwaitingReestablish p.y_line p.x p.y (Again m ∷ ns) to_y p.said_x p.said_y
      → TellsEvents r o p.x (delivers a (messages_of channel (Again m ∷ ns)) p).x (party p.y)
      (moves_delivered a r p.x_line (messages_of channel (Again m ∷ ns)) p.x)
      (told_on a p.x_line (messages_of channel (Again m ∷ ns)) p.x)
  meeting p is channel m ns to_y h =
      let q : Ends = record p { to_x = messages_of channel ns } in
      let w = message.ChannelReestablish m in
      let n = settled p.x in
      subst (λ res. TellsEvents r o p.x (answers res q).x (party p.y) (moves_of_message r w p.x res) (told_by res))
      (sym (meeting_row a b keys p is channel m ns to_y h))
      (with_sent r o p.x n (party p.y) _ (sent_again a m p.x ++ due_sent a p.x) []
      (both_none (sent_again a m p.x) (due_sent a p.x) (again_none a m p.x) (due_none a p.x))
      (silent r o p.x n (party p.y) _ [] refl (settled_ledger p.x)
      (λ z. tail_none z r p.x.closing.closed n.closing.closed p.x.closing.shut n.closing.shut _
      (settled_closed r o (party p.y) p.x))
      (λ w. keep_settled r o (party p.y) p.x p.x (keep_same p.x))))

  fee_by : (begun right : Bool) (res : Result FeeAnswer Refusal) (p : Ends) (channel : List ℕ) (m : ClosingSigned)
      (ns : List Notice) → answer_to p.x.closing m.fee_satoshis (range_in m) ≡ res
      → (row : Result Turn Refusal) → row ≡ completed_row a (cond (not begun) (Err refusal.OutOfPlace)
      (cond right (answered a m p.x res) (Err refusal.SignatureWrong)))
      → TellsEvents r o p.x (answers row (record p { to_x = messages_of channel ns })).x (party p.y)
      (moves_of_message r (message.ClosingSigned m) p.x row) (told_by row)
  fee_by true true (Ok ans) p channel m ns e row is =
      let q : Ends = record p { to_x = messages_of channel ns } in
      let n = answered_end m ans p.x in
      let t = answering a ans n in
      subst (λ z. TellsEvents r o p.x (answers z q).x (party p.y) (moves_of_message r (message.ClosingSigned m) p.x z)
      (told_by z)) (sym is)
      (with_sent r o p.x _ (party p.y) _ (t.handed.sent ++ due_sent a t.end) t.handed.told
      (both_none t.handed.sent (due_sent a t.end) (answer_none a ans n) (due_none a t.end))
      (fee_tells a r o m ans p.x (party p.y) e))
  fee_by true true (Err z) p channel m ns e row is =
      let q : Ends = record p { to_x = messages_of channel ns } in
      subst (λ z. TellsEvents r o p.x (answers z q).x (party p.y) (moves_of_message r (message.ClosingSigned m) p.x z)
      (told_by z)) (sym is) (rests p q refl)
  fee_by true false res p channel m ns e row is =
      let q : Ends = record p { to_x = messages_of channel ns } in
      subst (λ z. TellsEvents r o p.x (answers z q).x (party p.y) (moves_of_message r (message.ClosingSigned m) p.x z)
      (told_by z)) (sym is) (rests p q refl)
  fee_by false right res p channel m ns e row is =
      let q : Ends = record p { to_x = messages_of channel ns } in
      subst (λ z. TellsEvents r o p.x (answers z q).x (party p.y) (moves_of_message r (message.ClosingSigned m) p.x z)
      (told_by z)) (sym is) (rests p q refl)

  given_by : (f : Option Refusal) (t : Turn) (c : Command) (p : Ends) → events_in (all_of t.handed) ≡ []
      → t.end.ledger ≡ p.x.ledger → (log.IsWithin p.x.dance.log → HeldStays p.x t.end)
      → TellsEvents r o p.x (answers (unless f t) p).x (party p.y) (moves_of_command r c p.x (unless f t))
      (told_by (unless f t))
  given_by None t c p none same keep =
      silent r o p.x t.end (party p.y) (moves_asked r c p.x) (all_of t.handed) none same
      (λ q. asked_none q r c p.x (seen_by r o (party p.x) (party p.y))) keep
  given_by (Some z) t c p none same keep = rests p p refl

  given : (c : Command) (p : Ends)
      → TellsEvents r o p.x (answers (command_row a c p.x) p).x (party p.y)
      (moves_of_command r c p.x (command_row a c p.x))
      (told_by (command_row a c p.x))
  given (command.Confirm id) p = given_by (confirm_fault p.x) _ (command.Confirm id) p refl refl (λ w. keep_same p.x)
  given (command.Add amount hash expiry onion origin) p =
      given_by _ _ (command.Add amount hash expiry onion origin) p refl refl
      (λ w. keep_own p.x.dance.log p.x.closing.closed _ w)
  given (command.Fulfil id preimage) p = given_by _ _ (command.Fulfil id preimage) p refl refl
      (λ w. keep_own p.x.dance.log p.x.closing.closed _ w)
  given (command.Fail id reason) p = given_by _ _ (command.Fail id reason) p refl refl
      (λ w. keep_own p.x.dance.log p.x.closing.closed _ w)
  given (command.Malformed id sha code) p = given_by _ _ (command.Malformed id sha code) p refl refl
      (λ w. keep_own p.x.dance.log p.x.closing.closed _ w)
  given (command.Fee feerate) p = given_by _ _ (command.Fee feerate) p refl refl
      (λ w. keep_own p.x.dance.log p.x.closing.closed _ w)
  given command.Sign p = given_by (sign_command_fault p.x) _ command.Sign p refl refl (λ w. keep_sign p.x)
  given (command.Shutdown script) p = given_by (shut_fault script p.x) _ (command.Shutdown script) p
      (both_none (due_sent a (shuts_down script p.x)) [] (due_none a (shuts_down script p.x)) refl)
      (settled_ledger (shuts_down script p.x))
      (λ w. keep_settled r o (party p.y) p.x (shuts_down script p.x) (keep_same p.x))
  given (command.Decide event mark) p = rests p p refl
  given (command.Forget id) p = rests p p refl
  given (command.Resume event mark) p = rests p p refl

  commanded_by : (f : Option Refusal) (l : ConnectionState) (c : Command) (p : Ends)
      → TellsEvents r o p.x (answers (faulted f (faulted (line_fault l) (command_row a c p.x))) p).x (party p.y)
      (moves_of_command r c p.x (faulted f (faulted (line_fault l) (command_row a c p.x))))
      (told_by (faulted f (faulted (line_fault l) (command_row a c p.x))))
  commanded_by (Some z) l c p = rests p p refl
  commanded_by None Down c p = rests p p refl
  commanded_by None AwaitingReestablish c p = rests p p refl
  commanded_by None Connected c p = given c p

  lost_by : (down : Bool) (p : Ends)
      → TellsEvents r o p.x (cond down p (record p { x_line = Down; x = end_dropped p.x; to_x = [] })).x (party p.y)
      (cond down [] (Drop r ∷ [])) []
  lost_by true p = rests p p refl
  lost_by false p = silent r o p.x (end_dropped p.x) (party p.y) (Drop r ∷ []) [] refl refl (λ q. refl)
      (λ w. keep_dropped p.x.dance.log p.x.closing.closed w)

  cut_by : (down : Bool) (n : ℕ) (p : Ends)
      → TellsEvents r o p.x (cond down (record p { to_y = still_come n p.y_line p.to_y }) p).x (party p.y) [] []
  cut_by true n p = rests p p refl
  cut_by false n p = rests p p refl

  noted_told : (c : Command) (p : Ends) → TellsEvents r o p.x (notes c p).x (party p.y) [] []
  noted_told c p =
      let l = ledger_behind (ledgered c p.x) p.x.ledger in
      let b = noted c p.x in
      record {
        told = refl;
        next = next_behind p.x.ledger l b;
        other = refl;
        pends = λ w named. leaves p.x l b named;
      }

  pub acts_told : (act : Act) (p : Ends) → Sound a b p
      → TellsEvents r o p.x (acts a act p).x (party p.y) (moves_of_act a r act p) (told_in a act p)
  acts_told Deliver p h =
      let is = h.in_x in
      subst (λ ms. TellsEvents r o p.x (delivers a ms p).x (party p.y) (moves_delivered a r p.x_line ms p.x)
      (told_on a p.x_line ms p.x)) (sym is)
      (by_front a b h.channel p.y_line p.x p.y h.to_y p.said_x p.said_y
      (λ l ns. p.x_line ≡ l → TellsEvents r o p.x (delivers a (messages_of h.channel ns) p).x (party p.y)
      (moves_delivered a r p.x_line (messages_of h.channel ns) p.x)
      (told_on a p.x_line (messages_of h.channel ns) p.x))
      (λ l is. rests p p refl)
      (λ m ns k is. meeting p is h.channel m ns h.to_y k)
      (λ n ns other k is. met p is h.channel n ns h.to_y other k)
      (λ m ns k is. fee_by (has_begun p.x) (a.accepts_close m.fee_satoshis m.signature)
      (answer_to p.x.closing m.fee_satoshis (range_in m)) p h.channel m ns refl
      (message_at a p.x_line (message.ClosingSigned m) p.x)
      (ap (λ l. message_at a l (message.ClosingSigned m) p.x) is)) p.x_line h.to_x h.hold refl)
  acts_told (Give c) p h = commanded_by (unready_fault c p.x) p.x_line c p
  acts_told (Note c) p h = noted_told c p
  acts_told Lose p h = lost_by (is_down p.x_line) p
  acts_told (Cut n) p h = cut_by (is_down p.x_line) n p
  acts_told Save p h = record {
    told = refl;
    next = (let n = next_event p.x.ledger in let same : n ≡ n + 0 = omega arith in same);
    other = refl;
    pends = λ w named. bases p.x named;
  }

-- ---- steps

abbrev next_of : Role → Ends → ℕ
next_of Funder p = next_event p.x.ledger
next_of Fundee p = next_event p.y.ledger

abbrev machine_at : Opening → Ends → Machine
machine_at o p = seen_by Funder o (party p.x) (party p.y)

-- of either end
record ToldBy (r : Role) (o : Opening) (ms : List Move) (os : List Output) (p q : Ends) : Type 0 where
  told : events_in os ≡ numbered (next_of r p) (as_told (events r ms (Some (machine_at o p))))
  next : next_of r q ≡ next_of r p + length (as_told (events r ms (Some (machine_at o p))))

nothing_told : (r : Role) (o : Opening) (ms : List Move) (p q : Ends) → events r ms (Some (machine_at o p)) ≡ []
    → next_of r q ≡ next_of r p → ToldBy r o ms [] p q
nothing_told r o ms p q none same = record {
  told = ap (λ es. numbered (next_of r p) (as_told es)) (sym none);
  next = same ∙ (let k : next_of r p ≡ next_of r p + 0 = omega arith in k)
      ∙ ap (λ es. next_of r p + length (as_told es)) (sym none);
}

connect_next : (a b : Signer) (r : Role) (lx ly : ConnectionState) (p : Ends)
    → next_of r (connects a b lx ly p) ≡ next_of r p
connect_next a b Funder Down Down p = refl
connect_next a b Fundee Down Down p = refl
connect_next a b r Down AwaitingReestablish p = refl
connect_next a b r Down Connected p = refl
connect_next a b r AwaitingReestablish l p = refl
connect_next a b r Connected l p = refl

step_told : (a b : Signer) → ArePartners a b → (r : Role) (s : Step) (o : Opening) (p : Ends) → BothStand o p
    → Sound a b p
    → ToldBy r o (moves_of a b s p) (told a b r s p) p (happens a b s p)
step_told a b keys Funder (By Funder act) o p k h =
    let t = acts_told a b keys Funder o act p h in record { told = t.told; next = t.next }
step_told a b keys Fundee (By Fundee act) o p k h =
    let t = acts_told b a (flipped_keys a b keys) Fundee o act (turned p) (flipped a b p h) in
    record { told = t.told; next = t.next }
step_told a b keys Fundee (By Funder act) o p k h =
    let t = acts_told a b keys Funder o act p h in
    let m = acts_so a b keys Funder o act p k.x h in
    nothing_told Fundee o (moves_of a b (By Funder act) p) p (happens a b (By Funder act) p) t.other
    (ap (λ (e : End). next_event e.ledger) m.other)
step_told a b keys Funder (By Fundee act) o p k h =
    let t = acts_told b a (flipped_keys a b keys) Fundee o act (turned p) (flipped a b p h) in
    let m = acts_so b a (flipped_keys a b keys) Fundee o act (turned p) k.y (flipped a b p h) in
    nothing_told Funder o (moves_of a b (By Fundee act) p) p (happens a b (By Fundee act) p) t.other
    (ap (λ (e : End). next_event e.ledger) m.other)
step_told a b keys Funder Connect o p k h =
    nothing_told Funder o [] p (happens a b Connect p) refl (connect_next a b Funder p.x_line p.y_line p)
step_told a b keys Fundee Connect o p k h =
    nothing_told Fundee o [] p (happens a b Connect p) refl (connect_next a b Fundee p.x_line p.y_line p)

all_so : (a b : Signer) → ArePartners a b → (r : Role) (ss : List Step) (o : Opening) (p : Ends) → BothStand o p
    → Sound a b p
    → events_in (all_told a b r ss p)
    ≡ numbered (next_of r p) (as_told (events r (all_moves a b ss p) (Some (machine_at o p))))
all_so a b keys r [] o p k h = refl
all_so a b keys r (s ∷ ss) o p k h =
    let q = happens a b s p in
    let ms = moves_of a b s p in
    let ns = all_moves a b ss q in
    let m = happens_so a b keys s o p k h in
    let t = step_told a b keys r s o p k h in
    let rest = all_so a b keys r ss o q m.1 (ran a b keys (s ∷ []) p h) in
    let first = as_told (events r ms (Some (machine_at o p))) in
    let then = as_told (events r ns (Some (machine_at o q))) in
    let is : as_told (events r (ms ++ ns) (Some (machine_at o p))) ≡ first ++ then =
    ap as_told (events_append r ms ns (Some (machine_at o p))
    ∙ ap (λ z. events r ms (Some (machine_at o p)) ++ events r ns z)
    (run_after ms (Some (machine_at o p)) (Some (machine_at o q)) m.0))
    ∙ told_append (events r ms (Some (machine_at o p))) (events r ns (Some (machine_at o q))) in
    events_in-append (told a b r s p) (all_told a b r ss q)
    ∙ ap (λ os. os ++ events_in (all_told a b r ss q)) t.told
    ∙ ap (λ os. numbered (next_of r p) first ++ os) (rest ∙ ap (λ n. numbered n then) t.next)
    ∙ sym (numbered_append (next_of r p) first then)
    ∙ ap (numbered (next_of r p)) (sym is)

first_next : (r : Role) (funder fundee : Opened) → next_of r (opened funder fundee) ≡ 0
first_next Funder funder fundee = refl
first_next Fundee funder fundee = refl

pub events_so : (a b : Signer) (s : OpenSpec) (c : Config) (funder fundee : Opened) (steps : List Step) (r : Role)
    → ArePartners a b → Opens a b s c funder fundee
    → events_in (all_told a b r steps (opened funder fundee))
    ≡ numbered 0 (as_told (events r (history a b funder fundee steps) None))
events_so a b s c funder fundee steps r keys o =
    let p = opened funder fundee in
    let q = funder.dance.log.opening in
    let st = starts a b s c funder fundee o in
    all_so a b keys r steps q p st.keeps (opened_holds a b s c funder fundee o)
    ∙ ap (λ n. numbered n (as_told (events r (all_moves a b steps p) (Some (machine_at q p)))))
    (first_next r funder fundee)
    ∙ ap (λ m. numbered 0 (as_told (events r (all_moves a b steps p) m))) st.first

-- ---- what the ledger counts

all_counted : (a b : Signer) → ArePartners a b → (r : Role) (ss : List Step) (o : Opening) (p : Ends) → BothStand o p
    → Sound a b p → next_of r (run a b ss p)
    ≡ next_of r p + length (as_told (events r (all_moves a b ss p) (Some (machine_at o p))))
all_counted a b keys r [] o p k h = omega arith
all_counted a b keys r (s ∷ ss) o p k h =
    let q = happens a b s p in
    let ms = moves_of a b s p in
    let ns = all_moves a b ss q in
    let m = happens_so a b keys s o p k h in
    let t = step_told a b keys r s o p k h in
    let rest = all_counted a b keys r ss o q m.1 (ran a b keys (s ∷ []) p h) in
    let first = as_told (events r ms (Some (machine_at o p))) in
    let then = as_told (events r ns (Some (machine_at o q))) in
    let is : as_told (events r (ms ++ ns) (Some (machine_at o p))) ≡ first ++ then =
    ap as_told (events_append r ms ns (Some (machine_at o p))
    ∙ ap (λ z. events r ms (Some (machine_at o p)) ++ events r ns z)
    (run_after ms (Some (machine_at o p)) (Some (machine_at o q)) m.0))
    ∙ told_append (events r ms (Some (machine_at o p))) (events r ns (Some (machine_at o q))) in
    let all : length (as_told (events r (ms ++ ns) (Some (machine_at o p)))) ≡ length first + length then =
    ap length is ∙ length-append first then in
    let next : next_of r q ≡ next_of r p + length first = t.next in
    let last : next_of r (run a b ss q) ≡ next_of r q + length then = rest in
    omega (arith, all, next, last)

next_by : (r : Role) (p : Ends) → next_of r p ≡ next_event (end_of_role r p).ledger
next_by Funder p = refl
next_by Fundee p = refl

entered_so : (a b : Signer) (s : OpenSpec) (c : Config) (funder fundee : Opened) (steps : List Step) (r : Role)
    → ArePartners a b → Opens a b s c funder fundee
    → next_event (end_of_role r (run a b steps (opened funder fundee))).ledger
    ≡ length (as_told (events r (history a b funder fundee steps) None))
entered_so a b s c funder fundee steps r keys o =
    let p = opened funder fundee in
    let q = funder.dance.log.opening in
    let st = starts a b s c funder fundee o in
    sym (next_by r (run a b steps p)) ∙ all_counted a b keys r steps q p st.keeps (opened_holds a b s c funder fundee o)
    ∙ ap (λ n. n + length (as_told (events r (all_moves a b steps p) (Some (machine_at q p)))))
    (first_next r funder fundee)
    ∙ (let k : 0 + length (as_told (events r (all_moves a b steps p) (Some (machine_at q p))))
    ≡ length (as_told (events r (all_moves a b steps p) (Some (machine_at q p)))) = omega arith in k)
    ∙ ap (λ m. length (as_told (events r (all_moves a b steps p) m))) st.first

-- ---- what the ledger names

step_pends : (a b : Signer) → ArePartners a b → (r : Role) (s : Step) (o : Opening) (p : Ends) → BothStand o p
    → Sound a b p
    → Named (end_of_role r p)
    → Pends (end_of_role r p) (end_of_role r (happens a b s p))
    (as_told (events r (moves_of a b s p) (Some (machine_at o p))))
step_pends a b keys Funder (By Funder act) o p k h named =
    (acts_told a b keys Funder o act p h).pends (log_within a p.x h.hold.kept.there.within) named
step_pends a b keys Fundee (By Fundee act) o p k h named =
    let g = flipped a b p h in
    (acts_told b a (flipped_keys a b keys) Fundee o act (turned p) g).pends
    (log_within b p.y g.hold.kept.there.within) named
step_pends a b keys Fundee (By Funder act) o p k h named =
    let t = acts_told a b keys Funder o act p h in
    let m = acts_so a b keys Funder o act p k.x h in
    subst (λ es. Pends p.y (happens a b (By Funder act) p).y (as_told es)) (sym t.other)
    (same_pends p.y (happens a b (By Funder act) p).y m.other named)
step_pends a b keys Funder (By Fundee act) o p k h named =
    let t = acts_told b a (flipped_keys a b keys) Fundee o act (turned p) (flipped a b p h) in
    let m = acts_so b a (flipped_keys a b keys) Fundee o act (turned p) k.y (flipped a b p h) in
    subst (λ es. Pends p.x (happens a b (By Fundee act) p).x (as_told es)) (sym t.other)
    (same_pends p.x (happens a b (By Fundee act) p).x m.other named)
step_pends a b keys r Connect o p k h named =
    same_pends (end_of_role r p) (end_of_role r (happens a b Connect p)) (same r p.x_line p.y_line) named
  where
    same : (q : Role) (lx ly : ConnectionState) → end_of_role q (connects a b lx ly p) ≡ end_of_role q p
    same Funder Down Down = refl
    same Fundee Down Down = refl
    same q Down AwaitingReestablish = refl
    same q Down Connected = refl
    same q AwaitingReestablish l = refl
    same q Connected l = refl

all_pend : (a b : Signer) → ArePartners a b → (r : Role) (ss : List Step) (o : Opening) (p : Ends) → BothStand o p
    → Sound a b p → Named (end_of_role r p)
    → Pends (end_of_role r p) (end_of_role r (run a b ss p))
    (as_told (events r (all_moves a b ss p) (Some (machine_at o p))))
all_pend a b keys r [] o p k h named = same_pends (end_of_role r p) (end_of_role r p) refl named
all_pend a b keys r (s ∷ ss) o p k h named =
    let q = happens a b s p in
    let ms = moves_of a b s p in
    let ns = all_moves a b ss q in
    let m = happens_so a b keys s o p k h in
    let t = step_pends a b keys r s o p k h named in
    let rest = all_pend a b keys r ss o q m.1 (ran a b keys (s ∷ []) p h) t.named in
    let first = as_told (events r ms (Some (machine_at o p))) in
    let then = as_told (events r ns (Some (machine_at o q))) in
    let x = end_of_role r p in
    let is : as_told (events r (ms ++ ns) (Some (machine_at o p))) ≡ first ++ then =
    ap as_told (events_append r ms ns (Some (machine_at o p))
    ∙ ap (λ z. events r ms (Some (machine_at o p)) ++ events r ns z)
    (run_after ms (Some (machine_at o p)) (Some (machine_at o q)) m.0))
    ∙ told_append (events r ms (Some (machine_at o p))) (events r ns (Some (machine_at o q))) in
    subst (Pends x (end_of_role r (run a b ss q))) (sym is)
    (pends_both x (end_of_role r q) (end_of_role r (run a b ss q)) first then t rest)

pub none_named : (e : End) → e.ledger ≡ no_events → e.dance.log.first ≡ log.none → Named e
none_named e is none =
    let own : e.dance.log.first.own ≡ 0 = ap (λ (c : Counts). c.own) none in
    let peer : e.dance.log.first.peer ≡ 0 = ap (λ (c : Counts). c.peer) none in
    let undecided : e.ledger.undecided ≡ [] = ap (λ (l : Ledger). l.undecided) is in
    record {
      held = subst (NamedIn e) (sym undecided) tt;
      full = subst (λ rs. length (pending rs e) ≡ length rs) (sym undecided) refl;
      own_first = omega (arith, own);
      peer_first = omega (arith, peer);
      there = subst (All (IsAt e.dance.log.first)) (sym undecided) tt;
    }

pub in_step_so : (a b : Signer) (s : OpenSpec) (c : Config) (funder fundee : Opened) (steps : List Step) (r : Role)
    → ArePartners a b → Opens a b s c funder fundee
    → IsInStep (as_told (events r (history a b funder fundee steps) None))
    (end_of_role r (run a b steps (opened funder fundee)))
in_step_so a b s c funder fundee steps r keys o =
    let p = opened funder fundee in
    let q = funder.dance.log.opening in
    let st = starts a b s c funder fundee o in
    let n = end_of_role r (run a b steps p) in
    let es = as_told (events r (history a b funder fundee steps) None) in
    let t = all_pend a b keys r steps q p st.keeps (opened_holds a b s c funder fundee o) (none r) in
    let so : as_told (events r (all_moves a b steps p) (Some (machine_at q p))) ≡ es =
    ap (λ m. as_told (events r (all_moves a b steps p) m)) st.first in
    let gone = t.gone in
    let decided = t.decided in
    let none_first = undecided_all r in
    let all_gone : n.ledger.decided ≡ gone = omega (arith, decided, none_first) in
    record {
      pending = pending_so n t.named ∙ ap (counted n.ledger.decided) (t.entries
          ∙ ap (λ z. drop t.gone (z ++ as_told (events r (all_moves a b steps p) (Some (machine_at q p))))) (empty r)
          ∙ ap (drop t.gone) so ∙ ap (λ i. drop i es) (sym all_gone));
      all = entered_so a b s c funder fundee steps r keys o;
    }
  where
    none : (r : Role) → Named (end_of_role r (opened funder fundee))
    none Funder = none_named (end_of funder) refl (opened_fresh a b s c funder fundee o).funder_first
    none Fundee = none_named (end_of fundee) refl (opened_fresh a b s c funder fundee o).fundee_first

    undecided_all : (r : Role) → (end_of_role r (opened funder fundee)).ledger.decided ≡ 0
    undecided_all Funder = refl
    undecided_all Fundee = refl

    empty : (r : Role) → pending (end_of_role r (opened funder fundee)).ledger.undecided
        (end_of_role r (opened funder fundee)) ≡ []
    empty Funder = refl
    empty Fundee = refl
