-- Over every list of steps two ends are the machine after its moves.
use Rattle.std.proofs.Common.{◌≡◌, ℕ, List, [], ◌∷◌, length, refl, sym, ap, ◌∙◌, subst}
use Rattle.std.proofs.Common.{◌*◌, nat_le, ◌&&◌}
use Rattle.std.proofs.lemmas.Bool.{leb-true}
use Rattle.std.proofs.Common.{Bool, true, false, cond, not, Option, Some, None, Result, Ok, Err}
use Rattle.ln_msgs.specs.declared.messages.message.Message.TheVariants as message
use Rattle.ln_msgs.specs.declared.messages.closing.ClosingSigned.{ClosingSigned}
use Rattle.ln_msgs.specs.declared.messages.commitments.ChannelReestablish.{ChannelReestablish}
use Rattle.ln_refusals.specs.declared.refusal.Refusal.{Refusal}
use Rattle.ln_refusals.specs.declared.refusal.Refusal.TheVariants as refusal
use Rattle.ln_keys.specs.declared.role.Role.{Role}
use Rattle.ln_keys.specs.declared.role.Role.TheVariants.{Funder, Fundee}
use Rattle.ln_keys.specs.Signer.{Signer}
use Rattle.ln_log.specs.declared.opening.Opening.{Opening}
use Rattle.ln_log.specs.declared.update.Update.{Update as Change}
use Rattle.ln_log.specs.declared.update.Update.TheVariants as update
use Rattle.ln_log.specs.Updates.{as_sent, next_id}
use Rattle.ln_log.specs.Limits.{HasNextId}
use Rattle.ln_log.specs.Machine.{Machine, Move, Propose, Drop, IsRun, fresh, after}
use Rattle.ln_log.proofs.Moves.{party_dropped}
use Rattle.ln_dance.specs.Dance.{signed_message}
use Rattle.ln_dance.specs.Messages.{update_message}
use Rattle.ln_close.specs.declared.closing.FeeAnswer.{FeeAnswer}
use Rattle.ln_close.specs.Closing.{answer_to}
use Rattle.ln_channel.specs.declared.command.Command.{Command}
use Rattle.ln_channel.specs.declared.command.Command.TheVariants as command
use Rattle.ln_channel.specs.declared.machine.ConnectionState.{ConnectionState}
use Rattle.ln_channel.specs.declared.machine.ConnectionState.TheVariants.{Down, AwaitingReestablish, Connected}
use Rattle.ln_channel.specs.declared.output.Output.TheVariants as output
use Rattle.ln_channel.specs.declared.config.Config.{Config}
use Rattle.ln_channel.specs.declared.config.OpenSpec.{OpenSpec}
use Rattle.ln_channel.specs.declared.opening.Opened.{Opened}
use Rattle.ln_channel.specs.Opening.{Agreement, unless, opening_of, asked_with, open_message, open_fault, agreement}
use Rattle.ln_channel.specs.Opening.{accept_message, accept_fault, funder_end, created_message, created_fault}
use Rattle.ln_channel.specs.Opening.{fundee_end}
use Rattle.ln_channel.specs.Opening.{funding_message}
use Rattle.ln_channel.specs.Meeting.{Opens}
use Rattle.ln_channel.proofs.Meeting.{are_ends}
use Rattle.ln_log.specs.Opening.{IsFit, is_fit}
use Rattle.ln_msgs.specs.declared.messages.opening.AcceptChannel.{AcceptChannel}
use Rattle.ln_msgs.specs.declared.messages.opening.FundingCreated.{FundingCreated}
use Rattle.ln_msgs.specs.declared.messages.opening.FundingSigned.{FundingSigned}
use Rattle.ln_channel.specs.End.{End, Turn, end_of, end_dropped, has_begun, sending, completed, shutdown_message}
use Rattle.ln_channel.specs.Taking.{answered, range_in, completed_row}
use Rattle.ln_channel.specs.Commands.{ready_message, confirmed, confirm_fault, propose_fault, proposes}
use Rattle.ln_channel.specs.Commands.{sign_command_fault}
use Rattle.ln_channel.specs.Commands.{signs_next, shut_fault, shuts_down, command_row, unready_fault}
use Rattle.ln_channel.specs.State.{is_down}
use Rattle.ln_channel.specs.Step.{faulted, line_fault}
use Rattle.ln_channel_laws.specs.Ends.{Ends, turned, message_at, becomes, answers, delivers, still_come, Act, Deliver}
use Rattle.ln_channel_laws.specs.Ends.{Give}
use Rattle.ln_channel_laws.specs.Ends.{Note, Lose, Cut, Save, acts}
use Rattle.ln_channel_laws.specs.Ends.{opened, connects, Step, By, Connect, happens, run}
use Rattle.ln_keys.specs.Partners.{ArePartners}
use Rattle.ln_channel_laws.specs.Promises.{party}
use Rattle.ln_channel_laws.specs.Setup.{setup_of, AreSetUp}
use Rattle.ln_channel_laws.specs.Moves.{machine_of, moves_asked, moves_of_command, moves_of_message, moves_delivered}
use Rattle.ln_channel_laws.specs.Moves.{moves_of_act, moves_of, all_moves, history, after_all}
use Rattle.ln_channel_laws.proofs.Tests.{parts, was_none, was_given}
use Rattle.ln_channel_laws.proofs.Flight.Sides.{Notice, Sign, Shutdown, Close, Again, has_bid}
use Rattle.ln_channel_laws.proofs.Readiness.ReadinessOverActs.{closing_sent}
use Rattle.ln_channel_laws.proofs.Flight.Images.{message_of, messages_of, side_of}
use Rattle.ln_channel_laws.proofs.Ends.Acts.{Hold}
use Rattle.ln_channel_laws.proofs.Ends.JustOpened.{opened_holds}
use Rattle.ln_channel_laws.proofs.Fees.Deals.{run_fees}
use Rattle.ln_channel_laws.proofs.Ends.Turns.{is_close, begun_so, by_front}
use Rattle.ln_channel_laws.proofs.Ends.Runs.{Sound, flipped, flipped_keys, met_row, meeting_row, ran}
use Rattle.ln_channel_laws.proofs.Machine.OneMove as base
use Rattle.ln_channel_laws.proofs.Machine.OneMove.{seen_by, run-append}
use Rattle.ln_channel_laws.proofs.Machine.TurnMoves.{Stands, log_within, turns, resumes, fee_told, may_close, proposed}
use Rattle.ln_channel_laws.proofs.Machine.TurnMoves.{signed}
use Rattle.ln_channel_laws.proofs.Machine.TurnMoves.{shut_down, settled_stands}

-- x has seen_by these moves, and y is as it was
pub record Moved (r : Role) (o : Opening) (ms : List Move) (p q : Ends) : Type 0 where
  pub run : IsRun ms (Some (seen_by r o (party p.x) (party p.y))) (Some (seen_by r o (party q.x) (party q.y)))
  pub stands : Stands r o q.x
  pub other : q.y ≡ p.y

module _ (a b : Signer) (keys : ArePartners a b) (r : Role) (o : Opening) where
  rests : (p q : Ends) → q.x ≡ p.x → q.y ≡ p.y → Stands r o p.x → Moved r o [] p q
  rests p q ex ey s = record {
    run = ap (λ (e : End). Some (seen_by r o (party e) (party q.y))) ex
        ∙ ap (λ (e : End). Some (seen_by r o (party p.x) (party e))) ey;
    stands = subst (Stands r o) (sym ex) s;
    other = ey;
  }

  -- ---- a message

  met : (p : Ends) → p.x_line ≡ Connected → Stands r o p.x → (channel : List ℕ) (n : Notice) (ns to_y : List Notice)
      → is_close n ≡ false → Hold a b channel Connected p.y_line p.x p.y (n ∷ ns) to_y p.said_x p.said_y
      → Moved r o (moves_delivered a r p.x_line (messages_of channel (n ∷ ns)) p.x) p
      (delivers a (messages_of channel (n ∷ ns)) p)
  met p is s channel n ns to_y other h =
      let q : Ends = record p { to_x = messages_of channel ns } in
      let m = message_of channel n in
      let t = turns a b keys r o channel p.y_line p.x p.y p.said_x p.said_y s n ns to_y other h in
      subst (λ res. Moved r o (moves_of_message r m p.x res) p (answers res q))
      (sym (met_row a b keys p is channel n ns to_y other h)) (record { run = t.0; stands = t.1; other = refl })

  meeting : (p : Ends) → p.x_line ≡ AwaitingReestablish → Stands r o p.x
      → (channel : List ℕ) (m : ChannelReestablish) (ns to_y : List Notice)
      → Hold a b channel AwaitingReestablish p.y_line p.x p.y (Again m ∷ ns) to_y p.said_x p.said_y
      → Moved r o (moves_delivered a r p.x_line (messages_of channel (Again m ∷ ns)) p.x) p
      (delivers a (messages_of channel (Again m ∷ ns)) p)
  meeting p is s channel m ns to_y h =
      let q : Ends = record p { to_x = messages_of channel ns } in
      let t = resumes r o p.x (party p.y) (log_within a p.x h.kept.there.within) s in
      subst (λ res. Moved r o (moves_of_message r (message.ChannelReestablish m) p.x res) p (answers res q))
      (sym (meeting_row a b keys p is channel m ns to_y h)) (record { run = t.0; stands = t.1; other = refl })

  fee_by : (begun right : Bool) (res : Result FeeAnswer Refusal) (p : Ends) → Stands r o p.x
      → (channel : List ℕ) (m : ClosingSigned) (ns to_y : List Notice) → has_begun p.x ≡ begun
      → answer_to p.x.closing m.fee_satoshis (range_in m) ≡ res → has_bid (side_of b p.y) ≡ true
      → Hold a b channel Connected p.y_line p.x p.y (Close m ∷ ns) to_y p.said_x p.said_y
      → (row : Result Turn Refusal) → row ≡ completed_row a (cond (not begun) (Err refusal.OutOfPlace)
      (cond right (answered a m p.x res) (Err refusal.SignatureWrong)))
      → Moved r o (moves_of_message r (message.ClosingSigned m) p.x row) p
      (answers row (record p { to_x = messages_of channel ns }))
  fee_by true true (Ok ans) p s channel m ns to_y began e bid h row is =
      let q : Ends = record p { to_x = messages_of channel ns } in
      let t = fee_told a r o m ans p.x (party p.y) s (log_within a p.x h.kept.there.within) e
      (λ none. may_close a b Connected p.y_line p.x p.y to_y (Close m ∷ ns) h.kept.there h.kept.back
      (begun_so a p.x began) (h.ended_back.begun bid) none) in
      subst (λ z. Moved r o (moves_of_message r (message.ClosingSigned m) p.x z) p (answers z q)) (sym is)
      (record { run = t.0; stands = t.1; other = refl })
  fee_by true true (Err z) p s channel m ns to_y began e bid h row is =
      let q : Ends = record p { to_x = messages_of channel ns } in
      subst (λ z. Moved r o (moves_of_message r (message.ClosingSigned m) p.x z) p (answers z q)) (sym is)
      (rests p q refl refl s)
  fee_by true false res p s channel m ns to_y began e bid h row is =
      let q : Ends = record p { to_x = messages_of channel ns } in
      subst (λ z. Moved r o (moves_of_message r (message.ClosingSigned m) p.x z) p (answers z q)) (sym is)
      (rests p q refl refl s)
  fee_by false right res p s channel m ns to_y began e bid h row is =
      let q : Ends = record p { to_x = messages_of channel ns } in
      subst (λ z. Moved r o (moves_of_message r (message.ClosingSigned m) p.x z) p (answers z q)) (sym is)
      (rests p q refl refl s)

  fee : (p : Ends) → p.x_line ≡ Connected → Stands r o p.x
      → (channel : List ℕ) (m : ClosingSigned) (ns to_y : List Notice)
      → Hold a b channel Connected p.y_line p.x p.y (Close m ∷ ns) to_y p.said_x p.said_y
      → Moved r o (moves_delivered a r p.x_line (messages_of channel (Close m ∷ ns)) p.x) p
      (delivers a (messages_of channel (Close m ∷ ns)) p)
  fee p is s channel m ns to_y h =
      fee_by (has_begun p.x) (a.accepts_close m.fee_satoshis m.signature)
      (answer_to p.x.closing m.fee_satoshis (range_in m)) p s channel m ns to_y refl refl
      (closing_sent p.y_line m (side_of a p.x) (side_of b p.y) ns h.told.back.flight) h
      (message_at a p.x_line (message.ClosingSigned m) p.x)
      (ap (λ l. message_at a l (message.ClosingSigned m) p.x) is)

  delivered : (p : Ends) → Stands r o p.x → Sound a b p → Moved r o (moves_of_act a r Deliver p) p (acts a Deliver p)
  delivered p s h =
      let is = h.in_x in
      subst (λ ms. Moved r o (moves_delivered a r p.x_line ms p.x) p (delivers a ms p)) (sym is)
      (by_front a b h.channel p.y_line p.x p.y h.to_y p.said_x p.said_y
      (λ l ns. p.x_line ≡ l → Moved r o (moves_delivered a r p.x_line (messages_of h.channel ns) p.x) p
      (delivers a (messages_of h.channel ns) p))
      (λ l is. rests p p refl refl s)
      (λ m ns k is. meeting p is s h.channel m ns h.to_y k)
      (λ n ns other k is. met p is s h.channel n ns h.to_y other k)
      (λ m ns k is. fee p is s h.channel m ns h.to_y k) p.x_line h.to_x h.hold refl)

  -- ---- a command

  given_by : (f : Option Refusal) (t : Turn) (c : Command) (p : Ends) → Stands r o p.x
      → (f ≡ None → Moved r o (moves_asked r c p.x) p (becomes t p))
      → Moved r o (moves_of_command r c p.x (unless f t)) p (answers (unless f t) p)
  given_by None t c p s k = k refl
  given_by (Some z) t c p s k = rests p p refl refl s

  propose : (u : Change) (c : Command) (p : Ends) → Stands r o p.x → Sound a b p
      → moves_asked r c p.x ≡ Propose r (as_sent u) ∷ [] → HasNextId p.x.dance.log.own u
      → Moved r o (moves_of_command r c p.x (unless (propose_fault p.x u)
      (sending (update_message p.x.dance.channel u) (proposes u p.x)))) p
      (answers (unless (propose_fault p.x u) (sending (update_message p.x.dance.channel u) (proposes u p.x))) p)
  propose u c p s h asked id =
      let t = sending (update_message p.x.dance.channel u) (proposes u p.x) in
      let w = log_within a p.x h.hold.kept.there.within in
      given_by (propose_fault p.x u) t c p s
      (λ none. subst (λ ms. Moved r o ms p (becomes t p)) (sym asked)
      (record {
        run = proposed r o p.x (party p.y) u s w id none;
        stands = record { role = s.role; opening = s.opening };
        other = refl;
      }))

  given : (c : Command) (p : Ends) → Stands r o p.x → Sound a b p
      → Moved r o (moves_of_command r c p.x (command_row a c p.x)) p (answers (command_row a c p.x) p)
  given (command.Confirm id) p s h =
      let t = sending (message.ChannelReady (ready_message a p.x)) (confirmed id p.x) in
      given_by (confirm_fault p.x) t (command.Confirm id) p s
      (λ none. record { run = refl; stands = record { role = s.role; opening = s.opening }; other = refl })
  given (command.Add amount hash expiry onion origin) p s h =
      propose (update.Add (record {
        id = next_id p.x.dance.log.own;
        amount = amount;
        hash = hash;
        expiry = expiry;
        onion = onion;
        origin = origin;
      })) (command.Add amount hash expiry onion origin) p s h refl refl
  given (command.Fulfil id preimage) p s h =
      propose (update.Fulfil (record { id = id; preimage = preimage })) (command.Fulfil id preimage) p s h refl tt
  given (command.Fail id reason) p s h =
      propose (update.Fail (record { id = id; reason = reason })) (command.Fail id reason) p s h refl tt
  given (command.Malformed id sha code) p s h =
      propose (update.Malformed (record { id = id; sha256_of_onion = sha; failure_code = code }))
      (command.Malformed id sha code) p s h refl tt
  given (command.Fee feerate) p s h =
      propose (update.Fee (record { feerate = feerate })) (command.Fee feerate) p s h refl tt
  given command.Sign p s h =
      let t : Turn = record {
        end = signs_next p.x;
        handed = record {
          sent = output.Send (message.CommitmentSigned (signed_message a p.x.dance)) ∷ [];
          told = output.Signed (length p.x.dance.log.own) ∷ [];
        };
      } in
      let w = log_within a p.x h.hold.kept.there.within in
      given_by (sign_command_fault p.x) t command.Sign p s
      (λ none. record {
        run = signed r o p.x (party p.y) w none;
        stands = record { role = s.role; opening = s.opening };
        other = refl;
      })
  given (command.Shutdown script) p s h =
      let n = shuts_down script p.x in
      let t = sending (message.Shutdown (shutdown_message n)) n in
      let w = log_within a p.x h.hold.kept.there.within in
      given_by (shut_fault script p.x) (completed a t) (command.Shutdown script) p s
      (λ none. record {
        run = shut_down r o p.x (party p.y) script w none;
        stands = settled_stands r o (party p.y) n (record { role = s.role; opening = s.opening });
        other = refl;
      })
  given (command.Decide event mark) p s h = rests p p refl refl s
  given (command.Forget id) p s h = rests p p refl refl s
  given (command.Resume event mark) p s h = rests p p refl refl s

  commanded_by : (f : Option Refusal) (l : ConnectionState) (c : Command) (p : Ends) → Stands r o p.x → Sound a b p
      → Moved r o (moves_of_command r c p.x (faulted f (faulted (line_fault l) (command_row a c p.x)))) p
      (answers (faulted f (faulted (line_fault l) (command_row a c p.x))) p)
  commanded_by (Some z) l c p s h = rests p p refl refl s
  commanded_by None Down c p s h = rests p p refl refl s
  commanded_by None AwaitingReestablish c p s h = rests p p refl refl s
  commanded_by None Connected c p s h = given c p s h

  -- ---- a connection that is lost

  lost_by : (down : Bool) (p : Ends) → Stands r o p.x → Sound a b p
      → Moved r o (cond down [] (Drop r ∷ [])) p
      (cond down p (record p { x_line = Down; x = end_dropped p.x; to_x = [] }))
  lost_by true p s h = rests p p refl refl s
  lost_by false p s h = record {
    run = base.drops o (party p.x) (party p.y) (party (end_dropped p.x)) r
        (party_dropped p.x.closing.shut p.x.closing.closed p.x.dance.log (log_within a p.x h.hold.kept.there.within));
    stands = record { role = s.role; opening = s.opening };
    other = refl;
  }

  cut_by : (down : Bool) (n : ℕ) (p : Ends) → Stands r o p.x
      → Moved r o [] p (cond down (record p { to_y = still_come n p.y_line p.to_y }) p)
  cut_by true n p s = rests p (record p { to_y = still_come n p.y_line p.to_y }) refl refl s
  cut_by false n p s = rests p p refl refl s

  pub acts_so : (act : Act) (p : Ends) → Stands r o p.x → Sound a b p
      → Moved r o (moves_of_act a r act p) p (acts a act p)
  acts_so Deliver p s h = delivered p s h
  acts_so (Give c) p s h = commanded_by (unready_fault c p.x) p.x_line c p s h
  acts_so (Note c) p s h = record {
    run = refl;
    stands = record { role = s.role; opening = s.opening };
    other = refl;
  }
  acts_so Lose p s h = lost_by (is_down p.x_line) p s h
  acts_so (Cut n) p s h = cut_by (is_down p.x_line) n p s
  acts_so Save p s h = record {
    run = refl;
    stands = record { role = s.role; opening = s.opening };
    other = refl;
  }

-- ---- steps

pub record BothStand (o : Opening) (p : Ends) : Type 0 where
  pub x : Stands Funder o p.x
  pub y : Stands Fundee o p.y

abbrev pub RunsTo : Opening → List Move → Ends → Ends → Type 0
RunsTo o ms p q =
    IsRun ms (Some (seen_by Funder o (party p.x) (party p.y))) (Some (seen_by Funder o (party q.x) (party q.y)))

connected_by : (a b : Signer) (lx ly : ConnectionState) (o : Opening) (p : Ends) → BothStand o p
    → RunsTo o [] p (connects a b lx ly p) × BothStand o (connects a b lx ly p)
connected_by a b Down Down o p k = (refl, record { x = k.x; y = k.y })
connected_by a b Down AwaitingReestablish o p k = (refl, k)
connected_by a b Down Connected o p k = (refl, k)
connected_by a b AwaitingReestablish l o p k = (refl, k)
connected_by a b Connected l o p k = (refl, k)

pub happens_so : (a b : Signer) → ArePartners a b → (s : Step) (o : Opening) (p : Ends) → BothStand o p → Sound a b p
    → RunsTo o (moves_of a b s p) p (happens a b s p) × BothStand o (happens a b s p)
happens_so a b keys (By Funder act) o p k h =
    let m = acts_so a b keys Funder o act p k.x h in
    (m.run, record { x = m.stands; y = subst (Stands Fundee o) (sym m.other) k.y })
happens_so a b keys (By Fundee act) o p k h =
    let m = acts_so b a (flipped_keys a b keys) Fundee o act (turned p) k.y (flipped a b p h) in
    (m.run, record { x = subst (Stands Funder o) (sym m.other) k.x; y = m.stands })
happens_so a b keys Connect o p k h = connected_by a b p.x_line p.y_line o p k

runs_so : (a b : Signer) → ArePartners a b → (ss : List Step) (o : Opening) (p : Ends) → BothStand o p → Sound a b p
    → RunsTo o (all_moves a b ss p) p (run a b ss p) × BothStand o (run a b ss p)
runs_so a b keys [] o p k h = (refl, k)
runs_so a b keys (s ∷ ss) o p k h =
    let q = happens a b s p in
    let m = happens_so a b keys s o p k h in
    let n = runs_so a b keys ss o q m.1 (ran a b keys (s ∷ []) p h) in
    (run-append (moves_of a b s p) (all_moves a b ss q) _ _ _ m.0 n.0, n.1)

-- ---- from the opening on

record Begins (r : Role) (e : Opened) : Type 0 where
  fresh_party : party (end_of e) ≡ fresh
  role : e.dance.log.role ≡ r

unfaulted : (p q : Bool) → cond (p && q) None (Some refusal.OutOfPlace) ≡ None → q ≡ true
unfaulted true true e = refl
unfaulted true false e = absurd (cc)
unfaulted false q e = absurd (cc)

fit_so : (q : Opening) → is_fit q ≡ true → IsFit q
fit_so q e =
    let p1 = nat_le 1 q.satoshis in
    let p2 = nat_le q.satoshis 2100000000000000 in
    let p3 = nat_le q.push (1000 * q.satoshis) in
    let p4 = nat_le q.funder.accepted 483 in
    let p5 = nat_le q.fundee.accepted 483 in
    let r4 = parts (p1 && p2 && p3 && p4) p5 e in
    let r3 = parts (p1 && p2 && p3) p4 r4.0 in
    let r2 = parts (p1 && p2) p3 r3.0 in
    let r1 = parts p1 p2 r2.0 in
    record {
      some_funds = leb-true 1 q.satoshis r1.0;
      funds = leb-true q.satoshis 2100000000000000 r1.1;
      push = leb-true q.push (1000 * q.satoshis) r2.1;
      funder_accepts = leb-true q.funder.accepted 483 r3.1;
      fundee_accepts = leb-true q.fundee.accepted 483 r4.1;
    }

-- as both ends begin
pub record Starts (q : Opening) (p : Ends) : Type 0 where
  pub fit : IsFit q
  pub first : Some (seen_by Funder q (party p.x) (party p.y)) ≡ Some (seen_by Funder q fresh fresh)
  pub keeps : BothStand q p

pub starts : (a b : Signer) (s : OpenSpec) (c : Config) (funder fundee : Opened) → Opens a b s c funder fundee
    → Starts funder.dance.log.opening (opened funder fundee)
starts a b s c funder fundee o =
    let p = opened funder fundee in
    let ends = are_ends a b s c funder fundee o in
    let none = was_none (open_fault c (open_message a s)) (
      agreement b c (open_message a s),
      accept_message b c (open_message a s),
    ) (o.agreement, o.accept) o.open_channel in
    let given = was_given (open_fault c (open_message a s)) (
      agreement b c (open_message a s),
      accept_message b c (open_message a s),
    ) (o.agreement, o.accept) o.open_channel in
    let agreed : agreement b c (open_message a s) ≡ o.agreement =
    ap (λ (q : Agreement × AcceptChannel). q.0) given in
    let funder_is : funder_end a s o.accept ≡ funder =
    ap (λ (q : Opened × FundingCreated). q.0) (was_given (accept_fault s o.accept) (
      funder_end a s o.accept,
      created_message a s o.accept,
    ) (funder, o.created) o.accept_channel) in
    let fundee_is : fundee_end o.agreement o.created ≡ fundee =
    ap (λ (q : Opened × FundingSigned). q.0) (was_given (created_fault b o.agreement o.created)
    (fundee_end o.agreement o.created, funding_message b o.agreement o.created) (fundee, o.signed)
    o.funding_created) in
    let bx : Begins Funder funder = subst (Begins Funder) funder_is (record { fresh_party = refl; role = refl }) in
    let by : Begins Fundee fundee = subst (Begins Fundee) fundee_is (record { fresh_party = refl; role = refl }) in
    let q = funder.dance.log.opening in
    let is : opening_of o.agreement.terms ≡ q = ap (λ (e : Opened). e.dance.log.opening) fundee_is ∙ ends.opening in
    let offered_is : asked_with (open_message a s) c.limits ≡ q = ap (λ (g : Agreement). opening_of g.terms) agreed
    ∙ is in
    let fit : IsFit q = subst IsFit offered_is (fit_so (asked_with (open_message a s) c.limits)
    (unfaulted _ (is_fit (asked_with (open_message a s) c.limits)) none)) in
    let first : Some (seen_by Funder q (party p.x) (party p.y)) ≡ Some (seen_by Funder q fresh fresh) =
    ap (λ z. Some (seen_by Funder q z (party p.y))) bx.fresh_party
    ∙ ap (λ z. Some (seen_by Funder q fresh z)) by.fresh_party in
    record {
      fit = fit;
      first = first;
      keeps = record {
        x = record { role = bx.role; opening = refl };
        y = record { role = by.role; opening = ends.opening };
      };
    }

pub may_be_made : (a b : Signer) (s : OpenSpec) (c : Config) (funder fundee : Opened) (steps : List Step)
    → ArePartners a b
    → Opens a b s c funder fundee
    → IsRun (history a b funder fundee steps) None (Some (machine_of (run a b steps (opened funder fundee))))
may_be_made a b s c funder fundee steps keys o =
    let p = opened funder fundee in
    let q = funder.dance.log.opening in
    let st = starts a b s c funder fundee o in
    let all = runs_so a b keys steps q p st.keeps (opened_holds a b s c funder fundee o) in
    let last = run a b steps p in
    let is_last : seen_by Funder q (party last.x) (party last.y) ≡ machine_of last =
    ap (λ z. seen_by Funder z (party last.x) (party last.y)) (sym all.1.x.opening) in
    let ms = all_moves a b steps p in (
      st.fit,
      subst (λ m. IsRun ms (Some (seen_by Funder q fresh fresh)) (Some m)) is_last
          (subst (λ m. IsRun ms m (Some (seen_by Funder q (party last.x) (party last.y)))) st.first all.0),
    )

pub run_after : (ms : List Move) (old new : Option Machine) → IsRun ms old new → after_all ms old ≡ new
run_after [] old new e = sym e
run_after (move ∷ ms) old new e = run_after ms (after move old) new e.1

pub lead_there : (a b : Signer) (s : OpenSpec) (c : Config) (funder fundee : Opened) (steps : List Step)
    → ArePartners a b
    → Opens a b s c funder fundee
    → after_all (history a b funder fundee steps) None ≡ Some (machine_of (run a b steps (opened funder fundee)))
lead_there a b s c funder fundee steps keys o =
    run_after (history a b funder fundee steps) None (Some (machine_of (run a b steps (opened funder fundee))))
    (may_be_made a b s c funder fundee steps keys o)

pub keep_roles : (a b : Signer) (s : OpenSpec) (c : Config) (funder fundee : Opened) (steps : List Step)
    → ArePartners a b
    → Opens a b s c funder fundee → BothStand funder.dance.log.opening (run a b steps (opened funder fundee))
keep_roles a b s c funder fundee steps keys o =
    let begun = starts a b s c funder fundee o in
    (runs_so a b keys steps funder.dance.log.opening (opened funder fundee) begun.keeps
    (opened_holds a b s c funder fundee o)).1

pub set_up_so : (a b : Signer) (s : OpenSpec) (c : Config) (funder fundee : Opened) (steps : List Step)
    → ArePartners a b
    → Opens a b s c funder fundee
    → AreSetUp (setup_of funder fundee) (run a b steps (opened funder fundee)).x
    (run a b steps (opened funder fundee)).y
set_up_so a b s c funder fundee steps keys o =
    let kept = keep_roles a b s c funder fundee steps keys o in
    let fees = run_fees a b steps (opened funder fundee) in
    record {
      funders_opening = kept.x.opening;
      fundees_opening = kept.y.opening;
      funders_fees = fees.x;
      fundees_fees = fees.y;
    }
