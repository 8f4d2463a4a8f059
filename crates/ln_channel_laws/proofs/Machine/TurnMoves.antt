-- What an end does in a step is moves of the machine's party that it stands for.
use Rattle.std.proofs.Common.{◌≡◌, ℕ, List, [], ◌∷◌, ◌++◌, length, take, refl, sym, ap, ◌∙◌, subst, arith}
use Rattle.std.proofs.Common.{append_assoc, append-nil}
use Rattle.std.proofs.Common.{Bool, true, false, cond, not, ◌&&◌, ◌||◌, ◌==◌, Option, Some, None, Result, Ok, Err}
use Rattle.std.proofs.lemmas.List.{take_all}
use Rattle.std.proofs.lemmas.Bool.{eqb-true}
use Rattle.ln_msgs.specs.declared.messages.message.Message.{Message}
use Rattle.ln_msgs.specs.declared.messages.closing.ClosingSigned.{ClosingSigned}
use Rattle.ln_refusals.specs.declared.refusal.Refusal.{Refusal}
use Rattle.ln_refusals.specs.declared.refusal.Refusal.TheVariants as refusal
use Rattle.ln_keys.specs.declared.role.Role.{Role}
use Rattle.ln_keys.specs.Signer.{Signer}
use Rattle.ln_log.specs.declared.opening.Opening.{Opening}
use Rattle.ln_log.specs.declared.update.Update.{Update as Change}
use Rattle.ln_log.specs.declared.update.Update.TheVariants as update
use Rattle.ln_log.specs.Updates.{as_sent, all_sent}
use Rattle.ln_log.specs.Limits.{HasNextId, is_at_update_limit}
use Rattle.ln_log.specs.Log as log
use Rattle.ln_log.specs.Log.{Log, Counts, sent_pair, covered}
use Rattle.ln_log.specs.Machine.{Party, Covered, Move, Propose, Sign, Shut, IsRun, MayFollow}
use Rattle.ln_log.specs.Machine.{MayPropose, MayClose, CoversAll}
use Rattle.ln_log.specs.View.{live_adds}
use Rattle.ln_log.proofs.Moves.{party_proposed, party_received, party_signed, party_accepted, party_acknowledged}
use Rattle.ln_log.proofs.Moves.{shut_so, may}
use Rattle.ln_log.proofs.Signs.{exactly}
use Rattle.ln_dance.specs.Dance.{Dancer, with_next_point, sign_fault, owes}
use Rattle.ln_close.specs.declared.closing.FeeAnswer.{FeeAnswer}
use Rattle.ln_close.specs.declared.closing.FeeAnswer.TheVariants as answer
use Rattle.ln_close.specs.Closing.{after_shut, may_start, answer_to, behind_close}
use Rattle.ln_channel.specs.declared.machine.ConnectionState.{ConnectionState}
use Rattle.ln_channel.specs.declared.machine.ConnectionState.TheVariants.{Connected}
use Rattle.ln_channel.specs.End.{End, has_begun, is_ready, is_closed, owes_shutdown, all_acknowledged}
use Rattle.ln_channel.specs.End.{answers_shutdown, begins, settled}
use Rattle.ln_channel.specs.Taking.{takes, takes_ready, shuts_by_peer, answering, answered_end, range_in}
use Rattle.ln_channel.specs.Commands.{closed_fault, own_fault, propose_fault, proposes, sign_command_fault, signs_next}
use Rattle.ln_channel.specs.Commands.{shut_fault, shuts_down, script_fault}
use Rattle.ln_keys.specs.Partners.{ArePartners}
use Rattle.ln_channel_laws.specs.Promises.{party}
use Rattle.ln_channel_laws.specs.Moves.{moves_taken, closes, shuts}
use Rattle.ln_channel_laws.proofs.Tests.{parts, either_false, first_none, no_fault, otherwise, where_true, unnegated}
use Rattle.ln_channel_laws.proofs.Flight.Sides.{Notice, Update, Sign as Signs, Revoke, Ready, Shutdown, Close as Fee}
use Rattle.ln_channel_laws.proofs.Flight.Sides.{Again}
use Rattle.ln_channel_laws.proofs.Flight.Walk.{Phase, Idle, Sent, Answered, Flows, IsWithin}
use Rattle.ln_channel_laws.proofs.Flight.WalkOverActs.{revoked_for}
use Rattle.ln_channel_laws.proofs.Closing.NothingMoves.{HasBegun, covers_all}
use Rattle.ln_channel_laws.proofs.Flight.Images.{message_of, side_of, length-sent, take-sent}
use Rattle.ln_channel_laws.proofs.Ends.Acts.{Hold, front_reads}
use Rattle.ln_channel_laws.proofs.Ends.Turns.{turn_of, is_close, took, fronts}
use Rattle.ln_channel_laws.proofs.Machine.OneMove as base
use Rattle.ln_channel_laws.proofs.Machine.OneMove.{seen_by, run-append}

pub log_within : (k : Signer) (e : End) → IsWithin (side_of k e) → log.IsWithin e.dance.log
log_within k e w = record {
  own_current = w.own_current;
  own_acknowledged = w.own_acked;
  own_signed = omega (arith, w.own_signed, length-sent e.dance.log.own);
  peer_acknowledged = w.peer_acked;
  peer_signed = w.peer_signed;
  peer_current = omega (arith, w.peer_current, length-sent e.dance.log.received);
}

-- the role and the opening of an end
pub record Stands (r : Role) (o : Opening) (e : End) : Type 0 where
  pub role : e.dance.log.role ≡ r
  pub opening : e.dance.log.opening ≡ o

none_shut : (r : Role) (s : Bool) → shuts r s s ≡ []
none_shut r true = refl
none_shut r false = refl

none_closed : (r : Role) (c : Option ℕ) → closes r c c ≡ []
none_closed r None = refl
none_closed r (Some fee) = refl

-- ---- the end of a turn

begun_by : (t s : Bool) (n : End) → (e : End)
    → e ≡ cond t (record n { closing = cond s (record n.closing { own_fee = Some n.closing.fees.first }) n.closing }) n
    → (party e ≡ party n) × (e.dance ≡ n.dance)
begun_by true true n e is = (ap party is, ap (λ (q : End). q.dance) is)
begun_by true false n e is = (ap party is, ap (λ (q : End). q.dance) is)
begun_by false s n e is = (ap party is, ap (λ (q : End). q.dance) is)

begins_so : (n : End) → (party (begins n) ≡ party n) × ((begins n).dance ≡ n.dance)
begins_so n = begun_by (has_begun n) (may_start n.closing) n (begins n) refl

abbrev answered_by : Bool → End → End
answered_by owed e = cond owed (record e { closing = after_shut e.closing }) e

same_closed : (owed : Bool) (e : End) → (answered_by owed e).closing.closed ≡ e.closing.closed
same_closed true e = refl
same_closed false e = refl

same_dance : (owed : Bool) (e : End) → (answered_by owed e).dance ≡ e.dance
same_dance true e = refl
same_dance false e = refl

module _ (r : Role) (o : Opening) (y : Party) where
  abbrev pub Run : List Move → End → End → Type 0
  Run ms x n = IsRun ms (Some (seen_by r o (party x) y)) (Some (seen_by r o (party n) y))

  shut_by : (owed : Bool) (e : End) → owes_shutdown e ≡ owed → log.IsWithin e.dance.log
      → Run (shuts r e.closing.shut (answered_by owed e).closing.shut) e (answered_by owed e)
  shut_by true e is w =
      let p = parts (e.closing.peer_shut && not e.closing.shut) (all_acknowledged e.dance.log) is in
      let q = parts e.closing.peer_shut (not e.closing.shut) p.0 in
      let unshut = unnegated e.closing.shut q.1 in
      let all = eqb-true e.dance.log.acknowledged.own (length e.dance.log.own) p.1 in
      subst (λ s. Run (shuts r s true) e (answered_by true e)) (sym unshut)
      (base.shuts o (party e) y (party (answered_by true e)) r
      ((shut_so e.closing.shut e.closing.closed e.dance.log w).0 all) refl)
  shut_by false e is w = subst (λ ms. Run ms e e) (sym (none_shut r e.closing.shut)) refl

  settles : (e : End) → log.IsWithin e.dance.log
      → Run (shuts r e.closing.shut (settled e).closing.shut) e (settled e)
  settles e w =
      let n = answers_shutdown e in
      let is = begins_so n in
      subst (λ (q : Party). IsRun (shuts r e.closing.shut q.shut) (Some (seen_by r o (party e) y))
      (Some (seen_by r o q y)))
      (sym is.0) (shut_by (owes_shutdown e) e refl w)

  pub settled_closed : (e : End) → (settled e).closing.closed ≡ e.closing.closed
  settled_closed e = ap (λ (q : Party). q.closed) (begins_so (answers_shutdown e)).0
      ∙ same_closed (owes_shutdown e) e

  pub settled_dance : (e : End) → (settled e).dance ≡ e.dance
  settled_dance e = (begins_so (answers_shutdown e)).1 ∙ same_dance (owes_shutdown e) e

  pub settled_stands : (e : End) → Stands r o e → Stands r o (settled e)
  settled_stands e s = record {
    role = ap (λ (d : Dancer). d.log.role) (settled_dance e) ∙ s.role;
    opening = ap (λ (d : Dancer). d.log.opening) (settled_dance e) ∙ s.opening;
  }

  -- a message's moves, then those of the turn's end
  pub finishes : (first : List Move) (x e : End) → log.IsWithin e.dance.log → e.closing.shut ≡ x.closing.shut
      → Run (first ++ closes r x.closing.closed e.closing.closed) x e
      → Run (first ++ (closes r x.closing.closed (settled e).closing.closed
      ++ shuts r x.closing.shut (settled e).closing.shut)) x (settled e)
  finishes first x e w s run =
      let cl = closes r x.closing.closed e.closing.closed in
      let sh = shuts r e.closing.shut (settled e).closing.shut in
      let all : Run ((first ++ cl) ++ sh) x (settled e) =
      run-append (first ++ cl) sh _ _ _ run (settles e w) in
      subst (λ c. Run (first ++ (closes r x.closing.closed c ++ shuts r x.closing.shut (settled e).closing.shut)) x
      (settled e)) (sym (settled_closed e))
      (subst (λ q. Run (first ++ (cl ++ shuts r q (settled e).closing.shut)) x (settled e)) s
      (subst (λ ms. Run ms x (settled e)) (append_assoc first cl sh) all))

  pub with_none : (first cl : List Move) (x e : End) → cl ≡ [] → Run first x e → Run (first ++ cl) x e
  with_none first cl x e none run = subst (λ c. Run (first ++ c) x e) (sym none)
      (subst (λ ms. Run ms x e) (sym (append-nil first)) run)

-- ---- what a message is

-- what of the log an update, a signature, ... leaves
pub record Taken (r : Role) (o : Opening) (first : List Move) (x n : End) (y : Party) : Type 0 where
  pub run : Run r o y first x n
  pub closed : n.closing.closed ≡ x.closing.closed
  pub shut : n.closing.shut ≡ x.closing.shut
  pub role : n.dance.log.role ≡ x.dance.log.role
  pub opening : n.dance.log.opening ≡ x.dance.log.opening

pub no_move : (r : Role) (channel : List ℕ) (u : Change) → moves_taken r (message_of channel (Update u)) ≡ []
no_move r channel (update.Add d) = refl
no_move r channel (update.Fulfil d) = refl
no_move r channel (update.Fail d) = refl
no_move r channel (update.Malformed d) = refl
no_move r channel (update.Fee d) = refl

ready_by : (r : Role) (o : Opening) (again : Bool) (x n k : End) (y : Party) → n ≡ cond again x k
    → party k ≡ party x → k.dance.log ≡ x.dance.log → Taken r o [] x n y
ready_by r o true x n k y is e l = record {
  run = base.rests o (party x) y (party n) r (ap party is);
  closed = ap (λ (q : End). q.closing.closed) is;
  shut = ap (λ (q : End). q.closing.shut) is;
  role = ap (λ (q : End). q.dance.log.role) is;
  opening = ap (λ (q : End). q.dance.log.opening) is;
}
ready_by r o false x n k y is e l = record {
  run = base.rests o (party x) y (party n) r (ap party is ∙ e);
  closed = ap (λ (q : End). q.closing.closed) is ∙ ap (λ (q : Party). q.closed) e;
  shut = ap (λ (q : End). q.closing.shut) is ∙ ap (λ (q : Party). q.shut) e;
  role = ap (λ (q : End). q.dance.log.role) is ∙ ap (λ (q : Log). q.role) l;
  opening = ap (λ (q : End). q.dance.log.opening) is ∙ ap (λ (q : Log). q.opening) l;
}

module _ (a b : Signer) (keys : ArePartners a b) (r : Role) (o : Opening) (channel : List ℕ) (ly : ConnectionState)
    (x y : End) (said_x said_y : List Message) where
  pub tells : (n : Notice) (ns to_y : List Notice) → is_close n ≡ false
      → Hold a b channel Connected ly x y (n ∷ ns) to_y said_x said_y
      → Taken r o (moves_taken r (message_of channel n)) x (turn_of a n x).end (party y)
  tells (Update u) ns to_y other h = record {
    run = subst (λ ms. Run r o (party y) ms x (takes u x)) (sym (no_move r channel u))
        (base.rests o (party x) (party y) (party (takes u x)) r
        (party_received x.closing.shut x.closing.closed x.dance.log u (log_within a x h.kept.there.within)));
    closed = refl;
    shut = refl;
    role = refl;
    opening = refl;
  }
  tells (Signs m) ns to_y other h =
      let f = h.kept.there in
      let g = h.kept.back in
      let d = (front_reads ly (side_of a x) (side_of b y) (Signs m) ns g.flight).0 in
      let l = x.dance.log in
      let p = y.dance.log in
      let own : take l.acknowledged.own (all_sent l.own) ≡ take p.signed.peer (all_sent p.received) =
      sym (fronts p.signed.peer l.acknowledged.own p.current.peer (all_sent p.received) (all_sent l.own) f.agree
      (sym d.knows) g.within.peer_signed) in
      let n = (turn_of a (Signs m) x).end in
      record {
        run = base.accepts o (party x) (party y) (party n) r
            (party_accepted x.closing.shut y.closing.shut x.closing.closed y.closing.closed l p
            (sym (take-sent l.acknowledged.own l.own) ∙ own ∙ take-sent p.signed.peer p.received)
            (d.covers ∙ take-sent p.signed.own p.own));
        closed = refl;
        shut = refl;
        role = refl;
        opening = refl;
      }
  tells (Revoke m) ns to_y other h =
      let f = h.kept.there in
      let g = h.kept.back in
      let d = (front_reads ly (side_of a x) (side_of b y) (Revoke m) ns g.flight).0 in
      let l = x.dance.log in
      let p = y.dance.log in
      let q = revoked_for x.dance.numbers.signed x.dance.numbers.revoked y.dance.numbers.commitment l.acknowledged
      l.signed p.current d.next f.phase in
      let own : take l.signed.own (all_sent l.own) ≡ take p.current.peer (all_sent p.received) =
      ap (λ i. take i (all_sent l.own)) (sym q.2) ∙ sym f.agree in
      let peer : take l.signed.peer (all_sent l.received) ≡ take p.current.own (all_sent p.own) =
      fronts l.signed.peer p.current.own l.current.peer (all_sent l.received) (all_sent p.own) g.agree
      (sym q.3) f.within.peer_signed in
      let n = (turn_of a (Revoke m) x).end in
      record {
        run = base.learns o (party x) (party y) (party n) r
            (party_acknowledged x.closing.shut y.closing.shut x.closing.closed y.closing.closed l p
            (sym (take-sent l.signed.own l.own) ∙ own ∙ take-sent p.current.peer p.received)
            (sym (take-sent l.signed.peer l.received) ∙ peer ∙ take-sent p.current.own p.own));
        closed = refl;
        shut = refl;
        role = refl;
        opening = refl;
      }
  tells (Ready m) ns to_y other h =
      let k : End = record x {
        readiness = record {
          short_id = x.readiness.short_id;
          ready_sent = x.readiness.ready_sent;
          ready_received = true;
        };
        dance = with_next_point m.second_point x.dance;
      } in
      ready_by r o (x.readiness.ready_received || is_closed x) x (takes_ready m x) k (party y) refl refl refl
  tells (Shutdown m) ns to_y other h =
      ready_by r o x.closing.peer_shut x (cond x.closing.peer_shut x (shuts_by_peer m x)) (shuts_by_peer m x)
      (party y) refl refl refl
  tells (Fee m) ns to_y other h = absurd (cc)
  tells (Again m) ns to_y other h =
      absurd (front_reads ly (side_of a x) (side_of b y) (Again m) ns h.kept.back.flight)

  pub turns : Stands r o x → (n : Notice) (ns to_y : List Notice) → is_close n ≡ false
      → Hold a b channel Connected ly x y (n ∷ ns) to_y said_x said_y
      → Run r o (party y) (moves_taken r (message_of channel n)
      ++ (closes r x.closing.closed (settled (turn_of a n x).end).closing.closed
      ++ shuts r x.closing.shut (settled (turn_of a n x).end).closing.shut)) x (settled (turn_of a n x).end)
      × Stands r o (settled (turn_of a n x).end)
  turns s n ns to_y other h =
      let t = (turn_of a n x).end in
      let k = took a b keys channel ly x y said_x said_y n ns to_y other h in
      let e = tells n ns to_y other h in
      let first = moves_taken r (message_of channel n) in
      let none : closes r x.closing.closed t.closing.closed ≡ [] =
      ap (closes r x.closing.closed) e.closed ∙ none_closed r x.closing.closed in (
        finishes r o (party y) first x t (log_within a t k.kept.there.within) e.shut
            (with_none r o (party y) first (closes r x.closing.closed t.closing.closed) x t none e.run),
        settled_stands r o (party y) t (record { role = e.role ∙ s.role; opening = e.opening ∙ s.opening }),
      )

-- a connection that comes back
pub resumes : (r : Role) (o : Opening) (x : End) (y : Party) → log.IsWithin x.dance.log → Stands r o x
    → Run r o y ([] ++ (closes r x.closing.closed (settled x).closing.closed
    ++ shuts r x.closing.shut (settled x).closing.shut)) x (settled x) × Stands r o (settled x)
resumes r o x y w s = (
  finishes r o y [] x x w refl (with_none r o y [] (closes r x.closing.closed x.closing.closed) x x
      (none_closed r x.closing.closed) refl),
  settled_stands r o y x s,
)

-- ---- a close

-- y's commitment covers all of x's
all_in : (s a c n : ℕ) (acked signed current : Counts) → acked.own ≡ n → signed.own ≡ n
    → Phase s a c acked signed current → current.peer ≡ n
all_in s a c n acked signed current ea es (Idle e1 e2 e3 e4 e5 e6) = e5 ∙ es
all_in s a c n acked signed current ea es (Sent e1 e2 e3 e4) = e3 ∙ ea
all_in s a c n acked signed current ea es (Answered e1 e2 e3 e4) = e3 ∙ es

-- x has all of y's
has_all : (k j : Signer) (lx ly : ConnectionState) (x y : End) (ms : List Notice)
    → Flows ly lx (side_of j y) (side_of k x) ms
    → HasBegun (side_of k x) → HasBegun (side_of j y) → all_sent x.dance.log.received ≡ all_sent y.dance.log.own
has_all k j lx ly x y ms g bx by =
    let l = x.dance.log in
    let p = y.dance.log in
    let own = all_sent p.own in
    let got = all_sent l.received in
    let cover = covers_all (side_of j y) g.within by in
    let all : l.current.peer ≡ length own = all_in y.dance.numbers.signed y.dance.numbers.revoked
    x.dance.numbers.commitment (length own) p.acknowledged p.signed l.current by.own_acked cover.0 g.phase in
    sym (take_all l.current.peer got (let q = bx.peer_current in omega (arith, q))) ∙ g.agree
    ∙ take_all l.current.peer own (omega (arith, all))

abbrev pair_of : List Change → List Change → Covered
pair_of own peer = record { own = own; peer = peer }

covers : (l : Log) (c : Counts) (peer : List Change) → c.own ≡ length (all_sent l.own)
    → c.peer ≡ length (all_sent l.received) → all_sent l.received ≡ peer
    → sent_pair (covered l c) ≡ record { own = all_sent l.own; peer = peer }
covers l c peer eo ep same =
    ap (λ us. pair_of us (all_sent (take c.peer l.received)))
    (sym (take-sent c.own l.own) ∙ take_all c.own (all_sent l.own) (omega (arith, eo)))
    ∙ ap (pair_of (all_sent l.own)) (sym (take-sent c.peer l.received)
    ∙ take_all c.peer (all_sent l.received) (omega (arith, ep)) ∙ same)

covers_every : (k : Signer) (x : End) (peer : List Change) → IsWithin (side_of k x) → HasBegun (side_of k x)
    → all_sent x.dance.log.received ≡ peer → CoversAll (party x) peer
covers_every k x peer w b same =
    let l = x.dance.log in
    let cover = covers_all (side_of k x) w b in
    record {
      signed = covers l l.signed peer cover.0 (cover.1 ∙ b.peer_current) same;
      current = covers l l.current peer b.own_current b.peer_current same;
      acknowledged = covers l l.acknowledged peer b.own_acked b.peer_acked same;
    }

pub may_close : (k j : Signer) (lx ly : ConnectionState) (x y : End) (ms ns : List Notice)
    → Flows lx ly (side_of k x) (side_of j y) ms → Flows ly lx (side_of j y) (side_of k x) ns
    → HasBegun (side_of k x) → HasBegun (side_of j y) → x.closing.closed ≡ None → MayClose (party x) (party y)
may_close k j lx ly x y ms ns f g bx by none =
    let own = has_all k j lx ly x y ns g bx by in
    let back = has_all j k ly lx y x ms f by bx in
    record {
      shut = bx.shut_sent;
      peer_shut = by.shut_sent;
      own_covered = covers_every k x (all_sent y.dance.log.own) f.within bx own;
      peer_covered = covers_every j y (all_sent x.dance.log.own) g.within by back;
      none_live = subst (λ us. live_adds (all_sent x.dance.log.own) us ≡ []) own bx.none_own;
      none_live_of_the_peer = subst (λ us. live_adds us (all_sent x.dance.log.own) ≡ []) own bx.none_got;
      open_still = none;
    }

open_by : (same : Bool) (ans : FeeAnswer) → (ans ≡ answer.Nothing → ⊥)
    → cond same (Ok answer.Nothing) (Err refusal.FeeOutside) ≡ Ok ans → ⊥
open_by true ans other e = other (cc)
open_by false ans other e = absurd (cc)

pub still_open : (c : Option ℕ) (fee : ℕ) (rest : Result FeeAnswer Refusal) (ans : FeeAnswer)
    → (ans ≡ answer.Nothing → ⊥) → behind_close c fee rest ≡ Ok ans → c ≡ None
still_open None fee rest ans other e = refl
still_open (Some agreed) fee rest ans other e = absurd (open_by (agreed == fee) ans other e)

-- by the answer to a fee
pub fee_told : (k : Signer) (r : Role) (o : Opening) (m : ClosingSigned) (ans : FeeAnswer) (x : End) (y : Party)
    → Stands r o x → log.IsWithin x.dance.log → answer_to x.closing m.fee_satoshis (range_in m) ≡ Ok ans
    → (x.closing.closed ≡ None → MayClose (party x) y)
    → Run r o y ([] ++ (closes r x.closing.closed
    (settled (answering k ans (answered_end m ans x)).end).closing.closed
    ++ shuts r x.closing.shut (settled (answering k ans (answered_end m ans x)).end).closing.shut)) x
    (settled (answering k ans (answered_end m ans x)).end)
    × Stands r o (settled (answering k ans (answered_end m ans x)).end)
fee_told k r o m answer.Nothing x y s w e may =
    let n = (answering k answer.Nothing (answered_end m answer.Nothing x)).end in (
      finishes r o y [] x n w refl (with_none r o y [] (closes r x.closing.closed x.closing.closed) x n
          (none_closed r x.closing.closed) refl),
      settled_stands r o y n (record { role = s.role; opening = s.opening }),
    )
fee_told k r o m (answer.Propose fee) x y s w e may =
    let n = (answering k (answer.Propose fee) (answered_end m (answer.Propose fee) x)).end in (
      finishes r o y [] x n w refl (with_none r o y [] (closes r x.closing.closed x.closing.closed) x n
          (none_closed r x.closing.closed) refl),
      settled_stands r o y n (record { role = s.role; opening = s.opening }),
    )
fee_told k r o m (answer.Close fee) x y s w e may =
    let n = (answering k (answer.Close fee) (answered_end m (answer.Close fee) x)).end in
    let none = still_open x.closing.closed m.fee_satoshis _ (answer.Close fee) (λ q. absurd (cc)) e in (
      finishes r o y [] x n w refl (subst (λ c. Run r o y (closes r c (Some fee)) x n) (sym none)
          (base.closes o (party x) y (party n) r fee (may none) refl)),
      settled_stands r o y n (record { role = s.role; opening = s.opening }),
    )
fee_told k r o m (answer.EchoAndClose fee) x y s w e may =
    let n = (answering k (answer.EchoAndClose fee) (answered_end m (answer.EchoAndClose fee) x)).end in
    let none = still_open x.closing.closed m.fee_satoshis _ (answer.EchoAndClose fee) (λ q. absurd (cc)) e in (
      finishes r o y [] x n w refl (subst (λ c. Run r o y (closes r c (Some fee)) x n) (sym none)
          (base.closes o (party x) y (party n) r fee (may none) refl)),
      settled_stands r o y n (record { role = s.role; opening = s.opening }),
    )

-- ---- a command that isn't refused

follows : (e : End) (u : Change) → closed_fault e u ≡ None → MayFollow e.closing.shut u
follows e (update.Add d) h = either_false e.closing.shut e.closing.peer_shut
    (no_fault (e.closing.shut || e.closing.peer_shut) refusal.Shut h)
follows e (update.Fulfil d) h = tt
follows e (update.Fail d) h = tt
follows e (update.Malformed d) h = tt
follows e (update.Fee d) h = either_false e.closing.shut e.closing.peer_shut
    (no_fault (e.closing.shut || e.closing.peer_shut) refusal.Shut h)

module _ (r : Role) (o : Opening) (x : End) (y : Party) where
  pub proposed : (u : Change) → Stands r o x → log.IsWithin x.dance.log → HasNextId x.dance.log.own u
      → propose_fault x u ≡ None → Run r o y (Propose r (as_sent u) ∷ []) x (proposes u x)
  proposed u s w id none =
      let p = first_none (own_fault x u) _ none in
      let q = otherwise (not (is_ready x)) refusal.NotReady _ p.0 in
      let t = otherwise (is_at_update_limit x.dance.log.own) refusal.NumbersSpent _ q.1 in
      let can = may x.closing.shut x.closing.closed x.dance.log u id (follows x u t.1) p.1 in
      base.proposes o (party x) y (party (proposes u x)) r (as_sent u)
      (subst (λ z. MayPropose o z (as_sent u) (party x)) s.role
      (subst (λ z. MayPropose z x.dance.log.role (as_sent u) (party x)) s.opening can.0))
      (party_proposed x.closing.shut x.closing.closed x.dance.log u w)

  pub signed : log.IsWithin x.dance.log → sign_command_fault x ≡ None → Run r o y (Sign r ∷ []) x (signs_next x)
  signed w none =
      let p = where_true (is_ready x) (sign_fault x.dance) refusal.NotReady none in
      let q = otherwise (owes x.dance) refusal.SignatureOutstanding _ p.1 in
      let t = first_none (log.sign_fault x.dance.log) _ q.1 in
      base.signs o (party x) y (party (signs_next x)) r
      ((exactly x.closing.shut x.closing.closed x.dance.log w).0 t.0)
      (party_signed x.closing.shut x.closing.closed x.dance.log)

  -- nothing more is owed then
  not_owed : (p q : Bool) → (p && not true && q) ≡ false
  not_owed true q = refl
  not_owed false q = refl

  pub shut_down : (script : List ℕ) → log.IsWithin x.dance.log → shut_fault script x ≡ None
      → Run r o y (Shut r ∷ []) x (settled (shuts_down script x))
  shut_down script w none =
      let n = shuts_down script x in
      let p = otherwise x.closing.shut refusal.Shut _ none in
      let q = where_true (all_acknowledged x.dance.log) (script_fault script) refusal.UpdatesPending p.1 in
      let all = eqb-true x.dance.log.acknowledged.own (length x.dance.log.own) q.0 in
      let free : owes_shutdown n ≡ false = not_owed x.closing.peer_shut (all_acknowledged x.dance.log) in
      let is : party (settled n) ≡ party n = (begins_so (answers_shutdown n)).0
      ∙ ap (λ c. party (answered_by c n)) free in
      base.shuts o (party x) y (party (settled n)) r
      ((shut_so x.closing.shut x.closing.closed x.dance.log w).0 all) is
