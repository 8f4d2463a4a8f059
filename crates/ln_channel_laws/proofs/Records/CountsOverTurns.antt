-- What every turn of an end keeps of its numbers, of its events and of what it knows of the peer.
use Rattle.std.proofs.Common.{◌≡◌, ℕ, ◌+◌, ◌-◌, ◌<◌, ◌≤◌, ◌^◌, List, [], ◌∷◌, ◌++◌, length, drop, refl, sym, ap, ◌∙◌}
use Rattle.std.proofs.Common.{subst, arith, length-append, length-drop, Bool, true, false, cond, ◌||◌, Option, Some}
use Rattle.std.proofs.Common.{None, option_map, Ok}
use Rattle.std.specs.List.{cons_option}
use Rattle.std.proofs.lemmas.List.{length-take}
use Rattle.ln_msgs.specs.declared.messages.closing.ClosingSigned.{ClosingSigned}
use Rattle.ln_msgs.specs.declared.messages.commitments.CommitmentSigned.{CommitmentSigned}
use Rattle.ln_msgs.specs.declared.messages.commitments.RevokeAndAck.{RevokeAndAck}
use Rattle.ln_msgs.specs.declared.messages.opening.ChannelReady.{ChannelReady}
use Rattle.ln_keys.specs.Signer.{Signer}
use Rattle.ln_log.specs.declared.update.Update.{Update as Change}
use Rattle.ln_log.specs.Log as log
use Rattle.ln_log.specs.Log.{Counts, between}
use Rattle.ln_dance.specs.declared.dance.Peer.{Peer}
use Rattle.ln_dance.specs.Dance.{with_next_point}
use Rattle.ln_close.specs.declared.closing.FeeAnswer.{FeeAnswer}
use Rattle.ln_close.specs.declared.closing.FeeAnswer.TheVariants as answer
use Rattle.ln_close.specs.Closing.{after_shut, may_start, answer_to}
use Rattle.ln_hooks.specs.declared.event.ChannelEvent.{ChannelEvent}
use Rattle.ln_hooks.specs.Event.{event_of}
use Rattle.ln_log.specs.declared.mark.EventRef.{EventRef}
use Rattle.ln_log.specs.declared.mark.EventRef.TheVariants as ref
use Rattle.ln_log.specs.declared.mark.Settlement.{Settlement}
use Rattle.ln_channel.specs.Base.{entering, is_open, based}
use Rattle.ln_channel.specs.Ledger.{Ledger, ref_of, refs_of, entered, settlement_by, settlements}
use Rattle.ln_channel.specs.End.{End, is_closed, has_begun, owes_shutdown, answers_shutdown, settled}
use Rattle.ln_channel.specs.Taking.{answering, answered_end, range_in, shuts_by_peer}
use Rattle.ln_channel_laws.proofs.Flight.Sides.{Notice, Update, Sign, Revoke, Ready, Shutdown, Close, Again}
use Rattle.ln_channel_laws.proofs.Ends.Turns.{turn_of, is_close}
use Rattle.ln_channel_laws.proofs.Machine.TurnMoves.{still_open}
use Rattle.ln_channel_laws.proofs.All.{All, all-append, all-drop}
use Rattle.ln_channel_laws.proofs.Records.RecordFits.{Where, IsHeld}
use Rattle.ln_channel_laws.proofs.Events.Decisions.{Behind}
use Rattle.ln_channel_laws.proofs.Bases.BaseStands.{IsAt, base_within, base_at, length-filter}
use Rattle.ln_channel_laws.proofs.Events.Undecided.{own_at, peer_at}

-- ---- what every step keeps of an end

-- a close is one event
abbrev pub closes_in : Option ℕ → ℕ
closes_in None = 0
closes_in (Some fee) = 1

abbrev pub IsFee : ℕ → Type 0
IsFee n = n < 2 ^ 64

-- current is how many of its own updates it holds, acknowledged how many of the peer's; ready says whether it has taken
-- the peer's channel_ready
pub record IsSteady (first : Counts) (current acknowledged : ℕ) (ledger : Ledger) (revoked : ℕ) (peer : Peer)
    (ready : Bool) (peer_fee closed : Option ℕ) : Type 0 where
  pub first_own : first.own ≤ current
  pub first_peer : first.peer ≤ acknowledged
  pub undecided : All (IsHeld current acknowledged) ledger.undecided
  pub there : All (IsAt first) ledger.undecided
  pub events : ledger.decided + length ledger.undecided ≤ current + acknowledged + closes_in closed
  pub decisions : length ledger.decisions ≤ ledger.decided
  pub results : length ledger.results ≤ acknowledged
  pub secret : revoked ≡ 0 → peer.secret ≡ None
  pub next_point : revoked ≡ 0 → ready ≡ false → length peer.next_point ≡ 33
  pub heard : Where IsFee peer_fee

abbrev pub Steady : End → Type 0
Steady e = IsSteady e.dance.log.first e.dance.log.current.own e.dance.log.acknowledged.peer e.ledger
    e.dance.numbers.revoked e.dance.peer e.readiness.ready_received e.closing.peer_fee e.closing.closed

-- ---- what the ledger names

-- where more is held
pub raised : (o p q r : ℕ) (rs : List EventRef) → o ≤ q → p ≤ r → All (IsHeld o p) rs → All (IsHeld q r) rs
raised o p q r [] lo lp h = tt
raised o p q r (ref.Own n ∷ rs) lo lp h = (let b = h.0 in omega (arith, lo, b), raised o p q r rs lo lp h.1)
raised o p q r (ref.Peer n ∷ rs) lo lp h = (let b = h.0 in omega (arith, lp, b), raised o p q r rs lo lp h.1)
raised o p q r (ref.Close ∷ rs) lo lp h = (tt, raised o p q r rs lo lp h.1)

one_named : (o p : ℕ) (e : Option ChannelEvent) (r : EventRef) (rs : List EventRef) → IsHeld o p r
    → All (IsHeld o p) rs → All (IsHeld o p) (cons_option (option_map (λ x. r) e) rs)
one_named o p None r rs h k = k
one_named o p (Some x) r rs h k = (h, k)

own_named : (n o p : ℕ) (us : List Change) → n + length us ≤ o → All (IsHeld o p) (refs_of true n us)
own_named n o p [] le = tt
own_named n o p (u ∷ us) le =
    one_named o p (event_of true u) (ref.Own n) (refs_of true (n + 1) us) (omega (arith, le))
    (own_named (n + 1) o p us (omega (arith, le)))

peer_named : (n o p : ℕ) (us : List Change) → n + length us ≤ p → All (IsHeld o p) (refs_of false n us)
peer_named n o p [] le = tt
peer_named n o p (u ∷ us) le =
    one_named o p (event_of false u) (ref.Peer n) (refs_of false (n + 1) us) (omega (arith, le))
    (peer_named (n + 1) o p us (omega (arith, le)))

one_at_most : (e : Option ChannelEvent) (r : EventRef) (rs : List EventRef) (n : ℕ) → length rs ≤ n
    → length (cons_option (option_map (λ x. r) e) rs) ≤ n + 1
one_at_most None r rs n le = omega (arith, le)
one_at_most (Some x) r rs n le = omega (arith, le)

-- no more events than updates
at_most : (own : Bool) (n : ℕ) (us : List Change) → length (refs_of own n us) ≤ length us
at_most own n [] = omega arith
at_most own n (u ∷ us) =
    let rest = at_most own (n + 1) us in
    let one = one_at_most (event_of own u) (ref_of own n) (refs_of own (n + 1) us) (length us) rest in
    omega (arith, one)

one_settlement : (s : Option Settlement) (ss : List Settlement) (n : ℕ) → length ss ≤ n
    → length (cons_option s ss) ≤ n + 1
one_settlement None ss n le = omega (arith, le)
one_settlement (Some s) ss n le = omega (arith, le)

-- no more results than updates
few_settlements : (own us : List Change) → length (settlements own us) ≤ length us
few_settlements own [] = omega arith
few_settlements own (u ∷ us) =
    let rest = few_settlements own us in
    let one = one_settlement (settlement_by own u) (settlements own us) (length us) rest in
    omega (arith, one)

pub length-between : (c d : ℕ) (us : List Change) → length (between c d us) ≤ d - c
length-between c d us = let is = length-take (d - c) (drop c us) in omega (arith, is)

-- ---- turns

either : (b : Bool) (e f : End) → Steady e → Steady f → Steady (cond b e f)
either true e f h k = h
either false e f h k = k

pub settled_steady : (e : End) → Steady e → Steady (settled e)
settled_steady e h =
    let n = answers_shutdown e in
    begun (has_begun n) (may_start n.closing) n
    (either (owes_shutdown e) (record e { closing = after_shut e.closing }) e h h)
  where
    begun : (t s : Bool) (n : End) → Steady n → Steady
        (cond t (record n { closing = cond s (record n.closing { own_fee = Some n.closing.fees.first }) n.closing }) n)
    begun true true n k = k
    begun true false n k = k
    begun false s n k = k

module _ (k : Signer) (x : End) (w : log.IsWithin x.dance.log) (s : Steady x) where
  -- it holds more of its own updates
  accepts_steady : (m : CommitmentSigned) → Steady (turn_of k (Sign m) x).end
  accepts_steady m =
      let l = x.dance.log in
      let c = l.current.own in
      let d = l.acknowledged.own in
      let p = l.acknowledged.peer in
      let us = between c d l.own in
      let rs = refs_of true c us in
      let grow : c ≤ d = w.own_current in
      let many = length-between c d l.own in
      let new = at_most true c us in
      let all = length-append x.ledger.undecided rs in
      let before = s.events in
      let held = s.first_own in
      record {
        first_own = omega (arith, held, grow);
        first_peer = s.first_peer;
        undecided = all-append (IsHeld d p) x.ledger.undecided rs
            (raised c p d p x.ledger.undecided grow (omega arith) s.undecided)
            (own_named c d p us (omega (arith, grow, many)));
        there = all-append (IsAt l.first) x.ledger.undecided rs s.there (own_at l.first c us s.first_own);
        events = omega (arith, grow, many, new, all, before);
        decisions = s.decisions;
        results = s.results;
        secret = s.secret;
        next_point = s.next_point;
        heard = s.heard;
      }

  -- it holds more of the peer's
  learns_steady : (m : RevokeAndAck) → Steady (turn_of k (Revoke m) x).end
  learns_steady m =
      let l = x.dance.log in
      let o = l.current.own in
      let c = l.acknowledged.peer in
      let d = l.signed.peer in
      let us = between c d l.received in
      let rs = refs_of false c us in
      let grow : c ≤ d = w.peer_acknowledged in
      let many = length-between c d l.received in
      let new = at_most false c us in
      let all = length-append x.ledger.undecided rs in
      let before = s.events in
      let few = few_settlements l.own us in
      let more = length-append x.ledger.results (settlements l.own us) in
      let had = s.results in
      let held = s.first_peer in
      record {
        first_own = s.first_own;
        first_peer = omega (arith, held, grow);
        undecided = all-append (IsHeld o d) x.ledger.undecided rs
            (raised o c o d x.ledger.undecided (omega arith) grow s.undecided)
            (peer_named c o d us (omega (arith, grow, many)));
        there = all-append (IsAt l.first) x.ledger.undecided rs s.there (peer_at l.first c us s.first_peer);
        events = omega (arith, grow, many, new, all, before);
        decisions = s.decisions;
        results = omega (arith, grow, many, few, more, had);
        secret = λ e. absurd (omega (arith, e));
        next_point = λ e g. absurd (omega (arith, e));
        heard = s.heard;
      }

  ready_steady : (m : ChannelReady) → Steady (turn_of k (Ready m) x).end
  ready_steady m =
      let n : End = record x {
        readiness = record {
          short_id = x.readiness.short_id;
          ready_sent = x.readiness.ready_sent;
          ready_received = true;
        };
        dance = with_next_point m.second_point x.dance;
      } in
      let now : Steady n = record {
        first_own = s.first_own;
        first_peer = s.first_peer;
        undecided = s.undecided;
        there = s.there;
        events = s.events;
        decisions = s.decisions;
        results = s.results;
        secret = s.secret;
        next_point = λ e g. absurd (cc (g));
        heard = s.heard;
      } in
      either (x.readiness.ready_received || is_closed x) x n s now

  pub turn_steady : (n : Notice) → is_close n ≡ false → Steady (turn_of k n x).end
  turn_steady (Update u) other = s
  turn_steady (Sign m) other = accepts_steady m
  turn_steady (Revoke m) other = learns_steady m
  turn_steady (Ready m) other = ready_steady m
  turn_steady (Shutdown m) other = either x.closing.peer_shut x (shuts_by_peer m x) s s
  turn_steady (Close m) other = absurd (cc)
  turn_steady (Again m) other = s

  -- a close is the last event, and there was none before
  closed_events : (rs : List EventRef) → rs ≡ ref.Close ∷ [] → x.closing.closed ≡ None
      → x.ledger.decided + length (x.ledger.undecided ++ rs)
      ≤ x.dance.log.current.own + x.dance.log.acknowledged.peer + 1
  closed_events rs is none =
      let all = length-append x.ledger.undecided rs in
      let one : length rs ≡ 1 = ap length is in
      let no : closes_in x.closing.closed ≡ 0 = ap closes_in none in
      let before = s.events in
      omega (arith, all, one, no, before)

  closes_steady : (heard fee : ℕ) → x.closing.closed ≡ None → IsFee heard
      → IsSteady x.dance.log.first x.dance.log.current.own x.dance.log.acknowledged.peer
      (entered (ref.Close ∷ []) x.ledger) x.dance.numbers.revoked x.dance.peer x.readiness.ready_received (Some heard)
      (Some fee)
  closes_steady heard fee unclosed below = record {
    first_own = s.first_own;
    first_peer = s.first_peer;
    undecided = all-append (IsHeld x.dance.log.current.own x.dance.log.acknowledged.peer) x.ledger.undecided
        (ref.Close ∷ []) s.undecided (tt, tt);
    there = all-append (IsAt x.dance.log.first) x.ledger.undecided (ref.Close ∷ []) s.there (tt, tt);
    events = closed_events (ref.Close ∷ []) refl unclosed;
    decisions = s.decisions;
    results = s.results;
    secret = s.secret;
    next_point = s.next_point;
    heard = below;
  }

  pub fee_steady : (m : ClosingSigned) (ans : FeeAnswer) → answer_to x.closing m.fee_satoshis (range_in m) ≡ Ok ans
      → IsFee m.fee_satoshis → Steady (answering k ans (answered_end m ans x)).end
  fee_steady m answer.Nothing e below = s
  fee_steady m (answer.Propose fee) e below = record {
    first_own = s.first_own;
    first_peer = s.first_peer;
    undecided = s.undecided;
    there = s.there;
    events = s.events;
    decisions = s.decisions;
    results = s.results;
    secret = s.secret;
    next_point = s.next_point;
    heard = below;
  }
  fee_steady m (answer.Close fee) e below =
      closes_steady m.fee_satoshis fee (still_open x.closing.closed m.fee_satoshis _ (answer.Close fee)
      (λ q. absurd (cc)) e) below
  fee_steady m (answer.EchoAndClose fee) e below =
      closes_steady m.fee_satoshis fee (still_open x.closing.closed m.fee_satoshis _ (answer.EchoAndClose fee)
      (λ q. absurd (cc)) e) below

-- what is decided leaves fewer undecided events, and as many in all
pub noted_steady : (x : End) (l : Ledger) → Behind x.ledger l → Steady x → Steady (record x { ledger = l })
noted_steady x l b s =
    let within = b.within in
    let more = b.decided in
    let before = s.events in
    let made = b.decisions in
    let had = s.decisions in
    let kept = b.results in
    let come = s.results in
    let fewer : length l.undecided ≡ length x.ledger.undecided - b.gone =
    ap length b.undecided ∙ length-drop b.gone x.ledger.undecided in
    record {
      first_own = s.first_own;
      first_peer = s.first_peer;
      undecided = subst (All (IsHeld x.dance.log.current.own x.dance.log.acknowledged.peer)) (sym b.undecided)
          (all-drop (IsHeld x.dance.log.current.own x.dance.log.acknowledged.peer) b.gone x.ledger.undecided
          s.undecided);
      there = subst (All (IsAt x.dance.log.first)) (sym b.undecided)
          (all-drop (IsAt x.dance.log.first) b.gone x.ledger.undecided s.there);
      events = omega (arith, within, more, before, fewer);
      decisions = omega (arith, more, made, had);
      results = omega (arith, kept, come);
      secret = s.secret;
      next_point = s.next_point;
      heard = s.heard;
    }

-- as it is saved, its base is still within what it holds, and it has no more decisions
pub based_steady : (x : End) → Steady x → Steady (based x)
based_steady x s =
    let base = base_within x s.first_own s.first_peer in
    let fewer = length-filter (is_open (entering x)) x.ledger.decisions in
    let had = s.decisions in
    record {
      first_own = base.0;
      first_peer = base.1;
      undecided = s.undecided;
      there = base_at x s.there;
      events = s.events;
      decisions = omega (arith, fewer, had);
      results = s.results;
      secret = s.secret;
      next_point = s.next_point;
      heard = s.heard;
    }
