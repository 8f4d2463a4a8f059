-- What every step of two ends keeps.
use Rattle.std.proofs.Common.{take, is_some}
use Rattle.std.proofs.Common.{◌≡◌, ℕ, zero, suc, ◌+◌, ◌<◌, ◌≤◌, ◌^◌, List, [], ◌∷◌, ◌++◌, length, refl, sym, ap, ◌∙◌}
use Rattle.std.proofs.Common.{subst, arith, Bool, true, false, cond, not, ◌||◌, ◌==◌, Option, Some, None, inl}
use Rattle.std.proofs.Common.{inr}
use Rattle.std.proofs.lemmas.Bool.{eqb-true}
use Rattle.std.proofs.lemmas.Bool.Decides.{eqb_tells}
use Rattle.ln_msgs.specs.declared.messages.message.Message.{Message}
use Rattle.ln_msgs.specs.declared.messages.message.Message.TheVariants as message
use Rattle.ln_msgs.specs.declared.messages.opening.ChannelReady.{ChannelReady}
use Rattle.ln_msgs.specs.declared.messages.closing.Shutdown.{Shutdown as ShutdownMessage}
use Rattle.ln_msgs.specs.declared.messages.commitments.CommitmentSigned.{CommitmentSigned}
use Rattle.ln_msgs.specs.declared.messages.commitments.RevokeAndAck.{RevokeAndAck}
use Rattle.ln_refusals.specs.declared.refusal.Refusal.TheVariants as refusal
use Rattle.ln_keys.specs.Signer.{Signer}
use Rattle.ln_log.specs.declared.update.Update.{Update as Change}
use Rattle.ln_log.specs.declared.update.Update.TheVariants as update
use Rattle.ln_log.specs.Updates.{as_sent}
use Rattle.ln_log.specs.Limits.{id_fault, is_at_update_limit}
use Rattle.ln_log.specs.Log as log
use Rattle.ln_log.specs.Log.{Counts, proposal_fault}
use Rattle.ln_bytes.specs.declared.short_id.ShortId.{ShortId}
use Rattle.ln_close.specs.Closing.{after_shut}
use Rattle.ln_dance.specs.Dance.{with_next_point, owes, is_last, sign_fault, signed_message, revoked_message}
use Rattle.ln_dance.specs.Messages.{update_message}
use Rattle.ln_dance.specs.Resume.{reestablish_message, signature_again}
use Rattle.ln_channel.specs.Base.{based}
use Rattle.ln_channel.specs.Ledger.{Ledger}
use Rattle.ln_channel.specs.End.{End, is_ready, is_closed, all_acknowledged, shutdown_message}
use Rattle.ln_channel.specs.Taking.{takes, takes_ready, accepts, revokes, shuts_by_peer}
use Rattle.ln_channel.specs.Commands.{ready_message, confirmed, closed_fault, own_fault, propose_fault, proposes}
use Rattle.ln_channel.specs.Commands.{sign_command_fault, signs_next, shut_fault, shuts_down, script_fault}
use Rattle.ln_keys.specs.Partners.{ArePartners}
use Rattle.ln_channel_laws.specs.Promises.{is_add, is_shutdown, AddsBefore}
use Rattle.ln_channel.specs.declared.machine.ConnectionState.{ConnectionState}
use Rattle.ln_channel.specs.declared.machine.ConnectionState.TheVariants.{Down, AwaitingReestablish, Connected}
use Rattle.std.proofs.lemmas.Bool.{eq-eqb}
use Rattle.ln_msgs.specs.declared.messages.closing.ClosingSigned.{ClosingSigned}
use Rattle.ln_log.specs.Log.{same_counts}
use Rattle.ln_channel_laws.proofs.Tests.{parts, both_true, either_false, negated, first_none, no_fault, otherwise}
use Rattle.ln_channel_laws.proofs.Tests.{where_true}
use Rattle.ln_channel_laws.proofs.Closing.NothingMoves.{HasBegun, Ending, covers_all, no_removal, held_none, not_due}
use Rattle.ln_channel_laws.proofs.Closing.NothingMoves.{not_next}
use Rattle.ln_channel_laws.proofs.Closing.NothingMoves.{still, no_proposal}
use Rattle.ln_channel_laws.proofs.Closing.ClosingInFlight.{SignsAll, Closer, closer, Closes, NoCloses, closes-posts}
use Rattle.ln_channel_laws.proofs.Closing.ClosingInFlight.{closes-unsent, one_less}
use Rattle.ln_channel_laws.proofs.Closing.ClosingInFlight.{dealt_closes, ClosesFlow}
use Rattle.ln_channel_laws.proofs.Flight.WalkOverActs.{kept_close, kept_skipped, kept_dealt}
use Rattle.ln_channel_laws.proofs.Readiness.ReadinessOverActs.{IsStill, readiness_close, readiness_skipped}
use Rattle.ln_channel_laws.proofs.Readiness.ReadinessOverActs.{readiness_dealt}
use Rattle.ln_channel_laws.proofs.Flight.Sides.{Close, closes_of, dealt, has_bid}
use Rattle.ln_channel_laws.proofs.Flight.Sides.{Both, Notice, Update, Sign, Revoke, Ready, Shutdown, Side, posts, opens}
use Rattle.ln_channel_laws.proofs.Flight.Sides.{received}
use Rattle.ln_channel_laws.proofs.Flight.Sides.{proposed, signed_all, accepted_all, acknowledged_all}
use Rattle.ln_channel_laws.proofs.Flight.Walk.{Phase, Idle, Sent, Answered, holds, sender, Reads, LacksNothing}
use Rattle.ln_channel_laws.proofs.Flight.Walk.{Anywhere}
use Rattle.ln_channel_laws.proofs.Flight.Walk.{Carries}
use Rattle.ln_channel_laws.proofs.Flight.Walk.{BothFlow}
use Rattle.ln_channel_laws.proofs.Flight.Reading.{reads-to}
use Rattle.ln_channel_laws.proofs.Readiness.ReadinessInFlight.{IsAllowed, ReadsReadiness, AllReadiness}
use Rattle.ln_channel_laws.proofs.Readiness.ReadinessInFlight.{AnyReadiness, readiness_of}
use Rattle.ln_channel_laws.proofs.Readiness.ReadinessInFlight.{CarriesReadiness}
use Rattle.ln_channel_laws.proofs.Readiness.ReadinessInFlight.{BothReadiness}
use Rattle.ln_channel_laws.proofs.Flight.WalkOverActs.{revoked_for, carries_first, kept_proposed, kept_signed}
use Rattle.ln_channel_laws.proofs.Flight.WalkOverActs.{kept_update}
use Rattle.ln_channel_laws.proofs.Flight.WalkOverActs.{kept_sign}
use Rattle.ln_channel_laws.proofs.Flight.WalkOverActs.{kept_revoke, kept_ready, kept_shutdown, kept_confirmed}
use Rattle.ln_channel_laws.proofs.Flight.WalkOverActs.{kept_shut}
use Rattle.ln_channel_laws.proofs.Readiness.ReadinessOverActs.{readiness-any, readiness_proposed}
use Rattle.ln_channel_laws.proofs.Readiness.ReadinessOverActs.{readiness_signed, readiness_update}
use Rattle.ln_channel_laws.proofs.Readiness.ReadinessOverActs.{readiness_sign}
use Rattle.ln_channel_laws.proofs.Readiness.ReadinessOverActs.{readiness_revoke}
use Rattle.ln_channel_laws.proofs.Readiness.ReadinessOverActs.{readiness_ready, readiness_shutdown}
use Rattle.ln_channel_laws.proofs.Readiness.ReadinessOverActs.{readiness_confirmed, readiness_shut}
use Rattle.ln_channel_laws.proofs.Readiness.ReadinessOverActs.{allowed_own}
use Rattle.ln_channel_laws.proofs.Flight.Images.{side_of, length-sent, proposes_so, takes_so, signs_so, accepts_so}
use Rattle.ln_channel_laws.proofs.Flight.DueRows.{proposal_fits, IsTold, revoked_so, next_told}

-- ---- what is said

-- whether a shutdown stands among the messages, or before them
abbrev pub shut_in : Bool → List Message → Bool
shut_in shut [] = shut
shut_in shut (m ∷ ms) = shut_in (shut || is_shutdown m) ms

pub record Said (shut : Bool) (said : List Message) : Type 0 where
  pub adds : AddsBefore false said
  pub told : shut_in false said ≡ true → shut ≡ true

pub adds-more : (shut : Bool) (ms ns : List Message) → AddsBefore shut ms → AddsBefore (shut_in shut ms) ns
    → AddsBefore shut (ms ++ ns)
adds-more shut [] ns h k = k
adds-more shut (m ∷ ms) ns h k = (h.0, adds-more (shut || is_shutdown m) ms ns h.1 k)

pub shut-more : (shut : Bool) (ms ns : List Message) → shut_in shut (ms ++ ns) ≡ shut_in (shut_in shut ms) ns
shut-more shut [] ns = refl
shut-more shut (m ∷ ms) ns = shut-more (shut || is_shutdown m) ms ns

not_before : (s shut : Bool) → (s ≡ true → shut ≡ true) → shut ≡ false → s ≡ false
not_before true shut f e = absurd (let d : true ≡ false = sym (f refl) ∙ e in cc)
not_before false shut f e = refl

either_one : (s t shut now : Bool) → (s ≡ true → shut ≡ true) → (shut ≡ true → now ≡ true) → (t ≡ true → now ≡ true)
    → (s || t) ≡ true → now ≡ true
either_one true t shut now f g h e = g (f refl)
either_one false t shut now f g h e = h e

pub said_more : (shut now : Bool) (said : List Message) (m : Message) → (is_add m ≡ true → shut ≡ false)
    → (shut ≡ true → now ≡ true) → (is_shutdown m ≡ true → now ≡ true) → Said shut said → Said now (said ++ m ∷ [])
said_more shut now said m a keeps t s = record {
  adds = adds-more false said (m ∷ []) s.adds (λ e. not_before (shut_in false said) shut s.told (a e), tt);
  told = λ e. either_one (shut_in false said) (is_shutdown m) shut now s.told keeps t
      (sym (shut-more false said (m ∷ [])) ∙ e);
}

-- ---- what each end knows of the other

-- a script was taken with the peer's shutdown
abbrev pub IsScript : Bool → Option (List ℕ) → List ℕ → Type 0
IsScript true taken script = taken ≡ Some script
IsScript false taken script = taken ≡ None

-- x has the points of y, whose keys are k
pub record Knows (k : Signer) (x y : End) : Type 0 where
  pub point : x.dance.peer.point ≡ k.point_of x.dance.numbers.revoked
  pub next_point : x.readiness.ready_received ≡ true
      → x.dance.peer.next_point ≡ k.point_of (x.dance.numbers.revoked + 1)
  pub below : x.dance.numbers.signed < 2 ^ 48
  pub script : IsScript x.closing.peer_shut x.terms.peer_script y.terms.script
  pub secret : (n : ℕ) → x.dance.numbers.revoked ≡ n + 1 → x.dance.peer.secret ≡ Some (k.secret_of n)

-- ---- the whole

abbrev pub both : ConnectionState → ConnectionState → Side → Side → List Notice → List Notice → Both
both lx ly x y to_x to_y = record { x_link = lx; y_link = ly; x = x; y = y; to_x = to_x; to_y = to_y }

pub record Hold (a b : Signer) (channel : List ℕ) (lx ly : ConnectionState) (x y : End) (to_x to_y : List Notice)
    (said_x said_y : List Message) : Type 0 where
  pub kept : BothFlow (both lx ly (side_of a x) (side_of b y) to_x to_y)
  pub told : BothReadiness (both lx ly (side_of a x) (side_of b y) to_x to_y)
  pub ended : Ending (side_of a x) (side_of b y)
  pub ended_back : Ending (side_of b y) (side_of a x)
  pub closes : ClosesFlow a x.closing.fees (side_of a x) (side_of b y) to_y
  pub closes_back : ClosesFlow b y.closing.fees (side_of b y) (side_of a x) to_x
  pub x_signs : SignsAll a x.closing.fees (side_of a x).close_message
  pub y_signs : SignsAll b y.closing.fees (side_of b y).close_message
  pub x_channel : x.dance.channel ≡ channel
  pub y_channel : y.dance.channel ≡ channel
  pub x_knows : Knows b x y
  pub y_knows : Knows a y x
  pub x_said : Said x.closing.shut said_x
  pub y_said : Said y.closing.shut said_y

pub flip : (a b : Signer) (channel : List ℕ) (lx ly : ConnectionState) (x y : End) (to_x to_y : List Notice)
    (said_x said_y : List Message) → Hold a b channel lx ly x y to_x to_y said_x said_y
    → Hold b a channel ly lx y x to_y to_x said_y said_x
flip a b channel lx ly x y to_x to_y said_x said_y h = record {
  kept = record { there = h.kept.back; back = h.kept.there };
  told = record { there = h.told.back; back = h.told.there };
  ended = h.ended_back;
  ended_back = h.ended;
  closes = h.closes_back;
  closes_back = h.closes;
  x_signs = h.y_signs;
  y_signs = h.x_signs;
  x_channel = h.y_channel;
  y_channel = h.x_channel;
  x_knows = h.y_knows;
  y_knows = h.x_knows;
  x_said = h.y_said;
  y_said = h.x_said;
}

-- what x tells of its events changes nothing of it
pub numbered : (a b : Signer) (channel : List ℕ) (lx ly : ConnectionState) (x y : End) (to_x to_y : List Notice)
    (said_x said_y : List Message) (l : Ledger) → Hold a b channel lx ly x y to_x to_y said_x said_y
    → Hold a b channel lx ly (record x { ledger = l }) y to_x to_y said_x said_y
numbered a b channel lx ly x y to_x to_y said_x said_y l h = record {
  kept = h.kept;
  told = h.told;
  ended = h.ended;
  ended_back = h.ended_back;
  closes = h.closes;
  closes_back = h.closes_back;
  x_signs = h.x_signs;
  y_signs = h.y_signs;
  x_channel = h.x_channel;
  y_channel = h.y_channel;
  x_knows = record {
    point = h.x_knows.point;
    next_point = h.x_knows.next_point;
    below = h.x_knows.below;
    script = h.x_knows.script;
    secret = h.x_knows.secret;
  };
  y_knows = record {
    point = h.y_knows.point;
    next_point = h.y_knows.next_point;
    below = h.y_knows.below;
    script = h.y_knows.script;
    secret = h.y_knows.secret;
  };
  x_said = h.x_said;
  y_said = h.y_said;
}

-- nor does the base of its updates
pub rebased : (a b : Signer) (channel : List ℕ) (lx ly : ConnectionState) (x y : End) (to_x to_y : List Notice)
    (said_x said_y : List Message) → Hold a b channel lx ly x y to_x to_y said_x said_y
    → Hold a b channel lx ly (based x) y to_x to_y said_x said_y
rebased a b channel lx ly x y to_x to_y said_x said_y h = record {
  kept = h.kept;
  told = h.told;
  ended = h.ended;
  ended_back = h.ended_back;
  closes = h.closes;
  closes_back = h.closes_back;
  x_signs = h.x_signs;
  y_signs = h.y_signs;
  x_channel = h.x_channel;
  y_channel = h.y_channel;
  x_knows = record {
    point = h.x_knows.point;
    next_point = h.x_knows.next_point;
    below = h.x_knows.below;
    script = h.x_knows.script;
    secret = h.x_knows.secret;
  };
  y_knows = record {
    point = h.y_knows.point;
    next_point = h.y_knows.next_point;
    below = h.y_knows.below;
    script = h.y_knows.script;
    secret = h.y_knows.secret;
  };
  x_said = h.x_said;
  y_said = h.y_said;
}

pub revoked_within : (s a c : ℕ) (acked signed current : Counts) → Phase s a c acked signed current → a ≤ s
revoked_within s a c acked signed current (Idle e1 e2 e3 e4 e5 e6) = omega (arith, e1)
revoked_within s a c acked signed current (Sent e1 e2 e3 e4) = omega (arith, e1)
revoked_within s a c acked signed current (Answered e1 e2 e3 e4) = omega (arith, e1)

none_signed : (s c : ℕ) → (1 ≤ s → ⊥) → s ≤ c
none_signed zero c f = omega arith
none_signed (suc s) c f = absurd (f (omega arith))

none_at : (s : ℕ) → (1 ≤ s → ⊥) → s ≡ 0
none_at zero f = refl
none_at (suc s) f = absurd (f (omega arith))

same_script : (s : Bool) (o : Option (List ℕ)) (t u : List ℕ) → (s ≡ true → ⊥) → IsScript s o t → IsScript s o u
same_script true o t u f h = absurd (f refl)
same_script false o t u f h = h

pub sent_as : (channel : List ℕ) (u : Change) → update_message channel (as_sent u) ≡ update_message channel u
sent_as channel (update.Add d) = refl
sent_as channel (update.Fulfil d) = refl
sent_as channel (update.Fail d) = refl
sent_as channel (update.Malformed d) = refl
sent_as channel (update.Fee d) = refl

still_open : (e : End) (u : Change) → closed_fault e u ≡ None → IsAllowed (opens (as_sent u)) e.closing.shut
still_open e (update.Add d) h = either_false e.closing.shut e.closing.peer_shut
    (no_fault (e.closing.shut || e.closing.peer_shut) refusal.Shut h)
still_open e (update.Fulfil d) h = tt
still_open e (update.Fail d) h = tt
still_open e (update.Malformed d) h = tt
still_open e (update.Fee d) h = either_false e.closing.shut e.closing.peer_shut
    (no_fault (e.closing.shut || e.closing.peer_shut) refusal.Shut h)

an_add : (channel : List ℕ) (e : End) (u : Change) → closed_fault e u ≡ None → is_add (update_message channel u) ≡ true
    → e.closing.shut ≡ false
an_add channel e (update.Add d) h i = either_false e.closing.shut e.closing.peer_shut
    (no_fault (e.closing.shut || e.closing.peer_shut) refusal.Shut h)
an_add channel e (update.Fulfil d) h i = absurd (cc)
an_add channel e (update.Fail d) h i = absurd (cc)
an_add channel e (update.Malformed d) h i = absurd (cc)
an_add channel e (update.Fee d) h i = absurd (cc)

no_shutdown : (channel : List ℕ) (u : Change) → is_shutdown (update_message channel u) ≡ true → ⊥
no_shutdown channel (update.Add d) e = absurd (cc)
no_shutdown channel (update.Fulfil d) e = absurd (cc)
no_shutdown channel (update.Fail d) e = absurd (cc)
no_shutdown channel (update.Malformed d) e = absurd (cc)
no_shutdown channel (update.Fee d) e = absurd (cc)

small_still : (n : ℕ) → n < 2 ^ 48 → is_last n ≡ false → n + 1 < 2 ^ 48
small_still n below e = elim (eqb_tells n 281474976710655) [
  | inl g ↦ absurd (let is : true ≡ false = sym g.0 ∙ e in cc)
  | inr g ↦ (let is = g.1 in omega (arith, below, is))
]

-- what is in front, for an end that has met the other
pub front_reads : (ly : ConnectionState) (x y : Side) (n : Notice) (ns : List Notice) → Carries ly y x (n ∷ ns)
    → Reads (sender y) x.own (holds x) x.signed.own Anywhere x.got x.acked.own x.number x.revocations (n ∷ ns)
front_reads Down x y n ns h = h
front_reads AwaitingReestablish x y n ns h = absurd (cc (h.0))
front_reads Connected x y n ns h = reads-to (sender y) x.own (holds x) x.signed.own
    (LacksNothing y.own y.current.peer y.signatures y.number) Anywhere x.got x.acked.own x.number x.revocations
    (n ∷ ns) (λ g b d s l. tt) h

pub front_told : (ly : ConnectionState) (x y : Side) (n : Notice) (ns : List Notice) → CarriesReadiness ly y x (n ∷ ns)
    → ReadsReadiness (readiness_of y x) AnyReadiness x.peer_ready x.peer_shut (n ∷ ns)
front_told Down x y n ns h = h
front_told AwaitingReestablish x y n ns h = absurd (cc)
front_told Connected x y n ns h = readiness-any (readiness_of y x) (AllReadiness y.ready y.shut x.closed) x.peer_ready
    x.peer_shut
    (n ∷ ns) h

unsigned : (q s : Bool) → cond q (cond s (Some refusal.NothingToSign) None) (Some refusal.SignatureOutstanding) ≡ None
    → (q ≡ true) × (s ≡ false)
unsigned true true e = absurd (cc)
unsigned true false e = (refl, refl)
unsigned false s e = absurd (cc)

module _ (a b : Signer) (keys : ArePartners a b) (channel : List ℕ) (ly : ConnectionState) (x y : End)
    (said_x said_y : List Message) where
  abbrev x_side : Side
  x_side = side_of a x

  abbrev y_side : Side
  y_side = side_of b y

  -- where x has become n, whose image is this
  moved : (n : End) (side : Side) (to_x to_y rest sent : List Notice) (said : List Message) → side_of a n ≡ side
      → Hold a b channel Connected ly x y to_x to_y said_x said_y
      → n.closing.fees ≡ x.closing.fees → ClosesFlow a x.closing.fees side (side_of b y) sent
      → ClosesFlow b y.closing.fees (side_of b y) side rest → SignsAll a x.closing.fees side.close_message
      → BothFlow (both Connected ly side (side_of b y) rest sent)
      → BothReadiness (both Connected ly side (side_of b y) rest sent)
      → Ending side (side_of b y) → Ending (side_of b y) side
      → n.dance.channel ≡ x.dance.channel → Knows b n y → Knows a y n → Said n.closing.shut said
      → Hold a b channel Connected ly n y rest sent said said_y
  moved n side to_x to_y rest sent said e h fs cl clb sg k t d db c kn kp s = record {
    kept = subst (λ z. BothFlow (both Connected ly z (side_of b y) rest sent)) (sym e) k;
    told = subst (λ z. BothReadiness (both Connected ly z (side_of b y) rest sent)) (sym e) t;
    ended = subst (λ z. Ending z (side_of b y)) (sym e) d;
    ended_back = subst (λ z. Ending (side_of b y) z) (sym e) db;
    closes = subst (λ f. ClosesFlow a f (side_of a n) (side_of b y) sent) (sym fs)
        (subst (λ z. ClosesFlow a x.closing.fees z (side_of b y) sent) (sym e) cl);
    closes_back = subst (λ z. ClosesFlow b y.closing.fees (side_of b y) z rest) (sym e) clb;
    x_signs = subst (λ f. SignsAll a f (side_of a n).close_message) (sym fs)
        (subst (λ (z : Side). SignsAll a x.closing.fees z.close_message) (sym e) sg);
    y_signs = h.y_signs;
    x_channel = c ∙ h.x_channel;
    y_channel = h.y_channel;
    x_knows = kn;
    y_knows = kp;
    x_said = s;
    y_said = h.y_said;
  }

  -- of an end that has begun nothing moves: what x becomes by such a step
  unmoved : (n : Side) → (HasBegun (side_of a x) → ⊥)
      → (n.signatures ≡ n.revocations + 1 → n.acked.own ≡ n.signed.own → n.acked.peer ≡ n.signed.peer → ⊥)
      → has_bid n ≡ has_bid (side_of a x) → n.closed ≡ (side_of a x).closed → Ending (side_of a x) (side_of b y)
      → Ending n (side_of b y)
  unmoved n none news eb ec e = record {
    news = news;
    begun = λ q. absurd (none (e.begun (sym eb ∙ q)));
    closed = λ q. absurd (none (e.closed (sym ec ∙ q)));
    answered = λ q. eb ∙ e.answered q;
  }

  back_same : (n : Side) → n.closed ≡ (side_of a x).closed → Ending (side_of b y) (side_of a x) → Ending (side_of b y) n
  back_same n ec e = record {
    news = e.news;
    begun = e.begun;
    closed = e.closed;
    answered = λ q. e.answered (sym ec ∙ q);
  }

  -- y isn't closed while x may still move
  not_closed : (HasBegun (side_of a x) → ⊥) → Ending (side_of a x) (side_of b y) → (c : Bool) → (side_of b y).closed ≡ c
      → (side_of b y).closed ≡ false
  not_closed none e true q = absurd (none (e.begun (e.answered q)))
  not_closed none e false q = q

  not_bid : (HasBegun (side_of a x) → ⊥) → Ending (side_of a x) (side_of b y) → (c : Bool) → has_bid (side_of a x) ≡ c
      → has_bid (side_of a x) ≡ false
  not_bid none e true q = absurd (none (e.begun q))
  not_bid none e false q = q

  -- x sends no closing_signed
  posted_due : (new to_y : List Notice) → NoCloses new → ClosesFlow a x.closing.fees (side_of a x) (side_of b y) to_y
      → ClosesFlow a x.closing.fees (side_of a x) (side_of b y) (posts ly new to_y)
  posted_due new to_y n h = closes-posts a x.closing.fees ly (closer x_side) y_side.revocations y_side.peer_shut
      (length y_side.got) new to_y n h

  -- nor has it sent one
  moved_due : (v : Closer) (new to_y : List Notice) → NoCloses new → has_bid (side_of a x) ≡ false
      → ClosesFlow a x.closing.fees (side_of a x) (side_of b y) to_y
      → Closes a x.closing.fees v y_side.revocations y_side.peer_shut (length y_side.got) (posts ly new to_y)
  moved_due v new to_y n e h = closes-posts a x.closing.fees ly v y_side.revocations y_side.peer_shut
      (length y_side.got) new to_y n (closes-unsent a x.closing.fees (closer x_side) v y_side.revocations
      y_side.peer_shut (length y_side.got) to_y e h)

  -- ---- x takes an update

  pub took_update : (u : Change) (ns to_y : List Notice)
      → Hold a b channel Connected ly x y (Update u ∷ ns) to_y said_x said_y
      → Hold a b channel Connected ly (takes u x) y ns to_y said_x said_y
  took_update u ns to_y h =
      let l = x.dance.log in
      let f = h.kept.there in
      let fits = (front_reads ly x_side y_side (Update u) ns h.kept.back.flight).0 in
      let allowed = (front_told ly x_side y_side (Update u) ns h.told.back.flight).2 in
      let none : HasBegun x_side → ⊥ = λ q. no_removal y_side.opening y_side.role x_side.got
      (take x_side.acked.own x_side.own) (holds x_side) u (held_none x_side q)
      (allowed_own (opens u) x_side.peer_shut allowed q.shut_taken) fits in
      moved (takes u x) (received u (side_of a x)) (Update u ∷ ns) to_y ns to_y said_x
      (takes_so a x u fits.sent (omega (arith, f.within.peer_signed, f.within.peer_current, length-sent l.received)))
      h
      refl h.closes (one_less b y.closing.fees (closer y_side) x_side.revocations x_side.peer_shut x_side.got u ns
      h.closes_back) h.x_signs
      (kept_update ly (side_of a x) (side_of b y) u ns to_y h.kept)
      (readiness_update ly (side_of a x) (side_of b y) u ns to_y h.told)
      (unmoved (received u x_side) none h.ended.news refl refl h.ended)
      (back_same (received u x_side) refl h.ended_back)
      refl
      (record {
        point = h.x_knows.point;
        next_point = h.x_knows.next_point;
        below = h.x_knows.below;
        script = h.x_knows.script;
        secret = h.x_knows.secret;
      })
      (record {
        point = h.y_knows.point;
        next_point = h.y_knows.next_point;
        below = h.y_knows.below;
        script = h.y_knows.script;
        secret = h.y_knows.secret;
      })
      h.x_said

  -- ---- a signature

  pub took_sign : (m : CommitmentSigned) (ns to_y : List Notice)
      → Hold a b channel Connected ly x y (Sign m ∷ ns) to_y said_x said_y
      → Hold a b channel Connected ly (accepts x) y ns (posts ly (Revoke (revoked_message a x.dance) ∷ []) to_y)
      (said_x ++ message.RevokeAndAck (revoked_message a x.dance) ∷ []) said_y
  took_sign m ns to_y h =
      let z = revoked_message a x.dance in
      let due = (front_reads ly x_side y_side (Sign m) ns h.kept.back.flight).0 in
      let none : HasBegun x_side → ⊥ = λ q. not_due Connected ly x_side y_side (Sign m ∷ ns)
      h.kept.back h.ended_back q m due in
      moved (accepts x) (accepted_all z (reestablish_message a (accepts x).dance) x_side) (Sign m ∷ ns) to_y ns
      (posts ly (Revoke z ∷ []) to_y) (said_x ++ message.RevokeAndAck z ∷ []) (accepts_so a x) h
      refl (moved_due (closer (accepted_all z (reestablish_message a (accepts x).dance) x_side)) (Revoke z ∷ []) to_y tt
      (not_bid none h.ended (has_bid x_side) refl) h.closes) h.closes_back h.x_signs
      (kept_sign ly z (reestablish_message a (accepts x).dance) x_side y_side m ns to_y h.kept)
      (readiness_sign ly z (reestablish_message a (accepts x).dance) x_side y_side m ns to_y h.told)
      (unmoved (accepted_all z (reestablish_message a (accepts x).dance) x_side) none h.ended.news refl refl h.ended)
      (back_same (accepted_all z (reestablish_message a (accepts x).dance) x_side) refl h.ended_back)
      refl
      (record {
        point = h.x_knows.point;
        next_point = h.x_knows.next_point;
        below = h.x_knows.below;
        script = h.x_knows.script;
        secret = h.x_knows.secret;
      })
      (record {
        point = h.y_knows.point;
        next_point = h.y_knows.next_point;
        below = h.y_knows.below;
        script = h.y_knows.script;
        secret = h.y_knows.secret;
      })
      (said_more x.closing.shut x.closing.shut said_x (message.RevokeAndAck z) (λ e. absurd (cc)) (λ e. e)
      (λ e. absurd (cc)) h.x_said)

  -- ---- a revocation

  pub outstanding : (m : RevokeAndAck) (ns to_y : List Notice)
      → Hold a b channel Connected ly x y (Revoke m ∷ ns) to_y said_x said_y
      → x.dance.numbers.signed ≡ x.dance.numbers.revoked + 1
  outstanding m ns to_y h = (revoked_for x_side.signatures x_side.revocations y_side.number x_side.acked x_side.signed
      y_side.current (front_reads ly x_side y_side (Revoke m) ns h.kept.back.flight).0.next h.kept.there.phase).0

  pub is_told : (m : RevokeAndAck) (ns to_y : List Notice)
      → Hold a b channel Connected ly x y (Revoke m ∷ ns) to_y said_x said_y → IsTold b x.dance y.dance m
  is_told m ns to_y h = revoked_so b x.dance y.dance m
      (front_reads ly x_side y_side (Revoke m) ns h.kept.back.flight).0.named
      (front_reads ly x_side y_side (Revoke m) ns h.kept.back.flight).0.next h.x_knows.point

  pub took_revoke : (m : RevokeAndAck) (ns to_y : List Notice)
      → Hold a b channel Connected ly x y (Revoke m ∷ ns) to_y said_x said_y
      → Hold a b channel Connected ly (revokes m x) y ns to_y said_x said_y
  took_revoke m ns to_y h =
      let z = signature_again a (revokes m x).dance in
      let one = outstanding m ns to_y h in
      let next = (front_reads ly x_side y_side (Revoke m) ns h.kept.back.flight).0 in
      let none : HasBegun x_side → ⊥ = λ q. not_next Connected ly x_side y_side to_y h.kept.there h.ended q m next in
      moved (revokes m x) (acknowledged_all z (reestablish_message a (revokes m x).dance) x_side) (Revoke m ∷ ns)
      to_y ns to_y said_x refl h
      refl h.closes h.closes_back h.x_signs
      (kept_revoke ly z (reestablish_message a (revokes m x).dance) x_side y_side m ns to_y h.kept)
      (readiness_revoke ly z (reestablish_message a (revokes m x).dance) x_side y_side m ns to_y
      h.kept.there.within.own_acked h.told)
      (unmoved (acknowledged_all z (reestablish_message a (revokes m x).dance) x_side) none
      (λ e f g. absurd (omega (arith, e, one))) refl refl h.ended)
      (back_same (acknowledged_all z (reestablish_message a (revokes m x).dance) x_side) refl h.ended_back)
      refl
      (record {
        point = h.x_knows.next_point (h.told.there.used_signature (omega (arith, one))).taken;
        next_point = λ e. next_told b x.dance y.dance m (is_told m ns to_y h);
        below = h.x_knows.below;
        script = h.x_knows.script;
        secret = λ n e. ap (λ (q : RevokeAndAck). Some q.secret) (is_told m ns to_y h).1
            ∙ ap (λ i. Some (b.secret_of i)) (let i : x.dance.numbers.revoked ≡ n = omega (arith, e) in i);
      })
      (record {
        point = h.y_knows.point;
        next_point = h.y_knows.next_point;
        below = h.y_knows.below;
        script = h.y_knows.script;
        secret = h.y_knows.secret;
      })
      h.x_said

  -- ---- channel_ready

  took_open : x.readiness.ready_received ≡ false → is_closed x ≡ false → (m : ChannelReady) (ns to_y : List Notice)
      → Hold a b channel Connected ly x y (Ready m ∷ ns) to_y said_x said_y
      → Hold a b channel Connected ly (takes_ready m x) y ns to_y said_x said_y
  took_open e unclosed m ns to_y h =
      let n : End = record x {
        readiness = record {
          short_id = x.readiness.short_id;
          ready_sent = x.readiness.ready_sent;
          ready_received = true;
        };
        dance = with_next_point m.second_point x.dance;
      } in
      let none : 1 ≤ x.dance.numbers.signed → ⊥ = λ i. absurd (let d : false ≡ true = sym e
      ∙ (h.told.there.used_signature i).taken in cc) in
      let zero_signed : x.dance.numbers.signed ≡ 0 = none_at x.dance.numbers.signed none in
      let within = revoked_within x_side.signatures x_side.revocations y_side.number x_side.acked x_side.signed
      y_side.current h.kept.there.phase in
      let first : x.dance.numbers.revoked + 1 ≡ 1 = omega (arith, zero_signed, within) in
      let goes : takes_ready m x ≡ n = ap (λ (r : Bool). cond (r || is_closed x) x n) e
      ∙ ap (λ (r : Bool). cond r x n) unclosed in
      let told : m ≡ ready_message b y = (front_told ly x_side y_side (Ready m) ns h.told.back.flight).1 in
      subst (λ q. Hold a b channel Connected ly q y ns to_y said_x said_y) (sym goes)
      (moved n (record x_side { peer_ready = true; signature = signature_again a n.dance }) (Ready m ∷ ns)
      to_y ns to_y said_x refl h
      refl h.closes h.closes_back h.x_signs
      (kept_ready ly m (signature_again a n.dance) x_side y_side ns to_y
      (λ os k. carries_first (signature_again a n.dance) x_side y_side os
      (none_signed x.dance.numbers.signed y_side.number none) k) h.kept)
      (readiness_ready ly m (signature_again a n.dance) x_side y_side ns to_y h.told)
      (record { news = h.ended.news; begun = h.ended.begun; closed = h.ended.closed; answered = h.ended.answered })
      (record {
        news = h.ended_back.news;
        begun = h.ended_back.begun;
        closed = h.ended_back.closed;
        answered = h.ended_back.answered;
      })
      refl
      (record {
        point = h.x_knows.point;
        next_point = λ d. ap (λ (q : ChannelReady). q.second_point) told ∙ ap b.point_of (sym first);
        below = h.x_knows.below;
        script = h.x_knows.script;
        secret = h.x_knows.secret;
      })
      (record {
        point = h.y_knows.point;
        next_point = h.y_knows.next_point;
        below = h.y_knows.below;
        script = h.y_knows.script;
        secret = h.y_knows.secret;
      })
      h.x_said)

  -- a closed end passes it over
  took_closed : is_closed x ≡ true → (m : ChannelReady) (ns to_y : List Notice)
      → Hold a b channel Connected ly x y (Ready m ∷ ns) to_y said_x said_y
      → Hold a b channel Connected ly x y ns to_y said_x said_y
  took_closed is m ns to_y h =
      let nothing : IsStill (Ready m ∷ ns) = still ly x_side y_side to_y (Ready m ∷ ns) h.kept.there h.kept.back
      h.told.back h.ended h.ended_back (h.ended.closed is) in
      record {
        kept = kept_skipped ly m x_side y_side ns to_y h.kept;
        told = readiness_skipped ly m x_side y_side ns to_y is nothing h.told;
        ended = h.ended;
        ended_back = h.ended_back;
        closes = h.closes;
        closes_back = h.closes_back;
        x_signs = h.x_signs;
        y_signs = h.y_signs;
        x_channel = h.x_channel;
        y_channel = h.y_channel;
        x_knows = h.x_knows;
        y_knows = h.y_knows;
        x_said = h.x_said;
        y_said = h.y_said;
      }

  or_true : (r : Bool) → (r || true) ≡ true
  or_true true = refl
  or_true false = refl

  took_unready : (c : Bool) → is_closed x ≡ c → x.readiness.ready_received ≡ false
      → (m : ChannelReady) (ns to_y : List Notice) → Hold a b channel Connected ly x y (Ready m ∷ ns) to_y said_x said_y
      → Hold a b channel Connected ly (takes_ready m x) y ns to_y said_x said_y
  took_unready true is e m ns to_y h =
      let n : End = record x {
        readiness = record {
          short_id = x.readiness.short_id;
          ready_sent = x.readiness.ready_sent;
          ready_received = true;
        };
        dance = with_next_point m.second_point x.dance;
      } in
      let same : takes_ready m x ≡ x = ap (λ (c : Bool). cond (x.readiness.ready_received || c) x n) is
      ∙ ap (λ (c : Bool). cond c x n) (or_true x.readiness.ready_received) in
      subst (λ q. Hold a b channel Connected ly q y ns to_y said_x said_y) (sym same) (took_closed is m ns to_y h)
  took_unready false is e m ns to_y h = took_open e is m ns to_y h

  took_ready_by : (r : Bool) → x.readiness.ready_received ≡ r → (m : ChannelReady) (ns to_y : List Notice)
      → Hold a b channel Connected ly x y (Ready m ∷ ns) to_y said_x said_y
      → Hold a b channel Connected ly (takes_ready m x) y ns to_y said_x said_y
  took_ready_by true e m ns to_y h =
      let same : takes_ready m x ≡ x = ap (λ (r : Bool). cond (r
      || is_closed x) x (record x {
        readiness = record {
          short_id = x.readiness.short_id;
          ready_sent = x.readiness.ready_sent;
          ready_received = true;
        };
        dance = with_next_point m.second_point x.dance;
      })) e in
      subst (λ n. Hold a b channel Connected ly n y ns to_y said_x said_y) (sym same)
      (moved x (record x_side { peer_ready = true; signature = x_side.signature }) (Ready m ∷ ns) to_y ns to_y said_x
      (ap (λ r. record x_side { peer_ready = r }) e) h
      refl h.closes h.closes_back h.x_signs
      (kept_ready ly m x_side.signature x_side y_side ns to_y (λ os k. k) h.kept)
      (readiness_ready ly m x_side.signature x_side y_side ns to_y h.told)
      (record { news = h.ended.news; begun = h.ended.begun; closed = h.ended.closed; answered = h.ended.answered })
      (record {
        news = h.ended_back.news;
        begun = h.ended_back.begun;
        closed = h.ended_back.closed;
        answered = h.ended_back.answered;
      })
      refl h.x_knows h.y_knows h.x_said)
  took_ready_by false e m ns to_y h = took_unready (is_closed x) refl e m ns to_y h

  pub took_ready : (m : ChannelReady) (ns to_y : List Notice)
      → Hold a b channel Connected ly x y (Ready m ∷ ns) to_y said_x said_y
      → Hold a b channel Connected ly (takes_ready m x) y ns to_y said_x said_y
  took_ready m ns to_y h = took_ready_by x.readiness.ready_received refl m ns to_y h

  -- ---- shutdown

  taken_shut : HasBegun x_side → HasBegun (record x_side { peer_shut = true })
  taken_shut q = record {
    shut_sent = q.shut_sent;
    shut_taken = refl;
    own_acked = q.own_acked;
    own_current = q.own_current;
    peer_current = q.peer_current;
    peer_acked = q.peer_acked;
    none_own =
        q.none_own;
    none_got = q.none_got;
  }

  shut_ended : Ending x_side y_side → Ending (record x_side { peer_shut = true }) y_side
  shut_ended e = record {
    news = e.news;
    begun = λ q. taken_shut (e.begun q);
    closed = λ q. taken_shut (e.closed q);
    answered = e.answered;
  }

  -- a repeated one changes nothing
  pub took_shutdown_again : (m : ShutdownMessage) (ns to_y : List Notice) → x.closing.peer_shut ≡ true
      → Hold a b channel Connected ly x y (Shutdown m ∷ ns) to_y said_x said_y
      → Hold a b channel Connected ly x y ns to_y said_x said_y
  took_shutdown_again m ns to_y e h =
      moved x (record x_side { peer_shut = true }) (Shutdown m ∷ ns) to_y ns to_y said_x
      (ap (λ r. record x_side { peer_shut = r }) e) h
      refl h.closes h.closes_back h.x_signs
      (kept_shutdown ly m x_side y_side ns to_y h.kept)
      (readiness_shutdown ly m x_side y_side ns to_y h.told)
      (shut_ended h.ended) (record {
        news = h.ended_back.news;
        begun = h.ended_back.begun;
        closed = h.ended_back.closed;
        answered = h.ended_back.answered;
      })
      refl h.x_knows h.y_knows h.x_said

  pub took_shutdown : (m : ShutdownMessage) (ns to_y : List Notice)
      → Hold a b channel Connected ly x y (Shutdown m ∷ ns) to_y said_x said_y
      → Hold a b channel Connected ly (shuts_by_peer m x) y ns to_y said_x said_y
  took_shutdown m ns to_y h =
      let told : m ≡ shutdown_message y = (front_told ly x_side y_side (Shutdown m) ns h.told.back.flight).1 in
      moved (shuts_by_peer m x) (record x_side { peer_shut = true }) (Shutdown m ∷ ns) to_y ns to_y said_x refl h
      refl h.closes h.closes_back h.x_signs
      (kept_shutdown ly m x_side y_side ns to_y h.kept)
      (readiness_shutdown ly m x_side y_side ns to_y h.told)
      (shut_ended h.ended) (record {
        news = h.ended_back.news;
        begun = h.ended_back.begun;
        closed = h.ended_back.closed;
        answered = h.ended_back.answered;
      })
      refl
      (record {
        point = h.x_knows.point;
        next_point = h.x_knows.next_point;
        below = h.x_knows.below;
        script = ap (λ (q : ShutdownMessage). Some q.script) told;
        secret = h.x_knows.secret;
      })
      (record {
        point = h.y_knows.point;
        next_point = h.y_knows.next_point;
        below = h.y_knows.below;
        script = h.y_knows.script;
        secret = h.y_knows.secret;
      })
      h.x_said

  -- ---- what x does by itself

  pub confirms : (id : ShortId) (to_x to_y : List Notice) → Hold a b channel Connected ly x y to_x to_y said_x said_y
      → Hold a b channel Connected ly (confirmed id x) y to_x (posts ly (Ready (ready_message a x) ∷ []) to_y)
      (said_x ++ message.ChannelReady (ready_message a x) ∷ []) said_y
  confirms id to_x to_y h =
      moved (confirmed id x) (record x_side { ready = true }) to_x to_y to_x
      (posts ly (Ready (ready_message a x) ∷ []) to_y)
      (said_x ++ message.ChannelReady (ready_message a x) ∷ []) refl h
      refl (posted_due (Ready (ready_message a x) ∷ []) to_y tt h.closes) h.closes_back h.x_signs
      (kept_confirmed ly x_side y_side to_x to_y h.kept)
      (readiness_confirmed ly x_side y_side to_x to_y h.told)
      (record { news = h.ended.news; begun = h.ended.begun; closed = h.ended.closed; answered = h.ended.answered })
      (record {
        news = h.ended_back.news;
        begun = h.ended_back.begun;
        closed = h.ended_back.closed;
        answered = h.ended_back.answered;
      })
      refl
      (record {
        point = h.x_knows.point;
        next_point = h.x_knows.next_point;
        below = h.x_knows.below;
        script = h.x_knows.script;
        secret = h.x_knows.secret;
      })
      (record {
        point = h.y_knows.point;
        next_point = h.y_knows.next_point;
        below = h.y_knows.below;
        script = h.y_knows.script;
        secret = h.y_knows.secret;
      })
      (said_more x.closing.shut x.closing.shut said_x (message.ChannelReady (ready_message a x)) (λ e. absurd (cc))
      (λ e. e) (λ e. absurd (cc)) h.x_said)

  pub proposed_so : (u : Change) (to_x to_y : List Notice) → id_fault x.dance.log.own u ≡ None
      → propose_fault x u ≡ None → Hold a b channel Connected ly x y to_x to_y said_x said_y
      → Hold a b channel Connected ly (proposes u x) y to_x (posts ly (Update (as_sent u) ∷ []) to_y)
      (said_x ++ update_message channel u ∷ []) said_y
  proposed_so u to_x to_y id none h =
      let w = h.kept.there.within in
      let p = first_none (own_fault x u) (proposal_fault x.dance.log u) none in
      let q = otherwise (not (is_ready x)) refusal.NotReady _ p.0 in
      let r = otherwise (is_at_update_limit x.dance.log.own) refusal.NumbersSpent _ q.1 in
      let ready = parts x.readiness.ready_sent x.readiness.ready_received (negated (is_ready x) q.0) in
      let may = still_open x u r.1 in
      let fits = proposal_fits x u id p.1 in
      let nobegun : HasBegun x_side → ⊥ = λ q. no_proposal x_side (as_sent u) q fits may in
      moved (proposes u x) (proposed (as_sent u) x_side) to_x to_y to_x (posts ly (Update (as_sent u) ∷ []) to_y)
      (said_x ++ update_message channel u ∷ []) (proposes_so a x u
      (omega (arith, w.own_signed, length-sent x.dance.log.own))) h
      refl (posted_due (Update (as_sent u) ∷ []) to_y tt h.closes) h.closes_back h.x_signs
      (kept_proposed ly x_side y_side (as_sent u) to_x to_y fits h.kept)
      (readiness_proposed ly x_side y_side (as_sent u) to_x to_y (not_closed nobegun h.ended y_side.closed refl)
      (omega (arith, w.own_acked, w.own_signed))
      (record { sent = ready.0; taken = ready.1 }) (still_open x u r.1) h.told)
      (unmoved (proposed (as_sent u) x_side) nobegun h.ended.news refl refl h.ended)
      (back_same (proposed (as_sent u) x_side) refl h.ended_back)
      refl
      (record {
        point = h.x_knows.point;
        next_point = h.x_knows.next_point;
        below = h.x_knows.below;
        script = h.x_knows.script;
        secret = h.x_knows.secret;
      })
      (record {
        point = h.y_knows.point;
        next_point = h.y_knows.next_point;
        below = h.y_knows.below;
        script = h.y_knows.script;
        secret = h.y_knows.secret;
      })
      (said_more x.closing.shut x.closing.shut said_x (update_message channel u) (an_add channel x u r.1) (λ e. e)
      (λ e. absurd (no_shutdown channel u e)) h.x_said)

  pub signed_so : (to_x to_y : List Notice) → sign_command_fault x ≡ None
      → Hold a b channel Connected ly x y to_x to_y said_x said_y
      → Hold a b channel Connected ly (signs_next x) y to_x (posts ly (Sign (signed_message a x.dance) ∷ []) to_y)
      (said_x ++ message.CommitmentSigned (signed_message a x.dance) ∷ []) said_y
  signed_so to_x to_y none h =
      let z = signed_message a x.dance in
      let p = where_true (is_ready x) (sign_fault x.dance) refusal.NotReady none in
      let ready = parts x.readiness.ready_sent x.readiness.ready_received p.0 in
      let q = otherwise (owes x.dance) refusal.SignatureOutstanding _ p.1 in
      let r = first_none (log.sign_fault x.dance.log) _ q.1 in
      let equal : x.dance.numbers.signed ≡ x.dance.numbers.revoked =
      eqb-true x.dance.numbers.signed x.dance.numbers.revoked
      (negated (x.dance.numbers.signed == x.dance.numbers.revoked) q.0) in
      let fresh = unsigned (same_counts x.dance.log.acknowledged x.dance.log.signed)
      (same_counts x.dance.log.signed (log.after_sign x.dance.log).signed) r.0 in
      let acked = parts (x.dance.log.acknowledged.own == x.dance.log.signed.own)
      (x.dance.log.acknowledged.peer == x.dance.log.signed.peer) fresh.0 in
      let acked_own : x_side.acked.own ≡ x_side.signed.own =
      eqb-true x.dance.log.acknowledged.own x.dance.log.signed.own acked.0 in
      let acked_peer : x_side.acked.peer ≡ x_side.signed.peer =
      eqb-true x.dance.log.acknowledged.peer x.dance.log.signed.peer acked.1 in
      let new : x_side.signed.own ≡ length x_side.own → x_side.signed.peer ≡ x_side.current.peer
      → ⊥ = λ e f. absurd (let no : true ≡ false = sym
      (both_true (x.dance.log.signed.own == length x.dance.log.own)
      (x.dance.log.signed.peer == x.dance.log.current.peer)
      (eq-eqb x.dance.log.signed.own (length x.dance.log.own) (e ∙ length-sent x.dance.log.own))
      (eq-eqb x.dance.log.signed.peer x.dance.log.current.peer f)) ∙ fresh.1 in cc) in
      let nobegun : HasBegun x_side → ⊥ = λ q. (let all = covers_all x_side h.kept.there.within q in new all.0 all.1) in
      moved (signs_next x) (signed_all z x_side) to_x to_y to_x (posts ly (Sign z ∷ []) to_y)
      (said_x ++ message.CommitmentSigned z ∷ []) (signs_so a x) h
      refl (moved_due (closer (signed_all z x_side)) (Sign z ∷ []) to_y tt
      (not_bid nobegun h.ended (has_bid x_side) refl) h.closes) h.closes_back h.x_signs
      (kept_signed ly z x_side y_side to_x to_y equal h.kept)
      (readiness_signed ly z x_side y_side to_x to_y (not_closed nobegun h.ended y_side.closed refl)
      (record { sent = ready.0; taken = ready.1 }) h.told)
      (unmoved (signed_all z x_side) nobegun (λ e f g. new (sym acked_own ∙ f) (sym acked_peer ∙ g)) refl refl h.ended)
      (back_same (signed_all z x_side) refl h.ended_back)
      refl
      (record {
        point = h.x_knows.point;
        next_point = h.x_knows.next_point;
        below = small_still x.dance.numbers.signed h.x_knows.below
            (no_fault (is_last x.dance.numbers.signed) refusal.NumbersSpent r.1);
        script = h.x_knows.script;
        secret = h.x_knows.secret;
      })
      (record {
        point = h.y_knows.point;
        next_point = h.y_knows.next_point;
        below = h.y_knows.below;
        script = h.y_knows.script;
        secret = h.y_knows.secret;
      })
      (said_more x.closing.shut x.closing.shut said_x (message.CommitmentSigned z) (λ e. absurd (cc)) (λ e. e)
      (λ e. absurd (cc)) h.x_said)

  sent_shut : (z : ShutdownMessage) → HasBegun x_side → HasBegun (record x_side { shut = true; shut_message = z })
  sent_shut z q = record {
    shut_sent = refl;
    shut_taken = q.shut_taken;
    own_acked = q.own_acked;
    own_current = q.own_current;
    peer_current = q.peer_current;
    peer_acked = q.peer_acked;
    none_own =
        q.none_own;
    none_got = q.none_got;
  }

  own_shut : {z : ShutdownMessage} → Ending x_side y_side
      → Ending (record x_side { shut = true; shut_message = z }) y_side
  own_shut {z} e = record {
    news = e.news;
    begun = λ q. sent_shut z (e.begun q);
    closed = λ q. sent_shut z (e.closed q);
    answered = e.answered;
  }

  -- with the script that n has, and but for this as x was
  shut_with : (n : End) (z : ShutdownMessage) (to_x to_y : List Notice)
      → side_of a n ≡ record x_side { shut = true; shut_message = z } → n.dance.channel ≡ x.dance.channel
      → n.closing.fees ≡ x.closing.fees → Knows b n y
      → Knows a y n → x.closing.shut ≡ false → all_acknowledged x.dance.log ≡ true → n.closing.shut ≡ true
      → Hold a b channel Connected ly x y to_x to_y said_x said_y
      → Hold a b channel Connected ly n y to_x (posts ly (Shutdown z ∷ []) to_y) (said_x
      ++ message.Shutdown z ∷ []) said_y
  shut_with n z to_x to_y is same fs kn kp unshut all shut h =
      moved n (record x_side { shut = true; shut_message = z }) to_x to_y to_x (posts ly (Shutdown z ∷ []) to_y)
      (said_x ++ message.Shutdown z ∷ []) is h
      fs (posted_due (Shutdown z ∷ []) to_y tt h.closes) h.closes_back h.x_signs
      (kept_shut ly z x_side y_side to_x to_y h.kept)
      (readiness_shut ly z x_side y_side to_x to_y unshut
      (eqb-true x.dance.log.acknowledged.own (length x.dance.log.own) all
      ∙ sym (length-sent x.dance.log.own)) h.told)
      (own_shut h.ended) (record {
        news = h.ended_back.news;
        begun = h.ended_back.begun;
        closed = h.ended_back.closed;
        answered = h.ended_back.answered;
      })
      same kn kp
      (said_more x.closing.shut n.closing.shut said_x (message.Shutdown z) (λ e. absurd (cc))
      (λ e. shut) (λ e. shut) h.x_said)

  pub shuts : (script : List ℕ) (to_x to_y : List Notice) → shut_fault script x ≡ None
      → Hold a b channel Connected ly x y to_x to_y said_x said_y
      → Hold a b channel Connected ly (shuts_down script x) y to_x
      (posts ly (Shutdown (shutdown_message (shuts_down script x)) ∷ []) to_y)
      (said_x ++ message.Shutdown (shutdown_message (shuts_down script x)) ∷ []) said_y
  shuts script to_x to_y none h =
      let p = otherwise x.closing.shut refusal.Shut _ none in
      let q = where_true (all_acknowledged x.dance.log) (script_fault script) refusal.UpdatesPending p.1 in
      shut_with (shuts_down script x) (shutdown_message (shuts_down script x)) to_x to_y refl refl refl
      (record {
        point = h.x_knows.point;
        next_point = h.x_knows.next_point;
        below = h.x_knows.below;
        script = h.x_knows.script;
        secret = h.x_knows.secret;
      })
      (record {
        point = h.y_knows.point;
        next_point = h.y_knows.next_point;
        below = h.y_knows.below;
        script = same_script y.closing.peer_shut y.terms.peer_script x.terms.script script
            (λ e. absurd (let d : true ≡ false = sym (h.told.there.shut_sent e) ∙ p.0 in cc)) h.y_knows.script;
        secret = h.y_knows.secret;
      })
      p.0 q.0 refl h

  pub shuts_in_answer : (to_x to_y : List Notice) → x.closing.shut ≡ false → all_acknowledged x.dance.log ≡ true
      → Hold a b channel Connected ly x y to_x to_y said_x said_y
      → Hold a b channel Connected ly (record x { closing = after_shut x.closing }) y to_x
      (posts ly (Shutdown (shutdown_message x) ∷ []) to_y) (said_x ++ message.Shutdown (shutdown_message x) ∷ []) said_y
  shuts_in_answer to_x to_y unshut all h =
      shut_with (record x { closing = after_shut x.closing }) (shutdown_message x) to_x to_y refl refl refl
      (record {
        point = h.x_knows.point;
        next_point = h.x_knows.next_point;
        below = h.x_knows.below;
        script = h.x_knows.script;
        secret = h.x_knows.secret;
      })
      (record {
        point = h.y_knows.point;
        next_point = h.y_knows.next_point;
        below = h.y_knows.below;
        script = h.y_knows.script;
        secret = h.y_knows.secret;
      })
      unshut all refl h

  -- ---- closing fees

  -- what x has said and taken of fees, where closing has begun
  pub dealt_so : (n : End) (m : Option ClosingSigned) (c : Bool) (sent : Option ClosingSigned) (out : List Message)
      (to_x to_y : List Notice) → side_of a n ≡ dealt m c x_side → n.dance.channel ≡ x.dance.channel
      → n.closing.fees ≡ x.closing.fees → SignsAll a x.closing.fees m → SignsAll a x.closing.fees sent → Knows b n y
      → Knows a y n → n.closing.shut ≡ x.closing.shut
      → HasBegun x_side → (x_side.closed ≡ true → c ≡ true) → (has_bid x_side ≡ true → is_some m ≡ true)
      → (is_some sent ≡ true → is_some m ≡ true) → (c ≡ true → has_bid y_side ≡ true)
      → Said x.closing.shut (said_x ++ out)
      → Hold a b channel Connected ly x y to_x to_y said_x said_y
      → Hold a b channel Connected ly n y to_x (posts ly (closes_of sent) to_y) (said_x ++ out) said_y
  dealt_so n m c sent out to_x to_y is same fs sg sig kn kp shut begun cl bd st an said h =
      moved n (dealt m c x_side) to_x to_y to_x (posts ly (closes_of sent) to_y) (said_x ++ out) is h
      fs (dealt_closes a x.closing.fees ly x_side y_side m c sent to_y begun h.kept.there.within h.kept.there.flight
      h.told.there.flight bd st sig h.closes) h.closes_back sg
      (kept_dealt ly m c sent x_side y_side to_x to_y h.kept)
      (readiness_dealt ly m c sent x_side y_side to_x to_y cl bd st h.told)
      (record { news = h.ended.news; begun = λ q. begun; closed = λ q. begun; answered = λ q. bd (h.ended.answered q) })
      (record { news = h.ended_back.news; begun = h.ended_back.begun; closed = h.ended_back.closed; answered = an })
      same kn kp (subst (λ s. Said s (said_x ++ out)) (sym shut) said)

  -- a closing_signed is out of what is in flight
  pub passed_close : (m : ClosingSigned) (ns to_y : List Notice)
      → Hold a b channel Connected ly x y (Close m ∷ ns) to_y said_x said_y
      → Hold a b channel Connected ly x y ns to_y said_x said_y
  passed_close m ns to_y h = record {
    kept = kept_close ly m x_side y_side ns to_y h.kept;
    told = readiness_close ly m x_side y_side ns to_y h.told;
    ended = h.ended;
    ended_back = h.ended_back;
    closes = h.closes;
    closes_back = h.closes_back.1;
    x_signs = h.x_signs;
    y_signs = h.y_signs;
    x_channel = h.x_channel;
    y_channel = h.y_channel;
    x_knows = h.x_knows;
    y_knows = h.y_knows;
    x_said = h.x_said;
    y_said = h.y_said;
  }
