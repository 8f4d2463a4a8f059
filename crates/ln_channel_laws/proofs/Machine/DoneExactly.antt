-- An end does what a command asks for exactly where its readiness lets it and the machine may make the move.
use Rattle.std.proofs.Common.{◌≡◌, ◌≢◌, ◌↔◌, ℕ, ◌+◌, ◌-◌, ◌^◌, ◌<◌, ◌≤◌, List, [], ◌∷◌, length, refl, sym, ap, ◌∙◌}
use Rattle.std.proofs.Common.{subst, arith, Bool, true, false, cond, not, ◌||◌, ◌&&◌, ◌==◌, nat_lt, nat_le, Option}
use Rattle.std.proofs.Common.{Some, None, Ok, Err}
use Rattle.std.specs.Prelude.{is_some}
use Rattle.std.proofs.lemmas.Bool.{eqb-true, eq-eqb, ltb-true, ltb-false, leb-true, leb-false}
use Rattle.ln_refusals.specs.declared.refusal.Refusal.{Refusal}
use Rattle.ln_refusals.specs.declared.refusal.Refusal.TheVariants as refusal
use Rattle.ln_refusals.specs.declared.peer_rule.PeerRule.TheVariants as rule
use Rattle.ln_msgs.specs.declared.messages.message.Message.TheVariants as message
use Rattle.ln_keys.specs.declared.role.Role.{Role}
use Rattle.ln_keys.specs.declared.role.Role.TheVariants.{Funder, Fundee}
use Rattle.ln_keys.specs.Signer.{Signer}
use Rattle.ln_log.specs.declared.update.Update.{Update as Change}
use Rattle.ln_log.specs.declared.update.Update.TheVariants as update
use Rattle.ln_log.specs.Updates.{as_sent, next_id}
use Rattle.ln_log.specs.Limits.{HasNextId, is_at_update_limit, first_fault}
use Rattle.ln_log.specs.Log as log
use Rattle.ln_log.specs.Log.{Counts, length_fault, proposal_fault}
use Rattle.ln_log.specs.Machine.{Machine, Propose, Sign, Shut, MayMove, MayFollow, MayPropose, MaySign, MayShut}
use Rattle.ln_log.proofs.Moves.{shut_so, may, may_so}
use Rattle.ln_log.proofs.Signs.{exactly, sign_allowed}
use Rattle.ln_dance.specs.Dance.{owes, is_last, sign_fault, signed_message}
use Rattle.ln_dance.specs.Messages.{update_message}
use Rattle.ln_channel.specs.declared.command.Command.{Command}
use Rattle.ln_channel.specs.declared.command.Command.TheVariants as command
use Rattle.ln_channel.specs.declared.config.Config.{Config}
use Rattle.ln_channel.specs.declared.config.OpenSpec.{OpenSpec}
use Rattle.ln_channel.specs.declared.opening.Opened.{Opened}
use Rattle.ln_channel.specs.declared.output.Output.TheVariants as output
use Rattle.ln_channel.specs.declared.machine.ConnectionState.{ConnectionState}
use Rattle.ln_channel.specs.declared.machine.ConnectionState.TheVariants.{Down, AwaitingReestablish, Connected}
use Rattle.ln_channel.specs.Meeting.{Opens}
use Rattle.ln_channel.specs.Opening.{unless}
use Rattle.ln_channel.specs.End.{End, Turn, is_ready, is_closed, all_acknowledged, sending, completed, shutdown_message}
use Rattle.ln_channel.specs.Commands.{confirm_fault, confirmed, ready_message, closed_fault, own_fault, propose_fault}
use Rattle.ln_channel.specs.Commands.{proposes, sign_command_fault, signs_next, script_fault, shut_fault, shuts_down}
use Rattle.ln_channel.specs.Step.{faulted, line_fault}
use Rattle.ln_channel_laws.specs.Ends.{Ends, Step, opened, turned, run}
use Rattle.ln_keys.specs.Partners.{ArePartners}
use Rattle.ln_channel_laws.specs.Promises.{IsTaken, party}
use Rattle.ln_channel_laws.specs.Moves.{machine_by, machine_of, moves_asked}
use Rattle.ln_channel_laws.specs.Doing.{IsReady, HasRoom, IsReadyFor, MayMake, MayDo, Does, BothDo}
use Rattle.ln_channel_laws.proofs.Flight.Walk.{Phase, Idle, Sent, Answered}
use Rattle.ln_channel_laws.proofs.Machine.TurnMoves.{log_within}
use Rattle.ln_channel_laws.proofs.Ends.Runs.{Sound, flipped}
use Rattle.ln_channel_laws.proofs.Machine.RunMoves.{keep_roles}
use Rattle.ln_channel_laws.proofs.Ends.Promised.{at_end}

-- ---- what holds exactly where something else does

then : {A B C : Type 0} → (A ↔ B) → (B ↔ C) → (A ↔ C)
then f g = ((λ a. g.0 (f.0 a)), (λ c. f.1 (g.1 c)))

pairs : {A B C D : Type 0} → (A ↔ B) → (C ↔ D) → ((A × C) ↔ (B × D))
pairs f g = ((λ p. (f.0 p.0, g.0 p.1)), (λ p. (f.1 p.0, g.1 p.1)))

some_none : (r : Refusal) → Some r ≡ None → ⊥
some_none r e = absurd (cc)

-- the three faults that a command may have
taken_by : (f g h : Option Refusal) (t : Turn) → IsTaken (faulted f (faulted g (unless h t)))
    ↔ ((f ≡ None) × (g ≡ None) × (h ≡ None))
taken_by None None None t = ((λ x. (refl, refl, refl)), (λ x. (t, refl)))
taken_by (Some r) g h t = (
  (λ x. absurd (let no : Err r ≡ Ok x.0 = x.1 in cc)),
  (λ x. absurd (some_none r x.0)),
)
taken_by None (Some r) h t = (
  (λ x. absurd (let no : Err r ≡ Ok x.0 = x.1 in cc)),
  (λ x. absurd (some_none r x.1)),
)
taken_by None None (Some r) t = (
  (λ x. absurd (let no : Err r ≡ Ok x.0 = x.1 in cc)),
  (λ x. absurd (some_none r x.2)),
)

never : (f g : Option Refusal) (r : Refusal) → IsTaken {A = Turn} (faulted f (faulted g (Err r))) → ⊥
never None None r x = absurd (let no : Err r ≡ Ok x.0 = x.1 in cc)
never (Some z) g r x = absurd (let no : Err z ≡ Ok x.0 = x.1 in cc)
never None (Some z) r x = absurd (let no : Err z ≡ Ok x.0 = x.1 in cc)

none_first : (f g : Option Refusal) → (first_fault f g ≡ None) ↔ ((f ≡ None) × (g ≡ None))
none_first None g = ((λ e. (refl, e)), (λ e. e.1))
none_first (Some r) g = ((λ e. absurd (some_none r e)), (λ e. absurd (some_none r e.0)))

-- refused where the test passes, or where it doesn't
unless_so : (b : Bool) (r : Refusal) (o : Option Refusal) → (cond b (Some r) o ≡ None) ↔ ((b ≡ false) × (o ≡ None))
unless_so true r o = (
  (λ e. absurd (some_none r e)),
  (λ e. absurd (let no : true ≡ false = e.0 in cc)),
)
unless_so false r o = ((λ e. (refl, e)), (λ e. e.1))

when_so : (b : Bool) (r : Refusal) (o : Option Refusal) → (cond b o (Some r) ≡ None) ↔ ((b ≡ true) × (o ≡ None))
when_so true r o = ((λ e. (refl, e)), (λ e. e.1))
when_so false r o = (
  (λ e. absurd (some_none r e)),
  (λ e. absurd (let no : false ≡ true = e.0 in cc)),
)

neither : (s p : Bool) → ((s || p) ≡ false) ↔ ((s ≡ false) × (p ≡ false))
neither true p = ((λ e. absurd (let no : true ≡ false = e in cc)), (λ e. absurd (let no : true ≡ false = e.0 in cc)))
neither false p = ((λ e. (refl, e)), (λ e. e.1))

not_so : (b : Bool) → (not b ≡ false) ↔ (b ≡ true)
not_so true = ((λ e. refl), (λ e. refl))
not_so false = ((λ e. absurd (let no : true ≡ false = e in cc)), (λ e. absurd (let no : false ≡ true = e in cc)))

some_so : (o : Option ℕ) → (is_some o ≡ false) ↔ (o ≡ None)
some_so None = ((λ e. refl), (λ e. refl))
some_so (Some n) = (
  (λ e. absurd (let no : true ≡ false = e in cc)),
  (λ e. absurd (let no : Some n ≡ None = e in cc)),
)

met_so : (l : ConnectionState) → (line_fault l ≡ None) ↔ (l ≡ Connected)
met_so Down = ((λ e. absurd (some_none refusal.Disconnected e)), (λ e. absurd (let no : Down ≡ Connected = e in cc)))
met_so AwaitingReestablish = (
  (λ e. absurd (some_none refusal.Disconnected e)),
  (λ e. absurd
      (let no : AwaitingReestablish ≡ Connected = e in cc)),
)
met_so Connected = ((λ e. refl), (λ e. refl))

both_so : (p q : Bool) → ((p && q) ≡ true) ↔ ((p ≡ true) × (q ≡ true))
both_so true q = ((λ e. (refl, e)), (λ e. e.1))
both_so false q = ((λ e. absurd (let no : false ≡ true = e in cc)), (λ e. absurd (let no : false ≡ true = e.0 in cc)))

below_by : (b : Bool) (n m : ℕ) → nat_le n m ≡ b → (b ≡ false) ↔ (m < n)
below_by true n m is = (
  (λ e. absurd (let no : true ≡ false = e in cc)),
  (λ lt. absurd (let le = leb-true n m is in omega (arith, lt, le))),
)
below_by false n m is = ((λ e. let lt = leb-false n m is in omega (arith, lt)), (λ lt. refl))

differ_by : (b : Bool) (n m : ℕ) → (n == m) ≡ b → (b ≡ false) ↔ (n ≢ m)
differ_by true n m is = ((λ e. absurd (let no : true ≡ false = e in cc)), (λ f. absurd (f (eqb-true n m is))))
differ_by false n m is = ((λ e same. absurd (let no : true ≡ false = sym (eq-eqb n m same) ∙ is in cc)), (λ f. refl))

not_true : (b : Bool) → (b ≡ true → ⊥) → b ≡ false
not_true true f = absurd (f refl)
not_true false f = refl

-- short enough
fits_by : (b : Bool) (n m : ℕ) → nat_lt n m ≡ b → (cond b (Some (refusal.PeerLimit rule.TooLong)) None ≡ None) ↔ (m ≤ n)
fits_by true n m is = (
  (λ e. absurd (some_none (refusal.PeerLimit rule.TooLong) e)),
  (λ le. absurd (let lt = ltb-true n m is in omega (arith, lt, le))),
)
fits_by false n m is = ((λ e. let ge = ltb-false n m is in omega (arith, ge)), (λ le. refl))

fits_so : (n m : ℕ) → (cond (nat_lt n m) (Some (refusal.PeerLimit rule.TooLong)) None ≡ None) ↔ (m ≤ n)
fits_so n m = fits_by (nat_lt n m) n m refl

-- ---- the end of a side, whose party the machine has

record IsMachine (r : Role) (e : End) (m : Machine) : Type 0 where
  proposes : (u : Change) → MayMove (Propose r u) (Some m)
      ↔ MayPropose e.dance.log.opening e.dance.log.role u (party e)
  signs : MayMove (Sign r) (Some m) ↔ MaySign (party e)
  shuts : MayMove (Shut r) (Some m) ↔ MayShut (party e)

-- where a signature is unrevoked it covers something new
abbrev IsFresh : End → Type 0
IsFresh e =
    owes e.dance ≡ true → e.dance.log.acknowledged.own ≡ e.dance.log.signed.own
    → e.dance.log.acknowledged.peer ≡ e.dance.log.signed.peer → ⊥

module _ (r : Role) (e : End) (m : Machine) (is : IsMachine r e m) (w : log.IsWithin e.dance.log) (fresh : IsFresh e)
    (l : ConnectionState) where
  ready_so : (is_ready e ≡ true) ↔ IsReady e
  ready_so = both_so e.readiness.ready_sent e.readiness.ready_received

  room_so : (is_at_update_limit e.dance.log.own ≡ false) ↔ (length e.dance.log.own < 2 ^ 62)
  room_so =
      let n = length e.dance.log.own in
      below_by (nat_le (2 ^ 62) n) (2 ^ 62) n refl

  last_so : (is_last e.dance.numbers.signed ≡ false) ↔ (e.dance.numbers.signed ≢ 2 ^ 48 - 1)
  last_so =
      let n = e.dance.numbers.signed in
      differ_by (n == 2 ^ 48 - 1) n (2 ^ 48 - 1) refl

  -- ---- an update

  -- the peer's shutdown doesn't forbid it
  abbrev PeerLets : Change → Type 0
  PeerLets (update.Add a) = e.closing.peer_shut ≡ false
  PeerLets (update.Fulfil f) = Unit {0}
  PeerLets (update.Fail f) = Unit {0}
  PeerLets (update.Malformed f) = Unit {0}
  PeerLets (update.Fee f) = e.closing.peer_shut ≡ false

  shut_none : (cond (e.closing.shut || e.closing.peer_shut) (Some refusal.Shut) None ≡ None)
      ↔ ((e.closing.shut ≡ false) × (e.closing.peer_shut ≡ false))
  shut_none =
      let f = unless_so (e.closing.shut || e.closing.peer_shut) refusal.Shut None in
      let g = neither e.closing.shut e.closing.peer_shut in
      ((λ x. g.0 (f.0 x).0), (λ x. f.1 (g.1 x, refl)))

  closed_so : (u : Change) → (closed_fault e u ≡ None) ↔ (MayFollow e.closing.shut u × PeerLets u)
  closed_so (update.Add a) = shut_none
  closed_so (update.Fulfil f) = ((λ x. (tt, tt)), (λ x. refl))
  closed_so (update.Fail f) = ((λ x. (tt, tt)), (λ x. refl))
  closed_so (update.Malformed f) = ((λ x. (tt, tt)), (λ x. refl))
  closed_so (update.Fee f) = shut_none

  own_so : (u : Change) → (own_fault e u ≡ None)
      ↔ ((is_ready e ≡ true) × (is_at_update_limit e.dance.log.own ≡ false) × (MayFollow e.closing.shut u × PeerLets u))
  own_so u =
      let f = unless_so (not (is_ready e)) refusal.NotReady
      (cond (is_at_update_limit e.dance.log.own) (Some refusal.NumbersSpent) (closed_fault e u)) in
      let g = unless_so (is_at_update_limit e.dance.log.own) refusal.NumbersSpent (closed_fault e u) in
      let n = not_so (is_ready e) in
      let k = closed_so u in (
        (λ x.
            let a = f.0 x in
            let b = g.0 a.1 in
            (n.0 a.0, b.0, k.0 b.1)),
        (λ x. f.1 (n.1 x.0, g.1 (x.1, k.1 x.2))),
      )

  abbrev May : Change → Type 0
  May u = MayPropose e.dance.log.opening e.dance.log.role (as_sent u) (party e)

  proposes_so : (u : Change) → HasNextId e.dance.log.own u → (propose_fault e u ≡ None)
      ↔ ((HasRoom e × PeerLets u × (length_fault u ≡ None)) × May u)
  proposes_so u id =
      let f = none_first (own_fault e u) (proposal_fault e.dance.log u) in
      let g = own_so u in (
        (λ none.
            let p = f.0 none in
            let q = g.0 p.0 in
            let can = may e.closing.shut e.closing.closed e.dance.log u id q.2.0 p.1 in
            (((ready_so.0 q.0, room_so.0 q.1), q.2.1, can.2), can.0)),
        (λ h.
            let room = room_so.1 h.0.0.1 in
            let can = may_so e.closing.shut e.closing.closed e.dance.log u (h.1, room, h.0.2) in
            f.1 (g.1 (ready_so.1 h.0.0.0, room, (can.0, h.0.1)), can.1)),
      )

  -- ---- each command

  obeys_by : (f h : Option Refusal) (t : Turn) (R M : Type 0) → (((f ≡ None) × (h ≡ None)) ↔ (R × M))
      → IsTaken (faulted f (faulted (line_fault l) (unless h t))) ↔ ((l ≡ Connected) × R × M)
  obeys_by f h t R M is_so =
      let k = taken_by f (line_fault l) h t in (
        (λ x.
            let a = k.0 x in
            let b = is_so.0 (a.0, a.2) in
            ((met_so l).0 a.1, b.0, b.1)),
        (λ x.
            let b = is_so.1 (x.1, x.2) in
            k.1 (b.0, (met_so l).1 x.0, b.1)),
      )

  as_told : (c : Command) → ((l ≡ Connected) × IsReadyFor c e × MayMake (moves_asked r c e) (Some m)) ↔ MayDo r l c e m
  as_told c = ((λ x. record { met = x.0; ready = x.1; moves = x.2 }), (λ d. (d.met, d.ready, d.moves)))

  update_so : (c : Command) (u : Change) (t : Turn) → HasNextId e.dance.log.own u
      → (IsReadyFor c e ↔ (HasRoom e × PeerLets u × (length_fault u ≡ None)))
      → IsTaken (faulted (cond (is_ready e) None (Some refusal.NotReady))
      (faulted (line_fault l) (unless (propose_fault e u) t)))
      ↔ ((l ≡ Connected) × IsReadyFor c e × (MayMove (Propose r (as_sent u)) (Some m) × Unit {0}))
  update_so c u t id ready =
      let g = proposes_so u id in
      let n = when_so (is_ready e) refusal.NotReady None in
      let p = is.proposes (as_sent u) in
      obeys_by (cond (is_ready e) None (Some refusal.NotReady)) (propose_fault e u) t (IsReadyFor c e)
      (MayMove (Propose r (as_sent u)) (Some m) × Unit {0}) (
        (λ x.
            let h = g.0 x.1 in
            (ready.1 h.0, (p.1 h.1, tt))),
        (λ x.
            let h = ready.0 x.0 in
            (n.1 (ready_so.1 h.0.0, refl), g.1 (h, p.0 x.1.0))),
      )

  confirm_none : (confirm_fault e ≡ None) ↔ ((e.readiness.ready_sent ≡ false) × (e.closing.closed ≡ None))
  confirm_none =
      let f = unless_so (e.readiness.ready_sent || is_closed e) refusal.NotReady None in
      let g = neither e.readiness.ready_sent (is_closed e) in
      let c = some_so e.closing.closed in (
        (λ x.
            let p = g.0 (f.0 x).0 in
            (p.0, c.0 p.1)),
        (λ x. f.1 (g.1 (x.0, c.1 x.1), refl)),
      )

  sign_none : (sign_fault e.dance ≡ None) ↔ ((is_last e.dance.numbers.signed ≡ false) × MaySign (party e))
  sign_none =
      let d = e.dance in
      let last = cond (is_last d.numbers.signed) (Some refusal.NumbersSpent) None in
      let f = unless_so (owes d) refusal.SignatureOutstanding (first_fault (log.sign_fault d.log) last) in
      let g = none_first (log.sign_fault d.log) last in
      let h = unless_so (is_last d.numbers.signed) refusal.NumbersSpent None in
      let k = exactly e.closing.shut e.closing.closed d.log w in (
        (λ x.
            let p = g.0 (f.0 x).1 in
            ((h.0 p.1).0, k.0 p.0)),
        (λ x.
            let none = k.1 x.1 in
            let all = sign_allowed d.log none in
            f.1 (not_true (owes d) (λ o. fresh o all.0 all.1), g.1 (none, h.1 (x.0, refl)))),
      )

  sign_command_none : (sign_command_fault e ≡ None)
      ↔ ((IsReady e × (e.dance.numbers.signed ≢ 2 ^ 48 - 1)) × MaySign (party e))
  sign_command_none =
      let f = when_so (is_ready e) refusal.NotReady (sign_fault e.dance) in (
        (λ x.
            let a = f.0 x in
            let b = sign_none.0 a.1 in
            ((ready_so.0 a.0, last_so.0 b.0), b.1)),
        (λ x. f.1 (ready_so.1 x.0.0, sign_none.1 (last_so.1 x.0.1, x.1))),
      )

  acked_so : (all_acknowledged e.dance.log ≡ true) ↔ MayShut (party e)
  acked_so =
      let n = e.dance.log.acknowledged.own in
      let k = length e.dance.log.own in
      let f = shut_so e.closing.shut e.closing.closed e.dance.log w in
      ((λ x. f.0 (eqb-true n k x)), (λ x. eq-eqb n k (f.1 x)))

  shut_command_none : (script : List ℕ) → (shut_fault script e ≡ None)
      ↔ (((e.closing.shut ≡ false) × (length script ≤ 65499)) × MayShut (party e))
  shut_command_none script =
      let f = unless_so e.closing.shut refusal.Shut
      (cond (all_acknowledged e.dance.log) (script_fault script) (Some refusal.UpdatesPending)) in
      let g = when_so (all_acknowledged e.dance.log) refusal.UpdatesPending (script_fault script) in
      let h = fits_so 65499 (length script) in (
        (λ x.
            let a = f.0 x in
            let b = g.0 a.1 in
            ((a.0, h.0 b.1), acked_so.0 b.0)),
        (λ x. f.1 (x.0.0, g.1 (acked_so.1 x.1, h.1 x.0.1))),
      )

  does : (keys : Signer) (c : Command) → Does keys r l c e m
  does keys (command.Confirm id) =
      let t = sending (message.ChannelReady (ready_message keys e)) (confirmed id e) in
      let k = confirm_none in
      then (obeys_by (confirm_fault e) (confirm_fault e) t (IsReadyFor (command.Confirm id) e) (Unit {0})
      ((λ x. (k.0 x.0, tt)), (λ x. (k.1 x.0, k.1 x.0)))) (as_told (command.Confirm id))
  does keys (command.Add amount hash expiry onion origin) =
      let c = command.Add amount hash expiry onion origin in
      let u = update.Add (record {
        id = next_id e.dance.log.own;
        amount = amount;
        hash = hash;
        expiry = expiry;
        onion = onion;
        origin = origin;
      }) in
      then (update_so c u (sending (update_message e.dance.channel u) (proposes u e)) refl
      ((λ x. (x.0, x.1, refl)), (λ x. (x.0, x.1)))) (as_told c)
  does keys (command.Fulfil id preimage) =
      let c = command.Fulfil id preimage in
      let u = update.Fulfil (record { id = id; preimage = preimage }) in
      then (update_so c u (sending (update_message e.dance.channel u) (proposes u e)) tt
      ((λ x. (x, tt, refl)), (λ x. x.0))) (as_told c)
  does keys (command.Fail id reason) =
      let c = command.Fail id reason in
      let u = update.Fail (record { id = id; reason = reason }) in
      let k = fits_so 65491 (length reason) in
      then (update_so c u (sending (update_message e.dance.channel u) (proposes u e)) tt
      ((λ x. (x.0, tt, k.1 x.1)), (λ x. (x.0, k.0 x.2)))) (as_told c)
  does keys (command.Malformed id sha code) =
      let c = command.Malformed id sha code in
      let u = update.Malformed (record { id = id; sha256_of_onion = sha; failure_code = code }) in
      then (update_so c u (sending (update_message e.dance.channel u) (proposes u e)) tt
      ((λ x. (x, tt, refl)), (λ x. x.0))) (as_told c)
  does keys (command.Fee feerate) =
      let c = command.Fee feerate in
      let u = update.Fee (record { feerate = feerate }) in
      then (update_so c u (sending (update_message e.dance.channel u) (proposes u e)) tt
      ((λ x. (x.0, x.1, refl)), (λ x. (x.0, x.1)))) (as_told c)
  does keys command.Sign =
      let t : Turn = record {
        end = signs_next e;
        handed = record {
          sent = output.Send (message.CommitmentSigned (signed_message keys e.dance)) ∷ [];
          told = output.Signed (length e.dance.log.own) ∷ [];
        };
      } in
      let n = when_so (is_ready e) refusal.NotReady None in
      let k = sign_command_none in
      then (obeys_by (cond (is_ready e) None (Some refusal.NotReady)) (sign_command_fault e) t
      (IsReadyFor command.Sign e) (MayMove (Sign r) (Some m) × Unit {0}) (
        (λ x.
            let h = k.0 x.1 in
            (h.0, (is.signs.1 h.1, tt))),
        (λ x. (n.1 (ready_so.1 x.0.0, refl), k.1 (x.0, is.signs.0 x.1.0))),
      )) (as_told command.Sign)
  does keys (command.Shutdown script) =
      let n = shuts_down script e in
      let t = completed keys (sending (message.Shutdown (shutdown_message n)) n) in
      let k = shut_command_none script in
      then (obeys_by None (shut_fault script e) t (IsReadyFor (command.Shutdown script) e)
      (MayMove (Shut r) (Some m) × Unit {0}) (
        (λ x.
            let h = k.0 x.1 in
            (h.0, (is.shuts.1 h.1, tt))),
        (λ x. (refl, k.1 (x.0, is.shuts.0 x.1.0))),
      )) (as_told (command.Shutdown script))
  does keys (command.Decide event mark) = (
    (λ x. absurd (never (cond (is_ready e) None (Some refusal.NotReady)) (line_fault l) refusal.NotReady x)),
    (λ d. absurd d.ready),
  )
  does keys (command.Forget id) = (
    (λ x. absurd (never (cond (is_ready e) None (Some refusal.NotReady)) (line_fault l) refusal.NotReady x)),
    (λ d. absurd d.ready),
  )
  does keys (command.Resume event mark) = (
    (λ x. absurd (never (cond (is_ready e) None (Some refusal.NotReady)) (line_fault l) refusal.NotReady x)),
    (λ d. absurd d.ready),
  )

-- ---- the two ends are the machine's parties

funders : (x y : End) → x.dance.log.role ≡ Funder → IsMachine Funder x (machine_by x y)
funders x y is = record {
  proposes = λ u. (
    (λ h. subst (λ z. MayPropose x.dance.log.opening z u (party x)) (sym is) h),
    (λ h. subst (λ z. MayPropose x.dance.log.opening z u (party x)) is h),
  );
  signs = ((λ h. h), (λ h. h));
  shuts = ((λ h. h), (λ h. h));
}

fundees : (x y : End) → y.dance.log.role ≡ Fundee → y.dance.log.opening ≡ x.dance.log.opening
    → IsMachine Fundee y (machine_by x y)
fundees x y is same = record {
  proposes = λ u. (
    (λ h. subst (λ o. MayPropose o y.dance.log.role u (party y)) (sym same)
        (subst (λ z. MayPropose x.dance.log.opening z u (party y)) (sym is) h)),
    (λ h. subst (λ z. MayPropose x.dance.log.opening z u (party y)) is
        (subst (λ o. MayPropose o y.dance.log.role u (party y)) same h)),
  );
  signs = ((λ h. h), (λ h. h));
  shuts = ((λ h. h), (λ h. h));
}

-- ---- over every list of steps

unequal : (s a : ℕ) → not (s == a) ≡ true → s ≡ a → ⊥
unequal s a e same = absurd (let is : false ≡ true = ap not (sym (eq-eqb s a same)) ∙ e in cc)

one_ahead : (s a c : ℕ) (acked signed current : Counts) → Phase s a c acked signed current → not (s == a) ≡ true
    → s ≡ a + 1
one_ahead s a c acked signed current (Idle e1 e2 e3 e4 e5 e6) e = absurd (unequal s a e e1)
one_ahead s a c acked signed current (Sent e1 e2 e3 e4) e = e1
one_ahead s a c acked signed current (Answered e1 e2 e3 e4) e = e1

fresh_so : (a b : Signer) (p : Ends) → Sound a b p → IsFresh p.x
fresh_so a b p h o =
    let n = p.x.dance.numbers in
    let l = p.x.dance.log in
    h.hold.ended.news (one_ahead n.signed n.revoked p.y.dance.numbers.commitment l.acknowledged l.signed
    p.y.dance.log.current h.hold.kept.there.phase o)

pub both_do : (a b : Signer) (s : OpenSpec) (c : Config) (funder fundee : Opened) (steps : List Step) (asked : Command)
    → ArePartners a b → Opens a b s c funder fundee → BothDo a b asked (run a b steps (opened funder fundee))
both_do a b s c funder fundee steps asked keys o =
    let p = run a b steps (opened funder fundee) in
    let h = at_end a b s c funder fundee steps keys o in
    let k = keep_roles a b s c funder fundee steps keys o in
    record {
      funder = does Funder p.x (machine_of p) (funders p.x p.y k.x.role) (log_within a p.x h.hold.kept.there.within)
          (fresh_so a b p h) p.x_line a asked;
      fundee = does Fundee p.y (machine_of p) (fundees p.x p.y k.y.role (k.y.opening ∙ sym k.x.opening))
          (log_within b p.y h.hold.kept.back.within) (fresh_so b a (turned p) (flipped a b p h)) p.y_line b asked;
    }
