-- By which refusals a link answers a command of its book: none of them says that whether it was taken isn't known.
use Rattle.std.proofs.Common.{◌≡◌, ◌⊎◌, inl, inr, ℕ, refl, Bool, true, false, cond, not, ◌&&◌, ◌||◌, nat_lt}
use Rattle.std.proofs.Common.{is_none, length, take, Option, Some, None, Result, Ok, Err}
use Rattle.std.specs.Prelude.{option_map}
use Rattle.ln_refusals.specs.declared.refusal.Refusal.{Refusal}
use Rattle.ln_refusals.specs.declared.refusal.Refusal.TheVariants as refusal
use Rattle.ln_refusals.specs.declared.peer_rule.PeerRule.TheVariants as rule
use Rattle.ln_refusals.specs.Refusal.{refusal_number}
use Rattle.ln_keys.specs.Signer.{Signer}
use Rattle.ln_log.specs.declared.mark.Mark.{Mark}
use Rattle.ln_log.specs.declared.mark.Mark.TheVariants as mark
use Rattle.ln_log.specs.declared.update.Removal.{Removal}
use Rattle.ln_log.specs.declared.update.Update.{Update}
use Rattle.ln_log.specs.declared.update.Update.TheVariants as update
use Rattle.ln_log.specs.Updates.{removed, add_with, outcome, is_live, next_id}
use Rattle.ln_log.specs.Limits.{first_fault, is_at_update_limit, update_fault}
use Rattle.ln_log.specs.Log.{Log, proposal_fault, removal_fault, length_fault, peer_limit}
use Rattle.ln_channel.specs.declared.command.Command.{Command}
use Rattle.ln_channel.specs.declared.command.Command.TheVariants as command
use Rattle.ln_channel.specs.declared.machine.ConnectionState.{ConnectionState}
use Rattle.ln_channel.specs.Opening.{unless}
use Rattle.ln_channel.specs.Ledger.{Ledger, first_htlc, marked, decided_first, is_in_turn, is_of_event, may_resume}
use Rattle.ln_channel.specs.Ledger.{with_mark}
use Rattle.ln_channel.specs.End.{End, Turn, is_ready, sending}
use Rattle.ln_channel.specs.State.{is_connected}
use Rattle.ln_channel.specs.Step.{Done, faulted, turned, line_fault, commanded}
use Rattle.ln_channel.specs.Commands.{own_fault, closed_fault, propose_fault, propose_row, proposes}
use Rattle.ln_channel.specs.Commands.{note_row, with_ledger}
use Rattle.ln_dance.specs.Messages.{update_message}
use Rattle.ln_world_channels.specs.declared.step.Act.TheVariants as channel_act
use Rattle.ln_world_channels.specs.declared.step.End.{End as WorldEnd}
use Rattle.ln_world_dispatch.specs.World.{World as Dispatchers, is_dispatched}
use Rattle.ln_world_channels.proofs.Mirror.{link_at}
use Rattle.ln_book_tables.specs.Replay.{is_unsure}

abbrev pub IfErr : {A : Type 0} → (Refusal → Type 0) → Result A Refusal → Type 0
IfErr P (Ok x) = Unit {0}
IfErr P (Err r) = P r

abbrev pub IfFault : (Refusal → Type 0) → Option Refusal → Type 0
IfFault P None = Unit {0}
IfFault P (Some r) = P r

-- it says whether the command was taken
abbrev pub IsCertain : Refusal → Type 0
IsCertain r = is_unsure (refusal_number r) ≡ false

module _ (P : Refusal → Type 0) where
  fault_by : (b : Bool) (x y : Option Refusal) → IfFault P x → IfFault P y → IfFault P (cond b x y)
  fault_by true x y h k = h
  fault_by false x y h k = k

  first_by : (x y : Option Refusal) → IfFault P x → IfFault P y → IfFault P (first_fault x y)
  first_by None y h k = k
  first_by (Some r) y h k = h

  unless_err : {A : Type 0} (o : Option Refusal) (x : A) → IfFault P o → IfErr P (unless o x)
  unless_err None x h = tt
  unless_err (Some r) x h = h

  faulted_err : {A : Type 0} (o : Option Refusal) (row : Result A Refusal) → IfFault P o → IfErr P row
      → IfErr P (faulted o row)
  faulted_err None row h k = k
  faulted_err (Some r) row h k = h

  turned_err : (l : ConnectionState) (row : Result Turn Refusal) → IfErr P row → IfErr P (turned l row)
  turned_err l (Ok t) h = tt
  turned_err l (Err r) h = h

  halted_err : {A : Type 0} (b : Bool) (r : Refusal) (row : Result A Refusal) → (b ≡ true → P r) → IfErr P row
      → IfErr P (cond b (Err r) row)
  halted_err true r row h k = h refl
  halted_err false r row h k = k

-- ---- an update

limited : (o : Option Refusal) → IfFault IsCertain (option_map peer_limit o)
limited None = tt
limited (Some r) = refl

removal_certain : (l : Log) (o : Option Removal) → IfFault IsCertain (removal_fault l o)
removal_certain l None = tt
removal_certain l (Some r) =
    fault_by IsCertain (is_none (add_with r.id l.received)) (Some (refusal.PeerLimit rule.NoSuchHtlc))
    (cond (not (is_live (outcome r.id l.own))) (Some refusal.AlreadyRemoved)
    (cond (is_none (add_with r.id (take l.acknowledged.peer l.received))) (Some refusal.NotCommitted) None)) refl
    (fault_by IsCertain (not (is_live (outcome r.id l.own))) (Some refusal.AlreadyRemoved)
    (cond (is_none (add_with r.id (take l.acknowledged.peer l.received))) (Some refusal.NotCommitted) None) refl
    (fault_by IsCertain (is_none (add_with r.id (take l.acknowledged.peer l.received))) (Some refusal.NotCommitted) None
    refl tt))

length_certain : (u : Update) → IfFault IsCertain (length_fault u)
length_certain (update.Add a) = tt
length_certain (update.Fulfil f) = tt
length_certain (update.Fail f) =
    fault_by IsCertain (nat_lt 65491 (length f.reason)) (Some (refusal.PeerLimit rule.TooLong))
    None refl tt
length_certain (update.Malformed m) = tt
length_certain (update.Fee f) = tt

closed_certain : (e : End) (u : Update) → IfFault IsCertain (closed_fault e u)
closed_certain e (update.Add a) =
    fault_by IsCertain (e.closing.shut || e.closing.peer_shut) (Some refusal.Shut) None refl tt
closed_certain e (update.Fulfil f) = tt
closed_certain e (update.Fail f) = tt
closed_certain e (update.Malformed m) = tt
closed_certain e (update.Fee f) =
    fault_by IsCertain (e.closing.shut || e.closing.peer_shut) (Some refusal.Shut) None refl tt

own_certain : (e : End) (u : Update) → IfFault IsCertain (own_fault e u)
own_certain e u = fault_by IsCertain (not (is_ready e)) (Some refusal.NotReady)
    (cond (is_at_update_limit e.dance.log.own) (Some refusal.NumbersSpent) (closed_fault e u)) refl
    (fault_by IsCertain (is_at_update_limit e.dance.log.own) (Some refusal.NumbersSpent) (closed_fault e u) refl
    (closed_certain e u))

proposal_certain : (l : Log) (u : Update) → IfFault IsCertain (proposal_fault l u)
proposal_certain l u =
    let seen = take l.current.peer l.received in
    let held = take l.acknowledged.peer l.received in
    let fault = update_fault l.opening l.role l.own seen held u in
    let rest = first_fault (option_map peer_limit fault) (length_fault u) in
    first_by IsCertain (cond (is_at_update_limit l.own) (Some refusal.NumbersSpent) None)
    (first_fault (removal_fault l (removed u)) rest)
    (fault_by IsCertain (is_at_update_limit l.own) (Some refusal.NumbersSpent) None refl tt)
    (first_by IsCertain (removal_fault l (removed u)) rest (removal_certain l (removed u))
    (first_by IsCertain (option_map peer_limit fault) (length_fault u) (limited fault) (length_certain u)))

proposed_certain : (u : Update) (e : End) → IfErr IsCertain (propose_row u e)
proposed_certain u e =
    unless_err IsCertain (propose_fault e u) (sending (update_message e.dance.channel u) (proposes u e))
    (first_by IsCertain (own_fault e u) (proposal_fault e.dance.log u) (own_certain e u)
    (proposal_certain e.dance.log u))

line_certain : (l : ConnectionState) → IfFault IsCertain (line_fault l)
line_certain l = fault_by IsCertain (is_connected l) None (Some refusal.Disconnected) tt refl

-- ---- what is about decisions is refused as not ready alone

module _ (P : Refusal → Type 0) (ready : P refusal.NotReady) where
  marked_err : (m : Mark) (htlc : Option ℕ) (l : Ledger) → IfErr P (decided_first (marked m htlc l))
  marked_err mark.None htlc l = tt
  marked_err (mark.Forward channel amount expiry) None l = ready
  marked_err (mark.Forward channel amount expiry) (Some id) l = tt
  marked_err (mark.Fail reason) None l = ready
  marked_err (mark.Fail reason) (Some id) l = tt
  marked_err (mark.Malformed code) None l = ready
  marked_err (mark.Malformed code) (Some id) l = tt
  marked_err (mark.Fulfil preimage) None l = ready
  marked_err (mark.Fulfil preimage) (Some id) l = tt
  marked_err (mark.Held event) None l = ready
  marked_err (mark.Held event) (Some id) l = tt

  with_err : (row : Result Ledger Refusal) (e : End) → IfErr P row → IfErr P (with_ledger row e)
  with_err (Ok l) e h = tt
  with_err (Err r) e h = h

  either_err : {A : Type 0} (b : Bool) (row : Result A Refusal) → IfErr P row
      → IfErr P (cond b row (Err refusal.NotReady))
  either_err true row h = h
  either_err false row h = ready

  pub note_err : (c : Command) (e : End) → IfErr P (note_row c e)
  note_err (command.Decide event m) e = with_err _ e (either_err (is_in_turn event e.ledger && is_of_event event m)
      (decided_first (marked m (first_htlc e.dance.log e.ledger.undecided) e.ledger))
      (marked_err m (first_htlc e.dance.log e.ledger.undecided) e.ledger))
  note_err (command.Forget i) e = tt
  note_err (command.Resume event m) e = with_err _ e (either_err (may_resume event m e.ledger)
      (Ok (record e.ledger { decisions = with_mark event m e.ledger.decisions })) tt)
  note_err (command.Confirm i) e = ready
  note_err (command.Add amount hash expiry onion origin) e = ready
  note_err (command.Fulfil i preimage) e = ready
  note_err (command.Fail i reason) e = ready
  note_err (command.Malformed i sha code) e = ready
  note_err (command.Fee feerate) e = ready
  note_err command.Sign e = ready
  note_err (command.Shutdown script) e = ready

-- ---- a command that a book gives

abbrev pub IsBooks : Command → Type 0
IsBooks (command.Add amount hash expiry onion origin) = Unit {0}
IsBooks (command.Fulfil i preimage) = Unit {0}
IsBooks (command.Fail i reason) = Unit {0}
IsBooks (command.Malformed i sha code) = Unit {0}
IsBooks (command.Decide event m) = Unit {0}
IsBooks (command.Forget i) = Unit {0}
IsBooks (command.Resume event m) = Unit {0}
IsBooks (command.Confirm i) = ⊥
IsBooks (command.Fee feerate) = ⊥
IsBooks command.Sign = ⊥
IsBooks (command.Shutdown script) = ⊥

-- it decides no event
abbrev pub IsFree : Command → Type 0
IsFree (command.Decide event m) = ⊥
IsFree (command.Add amount hash expiry onion origin) = Unit {0}
IsFree (command.Fulfil i preimage) = Unit {0}
IsFree (command.Fail i reason) = Unit {0}
IsFree (command.Malformed i sha code) = Unit {0}
IsFree (command.Forget i) = Unit {0}
IsFree (command.Resume event m) = Unit {0}
IsFree (command.Confirm i) = Unit {0}
IsFree (command.Fee feerate) = Unit {0}
IsFree command.Sign = Unit {0}
IsFree (command.Shutdown script) = Unit {0}

pub free_is : {K : Type 0} (e : WorldEnd) (c : Command) (d : Dispatchers K) → IsFree c
    → is_dispatched e (channel_act.Send c) d ≡ true
free_is e (command.Decide event m) d f = absurd f
free_is e (command.Add amount hash expiry onion origin) d f = refl
free_is e (command.Fulfil i preimage) d f = refl
free_is e (command.Fail i reason) d f = refl
free_is e (command.Malformed i sha code) d f = refl
free_is e (command.Forget i) d f = refl
free_is e (command.Resume event m) d f = refl
free_is e (command.Confirm i) d f = refl
free_is e (command.Fee feerate) d f = refl
free_is e command.Sign d f = refl
free_is e (command.Shutdown script) d f = refl

-- a decision, or a result that is forgotten
abbrev pub IsNote : Command → Type 0
IsNote (command.Decide event m) = Unit {0}
IsNote (command.Forget i) = Unit {0}
IsNote (command.Resume event m) = Unit {0}
IsNote (command.Add amount hash expiry onion origin) = ⊥
IsNote (command.Fulfil i preimage) = ⊥
IsNote (command.Fail i reason) = ⊥
IsNote (command.Malformed i sha code) = ⊥
IsNote (command.Confirm i) = ⊥
IsNote (command.Fee feerate) = ⊥
IsNote command.Sign = ⊥
IsNote (command.Shutdown script) = ⊥

-- an end that has halted says so, and one that hasn't doesn't
abbrev pub IsHaltedOrReady : Bool → Refusal → Type 0
IsHaltedOrReady halted r = ((halted ≡ true) × (r ≡ refusal.Halted)) ⊎ ((halted ≡ false) × (r ≡ refusal.NotReady))

module _ {K : Type 0} (keys : Signer) (halted : Bool) (k : K) (l : ConnectionState) (e : End) where
  ready_certain : IfFault IsCertain (cond (is_ready e) None (Some refusal.NotReady))
  ready_certain = fault_by IsCertain (is_ready e) None (Some refusal.NotReady) tt refl

  update_certain : (u : Update) → IfErr IsCertain (faulted (cond (is_ready e) None (Some refusal.NotReady))
      (faulted (line_fault l) (turned l (propose_row u e))))
  update_certain u = faulted_err IsCertain (cond (is_ready e) None (Some refusal.NotReady))
      (faulted (line_fault l) (turned l (propose_row u e))) ready_certain
      (faulted_err IsCertain (line_fault l) (turned l (propose_row u e)) (line_certain l)
      (turned_err IsCertain l (propose_row u e) (proposed_certain u e)))

  pub certain : (c : Command) → IsBooks c → IfErr IsCertain (commanded keys (link_at halted k l e) c)
  certain (command.Add amount hash expiry onion origin) b = halted_err IsCertain halted refusal.Halted _ (λ h. refl)
      (update_certain (update.Add (record {
        id = next_id e.dance.log.own;
        amount = amount;
        hash = hash;
        expiry = expiry;
        onion = onion;
        origin = origin;
      })))
  certain (command.Fulfil i preimage) b = halted_err IsCertain halted refusal.Halted _ (λ h. refl)
      (update_certain (update.Fulfil (record { id = i; preimage = preimage })))
  certain (command.Fail i reason) b = halted_err IsCertain halted refusal.Halted _ (λ h. refl)
      (update_certain (update.Fail (record { id = i; reason = reason })))
  certain (command.Malformed i sha code) b = halted_err IsCertain halted refusal.Halted _ (λ h. refl)
      (update_certain (update.Malformed (record { id = i; sha256_of_onion = sha; failure_code = code })))
  certain (command.Decide event m) b = halted_err IsCertain halted refusal.Halted _ (λ h. refl)
      (turned_err IsCertain l (note_row (command.Decide event m) e)
      (note_err IsCertain refl (command.Decide event m) e))
  certain (command.Forget i) b = halted_err IsCertain halted refusal.Halted _ (λ h. refl)
      (turned_err IsCertain l (note_row (command.Forget i) e) (note_err IsCertain refl (command.Forget i) e))
  certain (command.Resume event m) b = halted_err IsCertain halted refusal.Halted _ (λ h. refl)
      (turned_err IsCertain l (note_row (command.Resume event m) e)
      (note_err IsCertain refl (command.Resume event m) e))
  certain (command.Confirm i) b = absurd b
  certain (command.Fee feerate) b = absurd b
  certain command.Sign b = absurd b
  certain (command.Shutdown script) b = absurd b

  note_by : (b : Bool) → halted ≡ b → (row : Result Done Refusal) → IfErr (λ r. r ≡ refusal.NotReady) row
      → IfErr (IsHaltedOrReady halted) (cond b (Err refusal.Halted) row)
  note_by true is row h = inl (is, refl)
  note_by false is (Ok d) h = tt
  note_by false is (Err r) h = inr (is, h)

  pub note_refused : (c : Command) → IsNote c → IfErr (IsHaltedOrReady halted) (commanded keys (link_at halted k l e) c)
  note_refused (command.Decide event m) n = note_by halted refl (turned l (note_row (command.Decide event m) e))
      (turned_err (λ r. r ≡ refusal.NotReady) l (note_row (command.Decide event m) e)
      (note_err (λ r. r ≡ refusal.NotReady) refl (command.Decide event m) e))
  note_refused (command.Forget i) n = note_by halted refl (turned l (note_row (command.Forget i) e))
      (turned_err (λ r. r ≡ refusal.NotReady) l (note_row (command.Forget i) e)
      (note_err (λ r. r ≡ refusal.NotReady) refl (command.Forget i) e))
  note_refused (command.Resume event m) n = note_by halted refl (turned l (note_row (command.Resume event m) e))
      (turned_err (λ r. r ≡ refusal.NotReady) l (note_row (command.Resume event m) e)
      (note_err (λ r. r ≡ refusal.NotReady) refl (command.Resume event m) e))
  note_refused (command.Add amount hash expiry onion origin) n = absurd n
  note_refused (command.Fulfil i preimage) n = absurd n
  note_refused (command.Fail i reason) n = absurd n
  note_refused (command.Malformed i sha code) n = absurd n
  note_refused (command.Confirm i) n = absurd n
  note_refused (command.Fee feerate) n = absurd n
  note_refused command.Sign n = absurd n
  note_refused (command.Shutdown script) n = absurd n
