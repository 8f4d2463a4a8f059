-- By which refusals a link that works answers a command of its book: none of them says that whether it was taken isn't
-- known.
use Rattle.std.proofs.Common.{◌≡◌, ℕ, refl, sym, subst, Bool, true, false, cond, not, ◌&&◌, ◌||◌, ◌==◌, nat_lt}
use Rattle.std.proofs.Common.{is_none, length, take, Option, Some, None, Result, Ok, Err}
use Rattle.std.specs.Prelude.{option_map}
use Rattle.std.proofs.lemmas.Bool.{eqb-true}
use Rattle.ln_refusals.specs.declared.refusal.Refusal.{Refusal}
use Rattle.ln_refusals.specs.declared.refusal.Refusal.TheVariants as refusal
use Rattle.ln_refusals.specs.declared.peer_rule.PeerRule.TheVariants as rule
use Rattle.ln_refusals.specs.Refusal.{refusal_number}
use Rattle.ln_keys.specs.Signer.{Signer}
use Rattle.ln_log.specs.declared.mark.Mark.{Mark}
use Rattle.ln_log.specs.declared.mark.Mark.TheVariants as mark
use Rattle.ln_log.specs.declared.update.Removal.{Removal}
use Rattle.ln_log.specs.declared.update.Update.{Update}
use Rattle.ln_log.specs.declared.update.Update.TheVariants as update
use Rattle.ln_log.specs.Updates.{removed, add_with, outcome, is_live, next_id}
use Rattle.ln_log.specs.Limits.{first_fault, is_at_update_limit, update_fault}
use Rattle.ln_log.specs.Log.{Log, proposal_fault, removal_fault, length_fault, peer_limit}
use Rattle.ln_dance.specs.Messages.{update_message}
use Rattle.ln_channel.specs.declared.command.Command.{Command}
use Rattle.ln_channel.specs.declared.command.Command.TheVariants as command
use Rattle.ln_channel.specs.declared.machine.ConnectionState.{ConnectionState}
use Rattle.ln_channel.specs.declared.machine.Stage.{Stage}
use Rattle.ln_channel.specs.declared.machine.Stage.TheVariants as stage
use Rattle.ln_channel.specs.Failing.{fails, is_failure}
use Rattle.ln_channel.specs.Opening.{unless}
use Rattle.ln_channel.specs.Ledger.{Ledger, first_htlc, marked, decided_first, is_in_turn, is_of_event, may_resume}
use Rattle.ln_channel.specs.Ledger.{with_mark}
use Rattle.ln_channel.specs.End.{End, Turn, is_ready, sending}
use Rattle.ln_channel.specs.State.{State, is_connected}
use Rattle.ln_channel.specs.Step.{faulted, turned, line_fault, commanded, asked, noted, obeyed}
use Rattle.ln_channel.specs.Commands.{own_fault, closed_fault, propose_fault, propose_row, proposes}
use Rattle.ln_channel.specs.Commands.{note_row, with_ledger}
use Rattle.ln_book_tables.specs.Replay.{is_unsure}

abbrev pub IfErr : {A : Type 0} → (Refusal → Type 0) → Result A Refusal → Type 0
IfErr P (Ok x) = Unit {0}
IfErr P (Err r) = P r

abbrev IfFault : (Refusal → Type 0) → Option Refusal → Type 0
IfFault P None = Unit {0}
IfFault P (Some r) = P r

-- it says whether the command was taken
abbrev pub IsCertain : Refusal → Type 0
IsCertain r = is_unsure (refusal_number r) ≡ false

fault_by : (b : Bool) (x y : Option Refusal) → IfFault IsCertain x → IfFault IsCertain y
    → IfFault IsCertain (cond b x y)
fault_by true x y h k = h
fault_by false x y h k = k

first_by : (x y : Option Refusal) → IfFault IsCertain x → IfFault IsCertain y → IfFault IsCertain (first_fault x y)
first_by None y h k = k
first_by (Some r) y h k = h

unless_err : {A : Type 0} (o : Option Refusal) (x : A) → IfFault IsCertain o → IfErr IsCertain (unless o x)
unless_err None x h = tt
unless_err (Some r) x h = h

faulted_err : {A : Type 0} (o : Option Refusal) (row : Result A Refusal) → IfFault IsCertain o → IfErr IsCertain row
    → IfErr IsCertain (faulted o row)
faulted_err None row h k = k
faulted_err (Some r) row h k = h

turned_err : (l : ConnectionState) (row : Result Turn Refusal) → IfErr IsCertain row → IfErr IsCertain (turned l row)
turned_err l (Ok t) h = tt
turned_err l (Err r) h = h

-- ---- a channel that has failed

failure_sure : (n : ℕ) → is_failure n ≡ true → is_unsure n ≡ false
failure_sure n f = cases (n == 60) refl (n == 61) refl
  where
    cases : (a : Bool) → (n == 60) ≡ a → (b : Bool) → (n == 61) ≡ b → a || b ≡ false
    cases true is b at =
        let no : is_failure 60 ≡ true = subst (λ i. is_failure i ≡ true) (eqb-true n 60 is) f in absurd (cc)
    cases false is true at =
        let no : is_failure 61 ≡ true = subst (λ i. is_failure i ≡ true) (eqb-true n 61 at) f in absurd (cc)
    cases false is false at = refl

failed_certain : (o : Option Refusal) → ((r : Refusal) → o ≡ Some r → fails r ≡ true) → IfFault IsCertain o
failed_certain None h = tt
failed_certain (Some r) h = failure_sure (refusal_number r) (h r refl)

-- ---- an update

limited : (o : Option Refusal) → IfFault IsCertain (option_map peer_limit o)
limited None = tt
limited (Some r) = refl

removal_certain : (l : Log) (o : Option Removal) → IfFault IsCertain (removal_fault l o)
removal_certain l None = tt
removal_certain l (Some r) =
    fault_by (is_none (add_with r.id l.received)) (Some (refusal.PeerLimit rule.NoSuchHtlc))
    (cond (not (is_live (outcome r.id l.own))) (Some refusal.AlreadyRemoved)
    (cond (is_none (add_with r.id (take l.acknowledged.peer l.received))) (Some refusal.NotCommitted) None)) refl
    (fault_by (not (is_live (outcome r.id l.own))) (Some refusal.AlreadyRemoved)
    (cond (is_none (add_with r.id (take l.acknowledged.peer l.received))) (Some refusal.NotCommitted) None) refl
    (fault_by (is_none (add_with r.id (take l.acknowledged.peer l.received))) (Some refusal.NotCommitted) None refl tt))

length_certain : (u : Update) → IfFault IsCertain (length_fault u)
length_certain (update.Add a) = tt
length_certain (update.Fulfil f) = tt
length_certain (update.Fail f) =
    fault_by (nat_lt 65491 (length f.reason)) (Some (refusal.PeerLimit rule.TooLong)) None refl tt
length_certain (update.Malformed m) = tt
length_certain (update.Fee f) = tt

closed_certain : (e : End) (u : Update) → IfFault IsCertain (closed_fault e u)
closed_certain e (update.Add a) =
    fault_by (e.closing.shut || e.closing.peer_shut) (Some refusal.Shut) None refl tt
closed_certain e (update.Fulfil f) = tt
closed_certain e (update.Fail f) = tt
closed_certain e (update.Malformed m) = tt
closed_certain e (update.Fee f) =
    fault_by (e.closing.shut || e.closing.peer_shut) (Some refusal.Shut) None refl tt

own_certain : (e : End) (u : Update) → IfFault IsCertain (own_fault e u)
own_certain e u = fault_by (not (is_ready e)) (Some refusal.NotReady)
    (cond (is_at_update_limit e.dance.log.own) (Some refusal.NumbersSpent) (closed_fault e u)) refl
    (fault_by (is_at_update_limit e.dance.log.own) (Some refusal.NumbersSpent) (closed_fault e u) refl
    (closed_certain e u))

proposal_certain : (l : Log) (u : Update) → IfFault IsCertain (proposal_fault l u)
proposal_certain l u =
    let seen = take l.current.peer l.received in
    let held = take l.acknowledged.peer l.received in
    let fault = update_fault l.opening l.role l.own seen held u in
    let rest = first_fault (option_map peer_limit fault) (length_fault u) in
    first_by (cond (is_at_update_limit l.own) (Some refusal.NumbersSpent) None)
    (first_fault (removal_fault l (removed u)) rest)
    (fault_by (is_at_update_limit l.own) (Some refusal.NumbersSpent) None refl tt)
    (first_by (removal_fault l (removed u)) rest (removal_certain l (removed u))
    (first_by (option_map peer_limit fault) (length_fault u) (limited fault) (length_certain u)))

-- ---- what is about decisions is refused as not ready alone

marked_certain : (m : Mark) (htlc : Option ℕ) (l : Ledger) → IfErr IsCertain (decided_first (marked m htlc l))
marked_certain mark.None htlc l = tt
marked_certain (mark.Forward channel amount expiry) None l = refl
marked_certain (mark.Forward channel amount expiry) (Some id) l = tt
marked_certain (mark.Fail reason) None l = refl
marked_certain (mark.Fail reason) (Some id) l = tt
marked_certain (mark.Malformed code) None l = refl
marked_certain (mark.Malformed code) (Some id) l = tt
marked_certain (mark.Fulfil preimage) None l = refl
marked_certain (mark.Fulfil preimage) (Some id) l = tt
marked_certain (mark.Held event) None l = refl
marked_certain (mark.Held event) (Some id) l = tt

with_certain : (row : Result Ledger Refusal) (e : End) → IfErr IsCertain row → IfErr IsCertain (with_ledger row e)
with_certain (Ok l) e h = tt
with_certain (Err r) e h = h

either_certain : {A : Type 0} (b : Bool) (row : Result A Refusal) → IfErr IsCertain row
    → IfErr IsCertain (cond b row (Err refusal.NotReady))
either_certain true row h = h
either_certain false row h = refl

-- ---- a command that a book gives

abbrev pub IsBooks : Command → Type 0
IsBooks (command.Add amount hash expiry onion origin) = Unit {0}
IsBooks (command.Fulfil i preimage) = Unit {0}
IsBooks (command.Fail i reason) = Unit {0}
IsBooks (command.Malformed i sha code) = Unit {0}
IsBooks (command.Decide event m) = Unit {0}
IsBooks (command.Forget i) = Unit {0}
IsBooks (command.Resume event m) = Unit {0}
IsBooks (command.Confirm i) = ⊥
IsBooks (command.Fee feerate) = ⊥
IsBooks command.Sign = ⊥
IsBooks (command.Shutdown script) = ⊥

module _ {K : Type 0} (keys : Signer) (l : State K) (failed : (r : Refusal) → l.failure ≡ Some r → fails r ≡ true) where
  noted_certain : (c : Command) → ((e : End) → IfErr IsCertain (note_row c e)) → (s : Stage)
      → IfErr IsCertain (noted l.connection c s)
  noted_certain c h (stage.Funded e) = turned_err l.connection (note_row c e) (h e)
  noted_certain c h (stage.AwaitsOpen s) = refl
  noted_certain c h (stage.AwaitsAccept s) = refl
  noted_certain c h (stage.AwaitsCreated a) = refl
  noted_certain c h (stage.AwaitsSigned e) = refl
  noted_certain c h stage.Gone = refl

  line_certain : IfFault IsCertain (line_fault l.connection)
  line_certain = fault_by (is_connected l.connection) None (Some refusal.Disconnected) tt refl

  update_certain : (u : Update) (e : End) → IfErr IsCertain (faulted (cond (is_ready e) None (Some refusal.NotReady))
      (faulted (line_fault l.connection) (turned l.connection (propose_row u e))))
  update_certain u e =
      let row = propose_row u e in
      let proposed = unless_err (propose_fault e u) (sending (update_message e.dance.channel u) (proposes u e))
      (first_by (own_fault e u) (proposal_fault e.dance.log u) (own_certain e u) (proposal_certain e.dance.log u)) in
      faulted_err (cond (is_ready e) None (Some refusal.NotReady))
      (faulted (line_fault l.connection) (turned l.connection row))
      (fault_by (is_ready e) None (Some refusal.NotReady) tt refl)
      (faulted_err (line_fault l.connection) (turned l.connection row) line_certain
      (turned_err l.connection row proposed))

  obeyed_certain : (c : Command) → ((e : End) → IfErr IsCertain (obeyed keys l.connection c (stage.Funded e)))
      → (s : Stage) → IfErr IsCertain (faulted l.failure (obeyed keys l.connection c s))
  obeyed_certain c h s = faulted_err l.failure (obeyed keys l.connection c s) (failed_certain l.failure failed) (at s)
    where
      at : (s : Stage) → IfErr IsCertain (obeyed keys l.connection c s)
      at (stage.Funded e) = h e
      at (stage.AwaitsOpen s) = refl
      at (stage.AwaitsAccept s) = refl
      at (stage.AwaitsCreated a) = refl
      at (stage.AwaitsSigned e) = refl
      at stage.Gone = refl

  asked_certain : (c : Command) → IsBooks c → IfErr IsCertain (asked keys l c)
  asked_certain (command.Add amount hash expiry onion origin) b =
      obeyed_certain (command.Add amount hash expiry onion origin) (λ e. update_certain (update.Add (record {
        id = next_id e.dance.log.own;
        amount = amount;
        hash = hash;
        expiry = expiry;
        onion = onion;
        origin = origin;
      })) e) l.stage
  asked_certain (command.Fulfil i preimage) b = obeyed_certain (command.Fulfil i preimage)
      (update_certain (update.Fulfil (record { id = i; preimage = preimage }))) l.stage
  asked_certain (command.Fail i reason) b = obeyed_certain (command.Fail i reason)
      (update_certain (update.Fail (record { id = i; reason = reason }))) l.stage
  asked_certain (command.Malformed i sha code) b = obeyed_certain (command.Malformed i sha code)
      (update_certain (update.Malformed (record { id = i; sha256_of_onion = sha; failure_code = code }))) l.stage
  asked_certain (command.Decide event m) b = noted_certain (command.Decide event m)
      (λ e. with_certain _ e (either_certain (is_in_turn event e.ledger && is_of_event event m)
      (decided_first (marked m (first_htlc e.dance.log e.ledger.undecided) e.ledger))
      (marked_certain m (first_htlc e.dance.log e.ledger.undecided) e.ledger))) l.stage
  asked_certain (command.Forget i) b = noted_certain (command.Forget i) (λ e. tt) l.stage
  asked_certain (command.Resume event m) b = noted_certain (command.Resume event m)
      (λ e. with_certain _ e (either_certain (may_resume event m e.ledger)
      (Ok (record e.ledger { decisions = with_mark event m e.ledger.decisions })) tt)) l.stage
  asked_certain (command.Confirm i) b = absurd b
  asked_certain (command.Fee feerate) b = absurd b
  asked_certain command.Sign b = absurd b
  asked_certain (command.Shutdown script) b = absurd b

  pub certain : (c : Command) → IsBooks c → l.halted ≡ false → IfErr IsCertain (commanded keys l c)
  certain c b works = subst (λ h. IfErr IsCertain (cond h (Err refusal.Halted) (asked keys l c))) (sym works)
      (asked_certain c b)
