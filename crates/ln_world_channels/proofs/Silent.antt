-- A command that is refused sends nothing.
use Rattle.std.proofs.Common.{◌≡◌, ℕ, List, [], refl, Bool, true, false, cond, not, ◌||◌, Option, Some, None, is_none}
use Rattle.std.proofs.Common.{Result, Ok, Err, option_map, take, nat_lt, length}
use Rattle.ln_refusals.specs.declared.refusal.Refusal.{Refusal}
use Rattle.ln_refusals.specs.declared.refusal.Refusal.TheVariants as refusal
use Rattle.ln_refusals.specs.declared.peer_rule.PeerRule.TheVariants as rule
use Rattle.ln_keys.specs.Signer.{Signer}
use Rattle.ln_log.specs.declared.update.Update.{Update}
use Rattle.ln_log.specs.declared.update.Update.TheVariants as update
use Rattle.ln_log.specs.declared.update.Removal.{Removal}
use Rattle.ln_log.specs.Updates.{next_id, removed, add_with, outcome, is_live}
use Rattle.ln_log.specs.Limits.{first_fault, is_at_update_limit, update_fault}
use Rattle.ln_log.specs.Log.{Log, peer_limit, removal_fault, length_fault, proposal_fault, same_counts, after_sign}
use Rattle.ln_log.specs.Log as log
use Rattle.ln_dance.specs.Dance.{Dancer, owes, is_last, sign_fault}
use Rattle.ln_channel.specs.declared.command.Command.{Command}
use Rattle.ln_channel.specs.declared.command.Command.TheVariants as command
use Rattle.ln_channel.specs.declared.machine.ConnectionState.{ConnectionState}
use Rattle.ln_channel.specs.declared.machine.ConnectionState.TheVariants.{Down, AwaitingReestablish, Connected}
use Rattle.ln_channel.specs.Opening.{unless}
use Rattle.ln_channel.specs.End.{End, Turn, is_ready, is_closed, all_acknowledged}
use Rattle.ln_channel.specs.Commands.{command_row, confirm_fault, shut_by_either, closed_fault, own_fault}
use Rattle.ln_channel.specs.Commands.{propose_fault}
use Rattle.ln_channel.specs.Commands.{propose_row, sign_command_fault, script_fault, shut_fault, unready_fault}
use Rattle.ln_channel.specs.Step.{faulted, line_fault}
use Rattle.ln_channel_laws.specs.Ends.{command_at}
use Rattle.ln_world_channels.specs.Lines.{replies}

module _ (id : List ℕ) where
  abbrev IsSilent : Option Refusal → Type 0
  IsSilent None = Unit {0}
  IsSilent (Some r) = replies id r ≡ []

  abbrev pub IsSilentRow : Result Turn Refusal → Type 0
  IsSilentRow (Ok t) = Unit {0}
  IsSilentRow (Err r) = replies id r ≡ []

  either : (b : Bool) (f g : Option Refusal) → IsSilent f → IsSilent g → IsSilent (cond b f g)
  either true f g h k = h
  either false f g h k = k

  firsts : (f g : Option Refusal) → IsSilent f → IsSilent g → IsSilent (first_fault f g)
  firsts None g h k = k
  firsts (Some r) g h k = h

  one : (b : Bool) (r : Refusal) → replies id r ≡ [] → IsSilent (cond b (Some r) None)
  one b r h = either b (Some r) None h tt

  silent_unless : (f : Option Refusal) (t : Turn) → IsSilent f → IsSilentRow (unless f t)
  silent_unless None t h = tt
  silent_unless (Some r) t h = h

  silent_confirm : (e : End) → IsSilent (confirm_fault e)
  silent_confirm e = one (e.readiness.ready_sent || is_closed e) refusal.NotReady refl

  silent_shut : (e : End) → IsSilent (shut_by_either e)
  silent_shut e = one (e.closing.shut || e.closing.peer_shut) refusal.Shut refl

  silent_closed : (e : End) (u : Update) → IsSilent (closed_fault e u)
  silent_closed e (update.Add a) = silent_shut e
  silent_closed e (update.Fulfil f) = tt
  silent_closed e (update.Fail f) = tt
  silent_closed e (update.Malformed m) = tt
  silent_closed e (update.Fee f) = silent_shut e

  silent_own : (e : End) (u : Update) → IsSilent (own_fault e u)
  silent_own e u = either (not (is_ready e)) (Some refusal.NotReady) _ refl
      (either (is_at_update_limit e.dance.log.own) (Some refusal.NumbersSpent) (closed_fault e u) refl
      (silent_closed e u))

  silent_removal : (l : Log) (r : Option Removal) → IsSilent (removal_fault l r)
  silent_removal l None = tt
  silent_removal l (Some r) =
      either (is_none (add_with r.id l.received)) (Some (refusal.PeerLimit rule.NoSuchHtlc)) _ refl
      (either (not (is_live (outcome r.id l.own))) (Some refusal.AlreadyRemoved) _ refl
      (one (is_none (add_with r.id (take l.acknowledged.peer l.received))) refusal.NotCommitted refl))

  silent_limit : (f : Option Refusal) → IsSilent (option_map peer_limit f)
  silent_limit None = tt
  silent_limit (Some r) = refl

  silent_length : (u : Update) → IsSilent (length_fault u)
  silent_length (update.Add a) = tt
  silent_length (update.Fulfil f) = tt
  silent_length (update.Fail f) = one (nat_lt 65491 (length f.reason)) (refusal.PeerLimit rule.TooLong) refl
  silent_length (update.Malformed m) = tt
  silent_length (update.Fee f) = tt

  silent_proposal : (l : Log) (u : Update) → IsSilent (proposal_fault l u)
  silent_proposal l u =
      let at = update_fault l.opening l.role l.own (take l.current.peer l.received)
      (take l.acknowledged.peer l.received) u in
      firsts (cond (is_at_update_limit l.own) (Some refusal.NumbersSpent) None) _
      (one (is_at_update_limit l.own) refusal.NumbersSpent refl)
      (firsts (removal_fault l (removed u)) _ (silent_removal l (removed u))
      (firsts (option_map peer_limit at) (length_fault u) (silent_limit at) (silent_length u)))

  silent_propose : (u : Update) (e : End) → IsSilentRow (propose_row u e)
  silent_propose u e = silent_unless (propose_fault e u) _
      (firsts (own_fault e u) (proposal_fault e.dance.log u) (silent_own e u) (silent_proposal e.dance.log u))

  silent_log : (l : Log) → IsSilent (log.sign_fault l)
  silent_log l = either (same_counts l.acknowledged l.signed)
      (cond (same_counts l.signed (after_sign l).signed) (Some refusal.NothingToSign) None)
      (Some refusal.SignatureOutstanding)
      (one (same_counts l.signed (after_sign l).signed) refusal.NothingToSign refl) refl

  silent_sign : (d : Dancer) → IsSilent (sign_fault d)
  silent_sign d = either (owes d) (Some refusal.SignatureOutstanding) _ refl
      (firsts (log.sign_fault d.log) _ (silent_log d.log) (one (is_last d.numbers.signed) refusal.NumbersSpent refl))

  silent_script : (script : List ℕ) → IsSilent (script_fault script)
  silent_script script = one _ (refusal.PeerLimit rule.TooLong) refl

  silent_shutdown : (script : List ℕ) (e : End) → IsSilent (shut_fault script e)
  silent_shutdown script e = either e.closing.shut (Some refusal.Shut) _ refl
      (either (all_acknowledged e.dance.log) (script_fault script) (Some refusal.UpdatesPending)
      (silent_script script) refl)

  silent_row : (keys : Signer) (c : Command) (e : End) → IsSilentRow (command_row keys c e)
  silent_row keys (command.Confirm i) e = silent_unless (confirm_fault e) _ (silent_confirm e)
  silent_row keys (command.Add amount hash expiry onion origin) e = silent_propose (update.Add (record {
    id = next_id e.dance.log.own;
    amount = amount;
    hash = hash;
    expiry = expiry;
    onion = onion;
    origin = origin;
  })) e
  silent_row keys (command.Fulfil i preimage) e =
      silent_propose (update.Fulfil (record { id = i; preimage = preimage })) e
  silent_row keys (command.Fail i reason) e = silent_propose (update.Fail (record { id = i; reason = reason })) e
  silent_row keys (command.Malformed i sha code) e =
      silent_propose (update.Malformed (record { id = i; sha256_of_onion = sha; failure_code = code })) e
  silent_row keys (command.Fee feerate) e = silent_propose (update.Fee (record { feerate = feerate })) e
  silent_row keys command.Sign e = silent_unless (sign_command_fault e) _
      (either (is_ready e) (sign_fault e.dance) (Some refusal.NotReady) (silent_sign e.dance) refl)
  silent_row keys (command.Shutdown script) e = silent_unless (shut_fault script e) _ (silent_shutdown script e)
  silent_row keys (command.Decide event mark) e = refl
  silent_row keys (command.Forget i) e = refl
  silent_row keys (command.Resume event mark) e = refl

  not_ready : (e : End) → IsSilent (cond (is_ready e) None (Some refusal.NotReady))
  not_ready e = either (is_ready e) None (Some refusal.NotReady) tt refl

  silent_unready : (c : Command) (e : End) → IsSilent (unready_fault c e)
  silent_unready (command.Confirm i) e = silent_confirm e
  silent_unready (command.Shutdown script) e = tt
  silent_unready (command.Add amount hash expiry onion origin) e = not_ready e
  silent_unready (command.Fulfil i preimage) e = not_ready e
  silent_unready (command.Fail i reason) e = not_ready e
  silent_unready (command.Malformed i sha code) e = not_ready e
  silent_unready (command.Fee feerate) e = not_ready e
  silent_unready command.Sign e = not_ready e
  silent_unready (command.Decide event mark) e = not_ready e
  silent_unready (command.Forget i) e = not_ready e
  silent_unready (command.Resume event mark) e = not_ready e

  silent_line : (l : ConnectionState) → IsSilent (line_fault l)
  silent_line Down = refl
  silent_line AwaitingReestablish = refl
  silent_line Connected = tt

  silent_faulted : (f : Option Refusal) (r : Result Turn Refusal) → IsSilent f → IsSilentRow r
      → IsSilentRow (faulted f r)
  silent_faulted None r h k = k
  silent_faulted (Some f) r h k = h

  pub silent_at : (keys : Signer) (l : ConnectionState) (c : Command) (e : End) → IsSilentRow (command_at keys l c e)
  silent_at keys l c e = silent_faulted (unready_fault c e) _ (silent_unready c e)
      (silent_faulted (line_fault l) (command_row keys c e) (silent_line l) (silent_row keys c e))
