-- Which calls of an end neither remove an HTLC nor offer one that forwards another, and leave its decisions as they
-- are.
use Rattle.std.proofs.Common.{◌≡◌, refl, Bool, true, false, cond, Some, None, Ok, Err}
use Rattle.ln_msgs.specs.declared.messages.message.Message.{Message}
use Rattle.ln_refusals.specs.declared.refusal.Refusal.TheVariants as refusal
use Rattle.ln_keys.specs.Signer.{Signer}
use Rattle.ln_channel.specs.declared.command.Command.{Command}
use Rattle.ln_channel.specs.declared.command.Command.TheVariants as command
use Rattle.ln_channel.specs.declared.machine.ConnectionState.{ConnectionState}
use Rattle.ln_channel.specs.End.{End}
use Rattle.ln_channel.specs.State.{State}
use Rattle.ln_channel.specs.Step.{Done, faulted, handled, commanded, asked, is_of_records, at_hand}
use Rattle.ln_world_channels.proofs.Mirror.{link_at}
use Rattle.ln_payment_circuits.specs.Shift.{Stays}
use Rattle.ln_payment_circuits.proofs.Calls.{Plain, IsPlainCommand, taken_plain, resumed_plain, command_plain}
use Rattle.ln_book.specs.Alone.{is_books}
use Rattle.ln_world.proofs.Answering.{IfDone, handled_so, obeyed_so}

plain_command : (c : Command) → is_books c ≡ false → IsPlainCommand c
plain_command (command.Confirm i) b = tt
plain_command (command.Add amount hash expiry onion None) b = refl
plain_command (command.Add amount hash expiry onion (Some origin)) b = absurd (cc)
plain_command (command.Fulfil i preimage) b = absurd (cc)
plain_command (command.Fail i reason) b = absurd (cc)
plain_command (command.Malformed i sha code) b = absurd (cc)
plain_command (command.Fee feerate) b = tt
plain_command command.Sign b = tt
plain_command (command.Shutdown script) b = tt
plain_command (command.Decide event mark) b = tt
plain_command (command.Forget i) b = tt
plain_command (command.Resume event mark) b = tt

module _ {K : Type 0} (keys : Signer) (halted : Bool) (k : K) (l : ConnectionState) (e : End) where
  pub handled_plain : (m : Message) → IfDone (Plain e) (handled keys (link_at halted k l e) m)
  handled_plain m = handled_so (Plain e) keys e (Stays refl refl, tt) (λ n. taken_plain keys n e)
      (λ n. resumed_plain keys n e) halted k l m

  pub commanded_plain : (c : Command) → is_of_records c ≡ false → is_books c ≡ false
      → IfDone (Plain e) (commanded keys (link_at halted k l e) c)
  commanded_plain c isnt b = obeyed_so (Plain e) keys halted k l e c isnt
      (command_plain keys c e (plain_command c b))

-- one that answers hasn't halted
pub awake_handled : {K : Type 0} (keys : Signer) (s : State K) (m : Message) (d : Done) → handled keys s m ≡ Ok d
    → s.halted ≡ false
awake_handled keys s m d e = cases s.halted refl e
  where
    cases : (b : Bool) → s.halted ≡ b
        → cond b (Err refusal.Halted) (faulted s.failure (at_hand keys s.connection m s.stage)) ≡ Ok d
        → s.halted ≡ false
    cases true is f = absurd (cc)
    cases false is f = is

pub awake_commanded : {K : Type 0} (keys : Signer) (s : State K) (c : Command) (d : Done) → commanded keys s c ≡ Ok d
    → s.halted ≡ false
awake_commanded keys s c d e = cases s.halted refl e
  where
    cases : (b : Bool) → s.halted ≡ b → cond b (Err refusal.Halted) (asked keys s c) ≡ Ok d → s.halted ≡ false
    cases true is f = absurd (cc)
    cases false is f = is
