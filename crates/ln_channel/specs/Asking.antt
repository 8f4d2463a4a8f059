-- What a host that answers for a link's keys sees of it.
use Rattle.std.specs.Prelude.{Bool, not, ◌&&◌, is_none, Option, Some, None, Result, Ok, Err, List, ℕ, replicate}
use Rattle.ln_refusals.specs.declared.refusal.Refusal.{Refusal}
use Rattle.ln_refusals.specs.declared.refusal.Refusal.TheVariants as refusal
use Rattle.ln_msgs.specs.declared.messages.message.Message.{Message}
use Rattle.ln_keys.specs.declared.role.Role.TheVariants.{Fundee}
use Rattle.ln_keys.specs.declared.view.View.{View}
use Rattle.ln_log.specs.declared.log.Pair.TheVariants as pair
use Rattle.ln_log.specs.declared.log.Side.TheVariants as side
use Rattle.ln_dance.specs.Dance.{view_at}
use Rattle.ln_channel.specs.declared.machine.Stage.{Stage}
use Rattle.ln_channel.specs.declared.machine.Stage.TheVariants as stage
use Rattle.ln_channel.specs.End.{End}
use Rattle.ln_channel.specs.Config.{with_funding}
use Rattle.ln_channel.specs.Opening.{Agreement, first_dance}
use Rattle.ln_channel.specs.State.{State}
use Rattle.ln_channel.specs.Step.{is_passed_over, message_fault}

-- the end of a channel whose funding is named
abbrev pub agreed_end : Stage → Option End
agreed_end (stage.AwaitsSigned e) = Some e
agreed_end (stage.Funded e) = Some e
agreed_end s = None

-- what commitment 0 is worth to a fundee; no view tells the channel's id
abbrev pub first_worth : Agreement → View
first_worth a = view_at (pair.Current side.Own) (first_dance Fundee (replicate 32 0) a.terms)

-- that of a fundee that awaits `funding_created`
abbrev pub first_view : Stage → Option View
first_view (stage.AwaitsCreated a) = Some (first_worth a)
first_view s = None

-- a funder that awaits `accept_channel` names another funding; at any other link nothing changes, and it is 40
abbrev pub with_named : List ℕ → ℕ → Stage → Stage
with_named txid output (stage.AwaitsAccept s) = stage.AwaitsAccept (with_funding txid output s)
with_named txid output s = s

abbrev pub naming_answer : Stage → Result (Unit {0}) Refusal
naming_answer (stage.AwaitsAccept s) = Ok tt
naming_answer s = Err refusal.NotReady

-- a message reaches the channel: nothing that is looked at before the channel passes it over or refuses it
abbrev pub reaches_channel : {K : Type 0} → State K → Message → Bool
reaches_channel l m = not l.halted && (is_none l.failure
    && (not (is_passed_over l.stage m) && is_none (message_fault l.connection l.stage m)))
