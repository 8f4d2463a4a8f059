-- What is sent again as a connection comes back (BOLT 2, "Message Retransmission").
use Rattle.std.specs.Prelude.{List, [], ◌∷◌, ◌++◌, map, ◌&&◌, Result, if◌then◌else◌}
use Rattle.ln_msgs.specs.declared.messages.commitments.ChannelReestablish.{ChannelReestablish}
use Rattle.ln_msgs.specs.declared.messages.message.Message.{Message}
use Rattle.ln_msgs.specs.declared.messages.message.Message.TheVariants as message
use Rattle.ln_refusals.specs.declared.refusal.Refusal.{Refusal}
use Rattle.ln_keys.specs.Signer.{Signer}
use Rattle.ln_dance.specs.declared.resume.Resend.{Resend}
use Rattle.ln_dance.specs.declared.resume.Resend.TheVariants as resend
use Rattle.ln_dance.specs.Resume.{resume_fault, owed, is_before_the_first}
use Rattle.ln_channel.specs.declared.output.Output.{Output}
use Rattle.ln_channel.specs.declared.output.Output.TheVariants as output
use Rattle.ln_channel.specs.Opening.{unless}
use Rattle.ln_channel.specs.End.{End, Turn, completed, shutdown_message, fee_sent}
use Rattle.ln_channel.specs.Commands.{ready_message}

-- channel_ready, where no side has a commitment but the opening
abbrev pub ready_again : Signer → ChannelReestablish → End → List Output
ready_again keys m e =
    if is_before_the_first m e.dance && e.readiness.ready_sent
    then output.Send (message.ChannelReady (ready_message keys e)) ∷ [] else []

-- what the peer lacks
abbrev pub all_sent : List Message → List Output
all_sent ms = map output.Send ms

abbrev pub one_again : Resend → List Output
one_again (resend.Updates ms) = all_sent ms
one_again (resend.Signature m) = output.Send (message.CommitmentSigned m) ∷ []
one_again (resend.Revocation m) = output.Send (message.RevokeAndAck m) ∷ []

abbrev pub owed_again : List Resend → List Output
owed_again [] = []
owed_again (r ∷ rs) = one_again r ++ owed_again rs

-- the own shutdown, and the last closing fee
abbrev pub shutdown_again : End → List Output
shutdown_again e = if e.closing.shut then output.Send (message.Shutdown (shutdown_message e)) ∷ [] else []

abbrev pub fee_again : Signer → End → List Output
fee_again keys e = fee_sent keys e e.closing.own_fee

-- with this in place of what the peer lacks
abbrev pub sent_with : Signer → ChannelReestablish → List Resend → End → List Output
sent_with keys m lacked e = ((ready_again keys m e ++ owed_again lacked) ++ shutdown_again e) ++ fee_again keys e

abbrev pub sent_again : Signer → ChannelReestablish → End → List Output
sent_again keys m e = sent_with keys m (owed keys m e.dance) e

abbrev pub resumed : Signer → ChannelReestablish → End → Turn
resumed keys m e = record { end = e; handed = record { sent = sent_again keys m e; told = [] } }

abbrev pub resume_row : Signer → ChannelReestablish → End → Result Turn Refusal
resume_row keys m e = unless (resume_fault keys m e.dance) (completed keys (resumed keys m e))
