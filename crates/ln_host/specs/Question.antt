-- What a host is asked about a message before it is taken: the one answer of keys that decides what becomes of it
-- (BOLT 2).
use Rattle.std.specs.Prelude.{ℕ, ◌+◌, ◌-◌, Bool, not, ◌&&◌, ◌==◌, List, Option, Some, None, if◌then◌else◌}
use Rattle.ln_msgs.specs.declared.messages.message.Message.{Message}
use Rattle.ln_msgs.specs.declared.messages.message.Message.TheVariants as message
use Rattle.ln_msgs.specs.declared.messages.commitments.ChannelReestablish.{ChannelReestablish}
use Rattle.ln_keys.specs.declared.view.View.{View}
use Rattle.ln_log.specs.declared.log.Pair.TheVariants as pair
use Rattle.ln_log.specs.declared.log.Side.TheVariants as side
use Rattle.ln_dance.specs.Dance.{Dancer, view_at, is_last, owes}
use Rattle.ln_dance.specs.Resume.{is_judged_by_secret}
use Rattle.ln_channel.specs.declared.machine.ConnectionState.{ConnectionState}
use Rattle.ln_channel.specs.declared.machine.Stage.{Stage}
use Rattle.ln_channel.specs.declared.machine.Stage.TheVariants as stage
use Rattle.ln_channel.specs.End.{End, is_ready, has_begun}
use Rattle.ln_channel.specs.State.{State, is_connected}
use Rattle.ln_channel.specs.Naming.{opens_agreed, opens_told}
use Rattle.ln_channel.specs.Asking.{first_worth, reaches_channel}
use Rattle.ln_host.specs.Blank.{closing_terms}
use Rattle.ln_host.specs.declared.question.Question.{Question}
use Rattle.ln_host.specs.declared.question.Question.TheVariants as question

-- the peer's signatures over the own next commitment
abbrev pub signatures_asked : End → Question
signatures_asked e =
    question.Signatures e.closing.role (e.dance.numbers.commitment + 1) (view_at pair.ToAccept e.dance)

-- its secret of the commitment that it revokes
abbrev pub secret_asked : Dancer → Question
secret_asked d = question.Secret d.numbers.revoked d.peer.point

-- its signature over the own commitment 0
abbrev pub first_asked : End → Question
first_asked e = question.Signatures e.closing.role 0 (view_at (pair.Current side.Own) e.dance)

abbrev pub if_so : Bool → Question → Option Question
if_so b q = if b then Some q else None

-- about a message of an open channel, on a connection on which the peer is there
abbrev pub asked_open : Message → End → Option Question
asked_open (message.CommitmentSigned m) e =
    if_so (is_ready e && not (is_last e.dance.numbers.commitment)) (signatures_asked e)
asked_open (message.RevokeAndAck m) e = if_so (owes e.dance) (secret_asked e.dance)
asked_open (message.ClosingSigned m) e = if_so (has_begun e) (question.Close (closing_terms m.fee_satoshis e))
asked_open m e = None

-- the own secret that the peer tells back, where it has taken a revocation
abbrev pub asked_back : ChannelReestablish → Dancer → Option Question
asked_back m d =
    if_so (is_judged_by_secret m d && not (m.next_revocation_number == 0))
    (question.OwnSecret (m.next_revocation_number - 1))

-- until the peer is there
abbrev pub asked_first : Message → End → Option Question
asked_first (message.ChannelReestablish m) e = asked_back m e.dance
asked_first m e = None

abbrev pub asked_saved : ConnectionState → Message → End → Option Question
asked_saved c m e = if is_connected c then asked_open m e else asked_first m e

abbrev pub asked_signed : Message → End → Option Question
asked_signed (message.FundingSigned m) e = Some (first_asked e)
asked_signed m e = None

-- about a message that opens a channel: a fundee knows what commitment 0 is worth
abbrev pub asked_opening : Option (List ℕ) → Option View → Option Question
asked_opening None v = None
asked_opening (Some channel) None = Some (question.New channel)
asked_opening (Some channel) (Some v) = Some (question.First channel v)

abbrev pub asked_at : ConnectionState → Message → Stage → Option Question
asked_at c m (stage.AwaitsAccept s) = asked_opening (opens_agreed s m) None
asked_at c m (stage.AwaitsCreated a) = asked_opening (opens_told m) (Some (first_worth a))
asked_at c m (stage.AwaitsSigned e) = asked_signed m e
asked_at c m (stage.Funded e) = asked_saved c m e
asked_at c m s = None

-- none about a message that doesn't reach the channel
abbrev pub question_of : {K : Type 0} → State K → Message → Option Question
question_of l m = if reaches_channel l m then asked_at l.connection m l.stage else None
