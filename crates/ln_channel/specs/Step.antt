-- What a call makes of a link (BOLT 1 and 2).
use Rattle.std.specs.Prelude.{◌≡◌, ◌⊎◌, ℕ, List, [], ◌∷◌, Bool, true, false, not, ◌&&◌, ◌||◌, Option, Some, None}
use Rattle.std.specs.Prelude.{is_none, Result, Ok, Err, if◌then◌else◌}
use Rattle.ln_bytes.specs.Answers.{fault_of}
use Rattle.ln_msgs.specs.declared.messages.message.Message.{Message}
use Rattle.ln_msgs.specs.declared.messages.message.Message.TheVariants as message
use Rattle.ln_msgs.specs.declared.messages.opening.OpenChannel.{OpenChannel}
use Rattle.ln_msgs.specs.declared.messages.opening.AcceptChannel.{AcceptChannel}
use Rattle.ln_msgs.specs.declared.messages.opening.FundingCreated.{FundingCreated}
use Rattle.ln_msgs.specs.declared.messages.opening.FundingSigned.{FundingSigned}
use Rattle.ln_refusals.specs.declared.refusal.Refusal.{Refusal}
use Rattle.ln_refusals.specs.declared.refusal.Refusal.TheVariants as refusal
use Rattle.ln_keys.specs.Signer.{Signer}
use Rattle.ln_log.specs.Limits.{first_fault as first_of}
use Rattle.ln_dance.specs.Resume.{reestablish_message}
use Rattle.ln_channel.specs.declared.command.Command.{Command}
use Rattle.ln_channel.specs.declared.command.Command.TheVariants as command
use Rattle.ln_channel.specs.declared.machine.ConnectionState.{ConnectionState}
use Rattle.ln_channel.specs.declared.machine.ConnectionState.TheVariants as connection
use Rattle.ln_channel.specs.declared.machine.Stage.{Stage}
use Rattle.ln_channel.specs.declared.machine.Stage.TheVariants as stage
use Rattle.ln_channel.specs.declared.output.Output.{Output}
use Rattle.ln_channel.specs.declared.output.Output.TheVariants as output
use Rattle.ln_channel.specs.Outputs.{Handed, all_of}
use Rattle.ln_channel.specs.Opening.{unless, open_message, open_taken, accept_taken, created_taken}
use Rattle.ln_channel.specs.Opening.{first_fault, LacksBy, Lacks}
use Rattle.ln_channel.specs.End.{End, Turn, end_of}
use Rattle.ln_channel.specs.Taking.{is_viewed, taken}
use Rattle.ln_channel.specs.Resume.{resume_row}
use Rattle.ln_channel.specs.Commands.{command_row, note_row, unready_fault}
use Rattle.ln_channel.specs.Naming.{named, is_meant, is_other, opens}
use Rattle.ln_channel.specs.Failing.{fails}
use Rattle.ln_channel.specs.State.{State, StandsFor, StageStands, is_down, is_connected, is_saved, refused, IsHalted}

-- what a call leaves, and what it hands out
pub record Done : Type 0 where
  pub connection : ConnectionState
  pub stage : Stage
  pub outputs : List Output

-- ---- a channel that is being opened: each message has its stage (BOLT 2, "Channel Establishment v1")

abbrev pub replied : {A M : Type 0} → ConnectionState → (A → Stage) → (M → Message) → Result (A × M) Refusal
    → Result Done Refusal
replied l to by (Ok r) = Ok (record { connection = l; stage = to r.0; outputs = output.Send (by r.1) ∷ [] })
replied l to by (Err r) = Err r

abbrev pub open_at : Signer → ConnectionState → OpenChannel → Stage → Result Done Refusal
open_at keys l m (stage.AwaitsOpen c) = replied l stage.AwaitsCreated message.AcceptChannel (open_taken keys c m)
open_at keys l m s = Err refusal.OutOfPlace

abbrev pub accept_at : Signer → ConnectionState → AcceptChannel → Stage → Result Done Refusal
accept_at keys l m (stage.AwaitsAccept s) =
    replied l (λ o. stage.AwaitsSigned (end_of o)) message.FundingCreated (accept_taken keys s m)
accept_at keys l m s = Err refusal.OutOfPlace

abbrev pub created_at : Signer → ConnectionState → FundingCreated → Stage → Result Done Refusal
created_at keys l m (stage.AwaitsCreated a) =
    replied l (λ o. stage.Funded (end_of o)) message.FundingSigned (created_taken keys a m)
created_at keys l m s = Err refusal.OutOfPlace

abbrev pub signed_at : Signer → ConnectionState → FundingSigned → Stage → Result Done Refusal
signed_at keys l m (stage.AwaitsSigned e) =
    unless (first_fault keys e.dance m.signature) (record { connection = l; stage = stage.Funded e; outputs = [] })
signed_at keys l m s = Err refusal.OutOfPlace

abbrev pub saved : Stage → Stage
saved (stage.AwaitsSigned e) = stage.Funded e
saved s = s

-- by what a message is, if it is that
abbrev pub if_any : {M : Type 0} → (M → Stage → Result Done Refusal) → Option M → Stage → Result Done Refusal
if_any at (Some m) s = at m s
if_any at None s = Err refusal.OutOfPlace

abbrev pub opening_at : Signer → ConnectionState → Message → Stage → Result Done Refusal
opening_at keys l (message.OpenChannel m) s = open_at keys l m s
opening_at keys l (message.AcceptChannel m) s = accept_at keys l m s
opening_at keys l (message.FundingCreated m) s = created_at keys l m s
opening_at keys l (message.FundingSigned m) s = signed_at keys l m s
opening_at keys l m s = Err refusal.OutOfPlace

-- ---- an open channel: until the peer's channel_reestablish has come, nothing else may (BOLT 2, "Message
-- Retransmission")

abbrev pub turned : ConnectionState → Result Turn Refusal → Result Done Refusal
turned l (Ok t) = Ok (record { connection = l; stage = stage.Funded t.end; outputs = all_of t.handed })
turned l (Err r) = Err r

abbrev pub awaiting_at : Signer → Message → End → Result Done Refusal
awaiting_at keys (message.ChannelReestablish m) e = turned connection.Connected (resume_row keys m e)
awaiting_at keys m e = Err refusal.OutOfPlace

abbrev pub saved_at : Signer → ConnectionState → Message → End → Result Done Refusal
saved_at keys l m e = if is_connected l then turned l (taken keys m e) else awaiting_at keys m e

abbrev pub stage_row : Signer → ConnectionState → Message → Stage → Result Done Refusal
stage_row keys l m (stage.Funded e) = saved_at keys l m e
stage_row keys l m s = opening_at keys l m s

-- ---- what is looked at before the channel

-- a warning, an error for another channel, and what is of no channel
abbrev pub is_passed_over : Stage → Message → Bool
is_passed_over s (message.Warning m) = true
is_passed_over s (message.Init m) = true
is_passed_over s (message.Ping m) = true
is_passed_over s (message.Pong m) = true
is_passed_over s (message.Error m) = not (is_meant s m.channel_id)
is_passed_over s m = false

-- another channel's message (20), and one that comes without a connection (21)
abbrev pub stray_fault : ConnectionState → Stage → Message → Option Refusal
stray_fault l s m =
    if is_other (named m) s then Some refusal.UnknownChannel else (if is_down l then Some refusal.OutOfPlace else None)

-- an error for the channel (37)
abbrev pub error_fault : Message → Option Refusal
error_fault (message.Error m) = Some refusal.PeerError
error_fault m = None

-- the first of them
abbrev pub message_fault : ConnectionState → Stage → Message → Option Refusal
message_fault l s m = first_of (error_fault m) (stray_fault l s m)

abbrev pub faulted : {A : Type 0} → Option Refusal → Result A Refusal → Result A Refusal
faulted None row = row
faulted (Some r) row = Err r

abbrev pub at_hand : Signer → ConnectionState → Message → Stage → Result Done Refusal
at_hand keys l m s =
    if is_passed_over s m then Ok (record { connection = l; stage = s; outputs = [] })
    else faulted (message_fault l s m) (stage_row keys l m s)

-- a message: 62, then the number by which the channel has failed
abbrev pub handled : {K : Type 0} → Signer → State K → Message → Result Done Refusal
handled keys l m = if l.halted then Err refusal.Halted else faulted l.failure (at_hand keys l.connection m l.stage)

-- the channel that a message opens; none of a link that has halted or failed
abbrev pub opened : {K : Type 0} → State K → Message → Option (List ℕ)
opened l m = if l.halted || not (is_none l.failure) then None else opens l.stage m

-- ---- a command

-- those about what a record keeps of decisions
abbrev pub is_of_records : Command → Bool
is_of_records (command.Decide event mark) = true
is_of_records (command.Forget id) = true
is_of_records (command.Resume event mark) = true
is_of_records c = false

-- what sends needs a connection on which the peer was met (47)
abbrev pub line_fault : ConnectionState → Option Refusal
line_fault l = if is_connected l then None else Some refusal.Disconnected

abbrev pub obeyed_open : Signer → ConnectionState → Command → End → Result Done Refusal
obeyed_open keys l c e = faulted (unready_fault c e) (faulted (line_fault l) (turned l (command_row keys c e)))

abbrev pub obeyed : Signer → ConnectionState → Command → Stage → Result Done Refusal
obeyed keys l c (stage.Funded e) = obeyed_open keys l c e
obeyed keys l c s = Err refusal.NotReady

-- decisions are taken without a connection too
abbrev pub noted : ConnectionState → Command → Stage → Result Done Refusal
noted l c (stage.Funded e) = turned l (note_row c e)
noted l c s = Err refusal.NotReady

-- and by a channel that has failed
abbrev pub asked : {K : Type 0} → Signer → State K → Command → Result Done Refusal
asked keys l c =
    if is_of_records c then noted l.connection c l.stage else faulted l.failure (obeyed keys l.connection c l.stage)

abbrev pub commanded : {K : Type 0} → Signer → State K → Command → Result Done Refusal
commanded keys l c = if l.halted then Err refusal.Halted else asked keys l c

-- ---- a connection

abbrev pub connects : Signer → Stage → Result Done Refusal
connects keys (stage.AwaitsOpen c) = Ok
    (record { connection = connection.Connected; stage = stage.AwaitsOpen c; outputs = [] })
connects keys (stage.AwaitsAccept s) =
    Ok (record {
      connection = connection.Connected;
      stage = stage.AwaitsAccept s;
      outputs = output.Send (message.OpenChannel (open_message keys s)) ∷ [];
    })
connects keys (stage.Funded e) =
    Ok (record {
      connection = connection.AwaitingReestablish;
      stage = stage.Funded e;
      outputs = output.Send (message.ChannelReestablish (reestablish_message keys e.dance)) ∷ [];
    })
connects keys s = Err refusal.NotReady

abbrev pub connected : {K : Type 0} → Signer → State K → Result Done Refusal
connected keys l =
    if l.halted then Err refusal.Halted
    else (if is_down l.connection then connects keys l.stage else Err refusal.NotReady)

-- ---- answers

-- a channel that has failed looks at none
abbrev pub makes_view : {K : Type 0} → State K → Message → Bool
makes_view l m = is_none l.failure && is_viewed m

-- what is said is handed out, and what is kept stands for the link with its line and stage
abbrev pub Reaches : {K V : Type 0} → (V → List Output) → Result Done Refusal → State K → V → State K → Type 0
Reaches outs (Ok d) l v new = (outs v ≡ d.outputs)
    × StandsFor new (record l { connection = d.connection; stage = d.stage })
Reaches outs (Err r) l v new = ⊥

-- want of memory halts; else a call answers what is said of it, and leaves the link so, or as it leaves it where it
-- refuses
abbrev pub AnsweredBy : {K V : Type 0} → Bool → (V → List Output) → Result Done Refusal → State K → (Refusal → State K)
    → Result V Refusal → State K → Type 0
AnsweredBy views outs said l after (Ok v) new = Reaches outs said l v new
AnsweredBy views outs said l after (Err e) new =
    (LacksBy views e (fault_of said) × IsHalted l new) ⊎ ((said ≡ Err e) × StandsFor new (after e))

-- a message: a refusal by which a channel fails is kept
abbrev pub AnsweredMessage : {K V : Type 0} → (V → List Output) → Result Done Refusal → State K → Message
    → Result V Refusal → State K → Type 0
AnsweredMessage outs said l m result new = AnsweredBy (makes_view l m) outs said l (λ e. refused e l) result new

-- a command, or a connection: refused, nothing has changed
abbrev pub Answered : {K V : Type 0} → (V → List Output) → Result Done Refusal → State K → Result V Refusal
    → State K → Type 0
Answered outs said l result new = AnsweredBy false outs said l (λ e. l) result new

-- ---- the parts of an answer

-- a call leaves this line and what is kept of a stage, and hands this out
abbrev pub IsDone : Result Done Refusal → Handed → ConnectionState → Stage → Type 0
IsDone (Ok d) h l kept = (d.connection ≡ l) × StageStands kept d.stage × (all_of h ≡ d.outputs)
IsDone (Err r) h l kept = ⊥

-- what is left of a stage after a refusal: all of it, or nothing of an opening that fails
abbrev pub IsLeft : Refusal → Stage → Stage → Type 0
IsLeft r s kept = StageStands kept s ⊎ ((fails r ≡ true) × (is_saved s ≡ false) × StageStands kept stage.Gone)

-- a stage and a line, by what is said of the stage that it stands for
abbrev pub Moves : Bool → Result Done Refusal → Result Handed Refusal → ConnectionState → ConnectionState → Stage
    → Stage → Type 0
Moves views said (Ok h) l l' s new = IsDone said h l' new
Moves views said (Err e) l l' s new =
    LacksBy views e (fault_of said) ⊎ ((said ≡ Err e) × (l' ≡ l) × IsLeft e s new)

-- an end that isn't replaced, with its line
abbrev pub MovesEnd : Bool → Result Done Refusal → Result Handed Refusal → ConnectionState → ConnectionState
    → End → End → Type 0
MovesEnd views said (Ok h) l l' e e' = IsDone said h l' (stage.Funded e')
MovesEnd views said (Err r) l l' e e' = LacksBy views r (fault_of said) ⊎ ((said ≡ Err r) × (l' ≡ l) × (e' ≡ e))

-- a stage of the opening, which is replaced; where it refuses, the channel fails
abbrev pub Becomes : Bool → ConnectionState → Result Done Refusal → Result Handed Refusal → Stage → Type 0
Becomes views l said (Ok h) s' = IsDone said h l s'
Becomes views l said (Err e) s' =
    LacksBy views e (fault_of said) ⊎ ((said ≡ Err e) × (fails e ≡ true) × (s' ≡ stage.Gone))

-- a link that leaves its line and stage so, or as they were
abbrev pub MovesBy : {K : Type 0} → Result Done Refusal → Result Handed Refusal → State K → State K → Type 0
MovesBy said (Ok h) l new = Reaches all_of said l h new
MovesBy said (Err e) l new = Lacks e (fault_of said) ⊎ ((said ≡ Err e) × StandsFor new l)

-- or, where it refuses, without an opening that fails
abbrev pub Loses : {K : Type 0} → Refusal → State K → State K → Type 0
Loses r l new =
    StandsFor new l
    ⊎ ((fails r ≡ true) × (is_saved l.stage ≡ false) × StandsFor new (record l { stage = stage.Gone }))

abbrev pub Takes : {K : Type 0} → Bool → Result Done Refusal → Result Handed Refusal → State K → State K → Type 0
Takes views said (Ok h) l new = Reaches all_of said l h new
Takes views said (Err e) l new = LacksBy views e (fault_of said) ⊎ ((said ≡ Err e) × Loses e l new)
