-- A call at each stage of a link, by what its host told and by the host's own keys.
use Rattle.std.proofs.Common.{◌≡◌, refl, ap, ◌∙◌, ℕ, List, [], Bool, true, false, not, ◌&&◌}
use Rattle.std.proofs.Common.{Option, Some, None, is_none, Result, Ok, Err, if◌then◌else◌}
use Rattle.ln_refusals.specs.declared.refusal.Refusal.{Refusal}
use Rattle.ln_refusals.specs.declared.refusal.Refusal.TheVariants as refusal
use Rattle.ln_bytes.specs.Same.{are_same}
use Rattle.ln_keys.specs.Signer.{Signer}
use Rattle.ln_msgs.specs.declared.messages.message.Message.{Message}
use Rattle.ln_msgs.specs.declared.messages.message.Message.TheVariants as message
use Rattle.ln_msgs.specs.declared.messages.opening.AcceptChannel.{AcceptChannel}
use Rattle.ln_msgs.specs.declared.messages.opening.FundingCreated.{FundingCreated}
use Rattle.ln_msgs.specs.declared.messages.opening.FundingSigned.{FundingSigned}
use Rattle.ln_log.specs.declared.log.Pair.TheVariants as pair
use Rattle.ln_log.specs.declared.log.Side.TheVariants as side
use Rattle.ln_dance.specs.Dance.{view_at}
use Rattle.ln_channel.specs.Asking.{first_worth}
use Rattle.ln_channel.specs.declared.command.Command.{Command}
use Rattle.ln_channel.specs.declared.machine.ConnectionState.{ConnectionState}
use Rattle.ln_channel.specs.declared.machine.ConnectionState.TheVariants as connection
use Rattle.ln_channel.specs.declared.machine.Stage.{Stage}
use Rattle.ln_channel.specs.declared.machine.Stage.TheVariants as stage
use Rattle.ln_channel.specs.declared.opening.Opened.{Opened}
use Rattle.ln_channel.specs.Opening.{Agreement, unless, open_fault, agreement, accept_message, accept_fault}
use Rattle.ln_channel.specs.Opening.{funder_end, created_message, fundee_end}
use Rattle.ln_channel.specs.Opening.{funding_message}
use Rattle.ln_channel.specs.End.{End, end_of}
use Rattle.ln_channel.specs.State.{State, is_down}
use Rattle.ln_channel.specs.Taking.{taken}
use Rattle.ln_channel.specs.Resume.{resume_row}
use Rattle.ln_channel.specs.Commands.{command_row, ledgered, with_ledger, unready_fault}
use Rattle.ln_channel.specs.Ledger.{Ledger}
use Rattle.ln_channel.specs.Step.{Done, replied, opening_at, turned, awaiting_at, saved_at, stage_row, faulted}
use Rattle.ln_channel.specs.Step.{is_passed_over, message_fault, handled, noted, obeyed, line_fault, asked}
use Rattle.ln_channel.specs.Step.{is_of_records, commanded, connects, connected}
use Rattle.ln_host.specs.Question.{asked_at, asked_first, asked_saved, question_of}
use Rattle.ln_host.specs.declared.question.Question.{Question}
use Rattle.ln_host_laws.specs.Right.{IsRight}
use Rattle.ln_host_laws.specs.Filled.{filled_row}
use Rattle.ln_host_laws.proofs.Filling.{told, host, turned_filled}
use Rattle.ln_host_laws.proofs.Turns.{taken_filled, resume_filled, command_filled}

-- ---- after faults

faulted_filled : (k : Signer) (f : Option Refusal) (r s : Result Done Refusal) → filled_row k r ≡ s
    → filled_row k (faulted f r) ≡ faulted f s
faulted_filled k None r s p = p
faulted_filled k (Some x) r s p = refl

-- ---- a channel that is being opened

opening_filled : (k : Signer) (y : Bool) (z : List ℕ) (c : ConnectionState) (m : Message) (s : Stage)
    → IsRight k (told k y z) (asked_at c m s) m → filled_row k (opening_at (host k y z) c m s) ≡ opening_at k c m s
opening_filled k y z c (message.OpenChannel m) (stage.AwaitsOpen config) a = by (open_fault config m)
  where
    agreed : Signer → Option Refusal → Result (Agreement × AcceptChannel) Refusal
    agreed keys f = unless f (agreement keys config m, accept_message keys config m)

    answer : Signer → Option Refusal → Result Done Refusal
    answer keys f = replied c stage.AwaitsCreated message.AcceptChannel (agreed keys f)

    by : (f : Option Refusal) → filled_row k (answer (host k y z) f) ≡ answer k f
    by None = refl
    by (Some r) = refl
opening_filled k y z c (message.AcceptChannel m) (stage.AwaitsAccept s) a = by (accept_fault s m)
  where
    named : Signer → Option Refusal → Result (Opened × FundingCreated) Refusal
    named keys f = unless f (funder_end keys s m, created_message keys s m)

    answer : Signer → Option Refusal → Result Done Refusal
    answer keys f = replied c (λ o. stage.AwaitsSigned (end_of o)) message.FundingCreated (named keys f)

    by : (f : Option Refusal) → filled_row k (answer (host k y z) f) ≡ answer k f
    by None = refl
    by (Some r) = refl
opening_filled k y z c (message.FundingCreated m) (stage.AwaitsCreated g) a =
    ap (λ b. filled_row k (answer (host k y z) same b)) a
    ∙ by same (k.accepts 0 (k.point_of 0) (first_worth g) m.signature [])
  where
    same : Bool
    same = are_same m.temporary_id g.terms.open_channel.temporary_id

    fault : Bool → Bool → Option Refusal
    fault s b = if s then (if b then None else Some refusal.SignatureWrong) else Some refusal.OutOfPlace

    signed : Signer → Bool → Bool → Result (Opened × FundingSigned) Refusal
    signed keys s b = unless (fault s b) (fundee_end g m, funding_message keys g m)

    answer : Signer → Bool → Bool → Result Done Refusal
    answer keys s b = replied c (λ o. stage.Funded (end_of o)) message.FundingSigned (signed keys s b)

    by : (s b : Bool) → filled_row k (answer (host k y z) s b) ≡ answer k s b
    by true true = refl
    by true false = refl
    by false b = refl
opening_filled k y z c (message.FundingSigned m) (stage.AwaitsSigned e) a =
    ap (λ b. filled_row k (answer b)) a
    ∙ by (k.accepts 0 (k.point_of 0) (view_at (pair.Current side.Own) e.dance) m.signature [])
  where
    answer : Bool → Result Done Refusal
    answer b = unless (if b then None else Some refusal.SignatureWrong)
        (record { connection = c; stage = stage.Funded e; outputs = [] })

    by : (b : Bool) → filled_row k (answer b) ≡ answer b
    by true = refl
    by false = refl
opening_filled k y z c m s a = refl

-- ---- a message

saved_filled : (k : Signer) (y : Bool) (z : List ℕ) (c : ConnectionState) (m : Message) (e : End)
    → IsRight k (told k y z) (asked_saved c m e) m → filled_row k (saved_at (host k y z) c m e) ≡ saved_at k c m e
saved_filled k y z connection.Connected m e a =
    turned_filled k connection.Connected (taken (host k y z) m e)
    ∙ ap (turned connection.Connected) (taken_filled k y z m e a)
saved_filled k y z c m e a = first m a
  where
    first : (m : Message) → IsRight k (told k y z) (asked_first m e) m
        → filled_row k (awaiting_at (host k y z) m e) ≡ awaiting_at k m e
    first (message.ChannelReestablish m) a =
        turned_filled k connection.Connected (resume_row (host k y z) m e)
        ∙ ap (turned connection.Connected) (resume_filled k y z m e a)
    first m a = refl

stage_filled : (k : Signer) (y : Bool) (z : List ℕ) (c : ConnectionState) (m : Message) (s : Stage)
    → IsRight k (told k y z) (asked_at c m s) m → filled_row k (stage_row (host k y z) c m s) ≡ stage_row k c m s
stage_filled k y z c m (stage.Funded e) a = saved_filled k y z c m e a
stage_filled k y z c m s a = opening_filled k y z c m s a

-- what is looked at before the channel
abbrev behind : Bool → Option Refusal → Bool → Option Refusal → Done → Result Done Refusal → Result Done Refusal
behind halted failure passed fault same row =
    if halted then Err refusal.Halted else faulted failure (if passed then Ok same else faulted fault row)

abbrev asked_behind : Bool → Option Refusal → Bool → Option Refusal → Option Question → Option Question
asked_behind halted failure passed fault q =
    if not halted && (is_none failure && (not passed && is_none fault)) then q else None

behind_filled : (k : Signer) (y : Bool) (z : List ℕ) (m : Message) (halted : Bool) (failure : Option Refusal)
    (passed : Bool) (fault : Option Refusal) (c : ConnectionState) (s : Stage) (q : Option Question)
    (row row' : Result Done Refusal)
    → (IsRight k (told k y z) q m → filled_row k row ≡ row')
    → IsRight k (told k y z) (asked_behind halted failure passed fault q) m
    → filled_row k (behind halted failure passed fault (record { connection = c; stage = s; outputs = [] }) row)
    ≡ behind halted failure passed fault (record { connection = c; stage = s; outputs = [] }) row'
behind_filled k y z m false None false None c s q row row' p a = p a
behind_filled k y z m false None false (Some r) c s q row row' p a = refl
behind_filled k y z m false None true f c s q row row' p a = refl
behind_filled k y z m false (Some r) b f c s q row row' p a = refl
behind_filled k y z m true g b f c s q row row' p a = refl

pub handled_filled : {K : Type 0} (k : Signer) (y : Bool) (z : List ℕ) (l : State K) (m : Message)
    → IsRight k (told k y z) (question_of l m) m → filled_row k (handled (host k y z) l m) ≡ handled k l m
handled_filled k y z l m a =
    behind_filled k y z m l.halted l.failure (is_passed_over l.stage m) (message_fault l.connection l.stage m)
    l.connection l.stage (asked_at l.connection m l.stage) (stage_row (host k y z) l.connection m l.stage)
    (stage_row k l.connection m l.stage) (stage_filled k y z l.connection m l.stage) a

-- ---- a command

noted_filled : (k : Signer) (l : ConnectionState) (c : Command) (s : Stage)
    → filled_row k (noted l c s) ≡ noted l c s
noted_filled k l c (stage.Funded e) = by (ledgered c e)
  where
    by : (r : Result Ledger Refusal) → filled_row k (turned l (with_ledger r e)) ≡ turned l (with_ledger r e)
    by (Ok x) = refl
    by (Err x) = refl
noted_filled k l c s = refl

obeyed_filled : (k : Signer) (y : Bool) (z : List ℕ) (l : ConnectionState) (c : Command) (s : Stage)
    → filled_row k (obeyed (host k y z) l c s) ≡ obeyed k l c s
obeyed_filled k y z l c (stage.Funded e) =
    let h = turned l (command_row (host k y z) c e) in
    let r = turned l (command_row k c e) in
    faulted_filled k (unready_fault c e) (faulted (line_fault l) h) (faulted (line_fault l) r)
    (faulted_filled k (line_fault l) h r
    (turned_filled k l (command_row (host k y z) c e) ∙ ap (turned l) (command_filled k y z c e)))
obeyed_filled k y z l c s = refl

if_filled : (k : Signer) (b : Bool) (r r' s s' : Result Done Refusal) → filled_row k r ≡ r' → filled_row k s ≡ s'
    → filled_row k (if b then r else s) ≡ (if b then r' else s')
if_filled k true r r' s s' p q = p
if_filled k false r r' s s' p q = q

pub commanded_filled : {K : Type 0} (k : Signer) (y : Bool) (z : List ℕ) (l : State K) (c : Command)
    → filled_row k (commanded (host k y z) l c) ≡ commanded k l c
commanded_filled k y z l c =
    let n = noted l.connection c l.stage in
    let h = faulted l.failure (obeyed (host k y z) l.connection c l.stage) in
    let r = faulted l.failure (obeyed k l.connection c l.stage) in
    if_filled k l.halted (Err refusal.Halted) (Err refusal.Halted) (asked (host k y z) l c) (asked k l c) refl
    (if_filled k (is_of_records c) n n h r (noted_filled k l.connection c l.stage)
    (faulted_filled k l.failure (obeyed (host k y z) l.connection c l.stage) (obeyed k l.connection c l.stage)
    (obeyed_filled k y z l.connection c l.stage)))

-- ---- a connection

connects_filled : (k : Signer) (y : Bool) (z : List ℕ) (s : Stage)
    → filled_row k (connects (host k y z) s) ≡ connects k s
connects_filled k y z (stage.AwaitsOpen c) = refl
connects_filled k y z s = refl

pub connected_filled : {K : Type 0} (k : Signer) (y : Bool) (z : List ℕ) (l : State K)
    → filled_row k (connected (host k y z) l) ≡ connected k l
connected_filled k y z l =
    if_filled k l.halted (Err refusal.Halted) (Err refusal.Halted)
    (if is_down l.connection then connects (host k y z) l.stage else Err refusal.NotReady)
    (if is_down l.connection then connects k l.stage else Err refusal.NotReady) refl
    (if_filled k (is_down l.connection) (connects (host k y z) l.stage) (connects k l.stage)
    (Err refusal.NotReady) (Err refusal.NotReady) (connects_filled k y z l.stage) refl)
