-- A message or a command, as what is said of it where it is known.
use Rattle.std.proofs.Common.{sym, ap, subst, inl, inr, ℕ, List, Bool, true, false, ◌≡◌, ◌∙◌, ◌⊎◌, Result, Ok}
use Rattle.std.proofs.Common.{if◌then◌else◌, Option, None, Some, []}
use Rattle.ln_refusals.specs.declared.refusal.Refusal.{Refusal}
use Rattle.ln_refusals.specs.declared.refusal.Refusal.TheVariants as refusal
use Rattle.ln_msgs.specs.declared.messages.message.Message.{Message}
use Rattle.ln_msgs.specs.declared.messages.message.Message.TheVariants as message
use Rattle.ln_keys.specs.Signer.{Signer}
use Rattle.ln_keys.specs.declared.role.Role.TheVariants.{Fundee}
use Rattle.ln_close.specs.declared.closing.Fees.{Fees}
use Rattle.ln_log.specs.declared.update.Update.{Update}
use Rattle.ln_channel.specs.declared.command.Command.{Command}
use Rattle.ln_channel.specs.declared.machine.ConnectionState.{ConnectionState}
use Rattle.ln_channel.specs.declared.machine.Stage.{Stage}
use Rattle.ln_bytes.specs.Same.{are_same}
use Rattle.ln_msgs.specs.declared.messages.opening.FundingCreated.{FundingCreated}
use Rattle.ln_msgs.specs.declared.messages.opening.FundingSigned.{FundingSigned}
use Rattle.ln_msgs.specs.Messages.Channel.{id_of_channel}
use Rattle.ln_channel.specs.declared.opening.Opened.{Opened}
use Rattle.ln_channel.specs.declared.opening.Terms.{Terms}
use Rattle.ln_channel.specs.Opening.{Agreement, Gives, unless, first_fault, opened_by, fundee_end, signed_end}
use Rattle.ln_channel.specs.Opening.{funding_message}
use Rattle.ln_channel.specs.Opening.{created_taken}
use Rattle.ln_channel.specs.Outputs.{Handed}
use Rattle.ln_channel.specs.End.{End, MakesBy, Makes}
use Rattle.ln_dance.specs.Messages.{update_of}
use Rattle.ln_channel.specs.Taking.{is_viewed, update_row, told_row, message_row, taken}
use Rattle.ln_channel.specs.Commands.{command_row, unready_fault}
use Rattle.ln_channel.specs.State.{State, is_connected}
use Rattle.ln_channel.specs.Step.{Done, turned, faulted, line_fault, obeyed_open, awaiting_at, saved_at, stage_row}
use Rattle.ln_channel.specs.Step.{if_any, opening_at, is_passed_over, message_fault, at_hand, Moves, MovesEnd, Takes}

-- ---- a message

pub taken_so : (keys : Signer) (m known : Message) (e old new : End) (answer : Result Handed Refusal) → m ≡ known
    → MakesBy (is_viewed known) (message_row keys known e) answer old new
    → MakesBy (is_viewed m) (message_row keys m e) answer old new
taken_so keys m known e old new answer is h =
    subst (λ (x : Message). MakesBy (is_viewed x) (message_row keys x e) answer old new) (sym is) h

pub known_so : (u : Option Update) (known : Update) (e old new : End) (answer : Result Handed Refusal)
    → u ≡ Some known → Makes (update_row known e) answer old new → Makes (told_row u e) answer old new
known_so u known e old new answer is h = subst (λ (x : Option Update). Makes (told_row x e) answer old new) (sym is) h

-- a message that tells an update
abbrev IsBy : {A : Type 0} → (A → Message) → Message → Type 0
IsBy {A} by m = (x : A) × (m ≡ by x)

abbrev TellsUpdate : Message → Type 0
TellsUpdate m = IsBy message.UpdateAddHtlc m ⊎ (IsBy message.UpdateFulfillHtlc m ⊎ (IsBy message.UpdateFailHtlc m
    ⊎ (IsBy message.UpdateFailMalformedHtlc m ⊎ IsBy message.UpdateFee m)))

abbrev IsTold : Signer → End → End → End → Result Handed Refusal → Message → Type 0
IsTold keys e old new answer m = Makes (told_row (update_of m) e) answer old new
    → MakesBy (is_viewed m) (message_row keys m e) answer old new

row_told : (keys : Signer) (m : Message) (e old new : End) (answer : Result Handed Refusal)
    → TellsUpdate m → IsTold keys e old new answer m
row_told keys m e old new answer (inl t) = subst (IsTold keys e old new answer) (sym t.1) (λ h. h)
row_told keys m e old new answer (inr (inl t)) = subst (IsTold keys e old new answer) (sym t.1) (λ h. h)
row_told keys m e old new answer (inr (inr (inl t))) = subst (IsTold keys e old new answer) (sym t.1) (λ h. h)
row_told keys m e old new answer (inr (inr (inr (inl t)))) = subst (IsTold keys e old new answer) (sym t.1) (λ h. h)
row_told keys m e old new answer (inr (inr (inr (inr t)))) = subst (IsTold keys e old new answer) (sym t.1) (λ h. h)

pub told_so : (keys : Signer) (u : Option Update) (m : Message) (e old new : End) (answer : Result Handed Refusal)
    → u ≡ update_of m → TellsUpdate m → Makes (told_row u e) answer old new
    → MakesBy (is_viewed m) (message_row keys m e) answer old new
told_so keys u m e old new answer told tells h = row_told keys m e old new answer tells
    (subst (λ (x : Option Update). Makes (told_row x e) answer old new) told h)

pub opened_so : (keys : Signer) (l : ConnectionState) (m known : Message) (s new : Stage)
    (answer : Result Handed Refusal)
    → m ≡ known → Moves (is_viewed known) (opening_at keys l known s) answer l l s new
    → Moves (is_viewed m) (opening_at keys l m s) answer l l s new
opened_so keys l m known s new answer is h =
    subst (λ (x : Message). Moves (is_viewed x) (opening_at keys l x s) answer l l s new) (sym is) h

-- a funding_created of this channel
pub created_so : (keys : Signer) (a : Agreement) (fees : Fees) (terms : Terms) (m : FundingCreated) (channel : List ℕ)
    (o : Opened) (answer : Result (Opened × FundingSigned) Refusal)
    → are_same m.temporary_id a.terms.open_channel.temporary_id ≡ true → record { fees = fees; terms = terms } ≡ a
    → channel ≡ id_of_channel m.funding_txid m.output_index → o ≡ opened_by Fundee channel fees terms
    → Gives true (signed_end keys channel o m.signature) answer → Gives true (created_taken keys a m) answer
created_so keys a fees terms m channel o answer same agreed named is h =
    let end = fundee_end a m in
    let given : Opened × FundingSigned = (end, funding_message keys a m) in
    let fault : Bool → Option Refusal = λ b.
    if b then first_fault keys end.dance m.signature else Some refusal.OutOfPlace in
    let made : o ≡ end = is ∙ ap (λ (x : List ℕ). opened_by Fundee x fees terms) named
    ∙ ap (λ (x : Agreement). fundee_end x m) agreed in
    subst (λ (b : Bool). Gives true (unless (fault b) given) answer) (sym same)
    (subst (λ (x : Opened). Gives true (signed_end keys (id_of_channel m.funding_txid m.output_index) x m.signature)
    answer) made
    (subst (λ (x : List ℕ). Gives true (signed_end keys x o m.signature) answer) named h))

-- by what it is, where a call was handed that
pub asked_so : {M : Type 0} (at : M → Stage → Result Done Refusal) (part : Message → Option M) (views : Bool)
    (l : ConnectionState) (u : Option M) (m known : Message) (s new : Stage) (answer : Result Handed Refusal)
    → u ≡ part m → m ≡ known → Moves views (if_any at u s) answer l l s new
    → Moves views (if_any at (part known) s) answer l l s new
asked_so {M} at part views l u m known s new answer told is h =
    subst (λ (x : Option M). Moves views (if_any at x s) answer l l s new) (told ∙ ap part is) h

pub awaited_so : (keys : Signer) (l l' : ConnectionState) (m known : Message) (e old new : End)
    (answer : Result Handed Refusal)
    → m ≡ known → MovesEnd (is_viewed known) (awaiting_at keys known e) answer l l' old new
    → MovesEnd (is_viewed m) (awaiting_at keys m e) answer l l' old new
awaited_so keys l l' m known e old new answer is h =
    subst (λ (x : Message). MovesEnd (is_viewed x) (awaiting_at keys x e) answer l l' old new) (sym is) h

-- once the peer is there
pub met_so : (views : Bool) (keys : Signer) (l : ConnectionState) (m : Message) (e old new : End)
    (answer : Result Handed Refusal) → is_connected l ≡ true
    → MovesEnd views (turned l (taken keys m e)) answer l l old new
    → MovesEnd views (saved_at keys l m e) answer l l old new
met_so views keys l m e old new answer met h =
    let row : Bool → Result Done Refusal = λ b. if b then turned l (taken keys m e) else awaiting_at keys m e in
    subst (λ (b : Bool). MovesEnd views (row b) answer l l old new) (sym met) h

-- it isn't passed over, and nothing is wrong with it
pub at_hand_so : {K : Type 0} (views : Bool) (keys : Signer) (connection : ConnectionState) (m : Message)
    (l new : State K)
    (answer : Result Handed Refusal) → connection ≡ l.connection → is_passed_over l.stage m ≡ false
    → message_fault connection l.stage m ≡ None → Takes views (stage_row keys l.connection m l.stage) answer l new
    → Takes views (at_hand keys l.connection m l.stage) answer l new
at_hand_so views keys connection m l new answer same met right h =
    let row = stage_row keys l.connection m l.stage in
    let fault = ap (λ (x : ConnectionState). message_fault x l.stage m) (sym same) ∙ right in
    subst (λ (b : Bool). Takes views (if b then Ok (record { connection = l.connection; stage = l.stage; outputs = [] })
    else faulted (message_fault l.connection l.stage m) row) answer l new) (sym met)
    (subst (λ (f : Option Refusal). Takes views (faulted f row) answer l new) (sym fault) h)

-- ---- a command

pub obeyed_so : (keys : Signer) (l : ConnectionState) (c : Command) (e old new : End) (answer : Result Handed Refusal)
    → unready_fault c e ≡ None → is_connected l ≡ true
    → MovesEnd false (turned l (command_row keys c e)) answer l l old new
    → MovesEnd false (obeyed_open keys l c e) answer l l old new
obeyed_so keys l c e old new answer ready met h =
    let row = turned l (command_row keys c e) in
    let there : Bool → Result Done Refusal = λ b. faulted (if b then None else Some refusal.Disconnected) row in
    let so : Option Refusal → Result Done Refusal = λ f. faulted f (faulted (line_fault l) row) in
    subst (λ (f : Option Refusal). MovesEnd false (so f) answer l l old new) (sym ready)
    (subst (λ (b : Bool). MovesEnd false (there b) answer l l old new) (sym met) h)
