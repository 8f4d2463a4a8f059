-- A host is asked about the channel that a message opens, and about no other.
use Rattle.std.proofs.Common.{◌≡◌, refl, ap, ◌∙◌, ℕ, List, Bool, true, false, not, ◌&&◌, ◌||◌, if◌then◌else◌}
use Rattle.std.proofs.Common.{Option, Some, None, is_none, Result, Err, ◌==◌, ◌-◌}
use Rattle.ln_refusals.specs.declared.refusal.Refusal.{Refusal}
use Rattle.ln_refusals.specs.declared.refusal.Refusal.TheVariants as refusal
use Rattle.ln_keys.specs.Signer.{Signer}
use Rattle.ln_keys.specs.declared.view.View.{View}
use Rattle.ln_msgs.specs.declared.messages.message.Message.{Message}
use Rattle.ln_msgs.specs.declared.messages.message.Message.TheVariants as message
use Rattle.ln_dance.specs.Dance.{is_last, owes}
use Rattle.ln_dance.specs.Resume.{is_judged_by_secret}
use Rattle.ln_channel.specs.declared.machine.ConnectionState.{ConnectionState}
use Rattle.ln_channel.specs.declared.machine.ConnectionState.TheVariants as connection
use Rattle.ln_channel.specs.declared.machine.Stage.{Stage}
use Rattle.ln_channel.specs.declared.machine.Stage.TheVariants as stage
use Rattle.ln_channel.specs.Asking.{first_worth, reaches_channel}
use Rattle.ln_channel.specs.End.{End, is_ready, has_begun}
use Rattle.ln_channel.specs.Naming.{opens, opens_agreed, opens_told}
use Rattle.ln_channel.specs.State.{State}
use Rattle.ln_channel.specs.Step.{Done, handled, opened, is_passed_over, message_fault}
use Rattle.ln_store.specs.Store.{Records}
use Rattle.ln_link.specs.Saving.{is_known, handled_beside}
use Rattle.ln_host.specs.declared.keys.HostKeys.{HostKeys}
use Rattle.ln_host.specs.declared.question.Question.{Question}
use Rattle.ln_host.specs.declared.question.Question.TheVariants as question
use Rattle.ln_host.specs.Blank.{closing_terms}
use Rattle.ln_host.specs.Keys.{host_signer}
use Rattle.ln_host.specs.Question.{question_of, asked_at, asked_open, asked_first, asked_opening, if_so}
use Rattle.ln_host.specs.Question.{signatures_asked, secret_asked}
use Rattle.ln_host_laws.specs.Alike.{IsAlike}
use Rattle.ln_host_laws.specs.Right.{IsRight}
use Rattle.ln_host_laws.specs.Filled.{filled_row}
use Rattle.ln_host_laws.specs.Known.{channel_asked}
use Rattle.ln_host_laws.proofs.Links.{is_over, message_law}

opening_asked : (o : Option (List ℕ)) (v : Option View) → channel_asked (asked_opening o v) ≡ o
opening_asked None v = refl
opening_asked (Some channel) None = refl
opening_asked (Some channel) (Some v) = refl

-- a question about no channel
no_channel : (b : Bool) (q : Question) → channel_asked (Some q) ≡ None → channel_asked (if_so b q) ≡ None
no_channel true q p = p
no_channel false q p = refl

open_asked : (m : Message) (e : End) → channel_asked (asked_open m e) ≡ None
open_asked (message.CommitmentSigned m) e =
    no_channel (is_ready e && not (is_last e.dance.numbers.commitment)) (signatures_asked e) refl
open_asked (message.RevokeAndAck m) e = no_channel (owes e.dance) (secret_asked e.dance) refl
open_asked (message.ClosingSigned m) e =
    no_channel (has_begun e) (question.Close (closing_terms m.fee_satoshis e)) refl
open_asked m e = refl

first_asked : (m : Message) (e : End) → channel_asked (asked_first m e) ≡ None
first_asked (message.ChannelReestablish m) e =
    no_channel (is_judged_by_secret m e.dance && not (m.next_revocation_number == 0))
    (question.OwnSecret (m.next_revocation_number - 1)) refl
first_asked m e = refl

saved_asked : (c : ConnectionState) (m : Message) (e : End)
    → channel_asked (asked_at c m (stage.Funded e)) ≡ None
saved_asked connection.Connected m e = open_asked m e
saved_asked c m e = first_asked m e

at_asked : (c : ConnectionState) (m : Message) (s : Stage) → channel_asked (asked_at c m s) ≡ opens s m
at_asked c m (stage.AwaitsAccept s) = opening_asked (opens_agreed s m) None
at_asked c m (stage.AwaitsCreated a) = opening_asked (opens_told m) (Some (first_worth a))
at_asked c m (stage.Funded e) = saved_asked c m e
at_asked c (message.FundingSigned m) (stage.AwaitsSigned e) = refl
at_asked c m s = refl

reached_asked : (halted : Bool) (failure : Option Refusal) (b : Bool) (q : Option Question) (o : Option (List ℕ))
    → channel_asked q ≡ o → (not halted && (is_none failure && b)) ≡ true
    → channel_asked (if not halted && (is_none failure && b) then q else None)
    ≡ (if halted || not (is_none failure) then None else o)
reached_asked false None true q o p t = p
reached_asked false None false q o p t = absurd (cc)
reached_asked false (Some r) b q o p t = absurd (cc)
reached_asked true f b q o p t = absurd (cc)

pub asked_law : {K : Type 0} (l : State K) (m : Message) → reaches_channel l m ≡ true
    → channel_asked (question_of l m) ≡ opened l m
asked_law l m t =
    reached_asked l.halted l.failure
    (not (is_passed_over l.stage m) && is_none (message_fault l.connection l.stage m))
    (asked_at l.connection m l.stage) (opens l.stage m) (at_asked l.connection m l.stage) t

-- ---- over a store

known_filled : (k : Signer) (a b : Bool) (r s : Result Done Refusal) → a ≡ b → filled_row k r ≡ s
    → filled_row k (if a then Err refusal.OutOfPlace else r) ≡ (if b then Err refusal.OutOfPlace else s)
known_filled k a b r s p q = ap (λ x. filled_row k (if x then Err refusal.OutOfPlace else r)) p ∙ by b
  where
    by : (x : Bool) → filled_row k (if x then Err refusal.OutOfPlace else r) ≡ (if x then Err refusal.OutOfPlace else s)
    by true = refl
    by false = q

pub beside_law : {K : Type 0} (k : Signer) (h : HostKeys) (l : State HostKeys) (l' : State K) (m : Message)
    (rs rs' : Records) → h.first_point ≡ k.point_of 0 → IsAlike l l' → IsRight k h (question_of l m) m
    → is_known (opened l m) rs ≡ is_known (opened l m) rs'
    → filled_row k (handled_beside rs (host_signer h) l m) ≡ handled_beside rs' k l' m
beside_law {K} k h l l' m rs rs' p same a known =
    known_filled k (is_known (opened l m) rs) (is_known (opened l m) rs') (handled (host_signer h) l m) (handled k l' m)
    known (message_law k h l l' m p same a)
    ∙ ap (λ (x : State K). if is_known (opened x m) rs' then Err refusal.OutOfPlace else handled k l' m)
    (is_over l l' same)
