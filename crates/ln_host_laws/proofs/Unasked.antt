-- What a host told where nothing was asked.
use Rattle.std.proofs.Common.{◌≡◌, refl, sym, ap, ◌∙◌, subst, Bool, map, Option, Some, None, Result, Ok, Err}
use Rattle.ln_refusals.specs.declared.refusal.Refusal.{Refusal}
use Rattle.ln_keys.specs.Signer.{Signer}
use Rattle.ln_msgs.specs.declared.messages.message.Message.{Message}
use Rattle.ln_channel.specs.declared.machine.Stage.{Stage}
use Rattle.ln_channel.specs.declared.output.Output.{Output}
use Rattle.ln_channel.specs.declared.output.Output.TheVariants as output
use Rattle.ln_channel.specs.State.{State}
use Rattle.ln_channel.specs.Step.{Done, handled}
use Rattle.ln_host.specs.declared.blank.Blank.{Blank}
use Rattle.ln_host.specs.declared.blank.Blank.TheVariants as blank
use Rattle.ln_host.specs.declared.keys.HostKeys.{HostKeys}
use Rattle.ln_host.specs.declared.question.Question.{Question}
use Rattle.ln_host.specs.declared.question.Question.TheVariants as question
use Rattle.ln_host.specs.Keys.{host_signer}
use Rattle.ln_host.specs.Question.{question_of}
use Rattle.ln_host.specs.Blank.{filling_by, filled, answered_by, blank_of}
use Rattle.ln_host_laws.specs.Alike.{IsAlike}
use Rattle.ln_host_laws.specs.Right.{IsRight, told_for}
use Rattle.ln_host_laws.specs.Filled.{filled_output, filled_row}
use Rattle.ln_host_laws.proofs.Links.{message_law}

itself : {K : Type 0} (l : State K) → IsAlike l l
itself l = record { connection = refl; halted = refl; failure = refl; stage = refl }

-- another host with the same first point would have filled in what is blank
pub unasked_law : (h h' : HostKeys) (l : State HostKeys) (m : Message) → h.first_point ≡ h'.first_point
    → question_of l m ≡ None → filled_row (host_signer h') (handled (host_signer h) l m) ≡ handled (host_signer h') l m
unasked_law h h' l m p none =
    message_law (host_signer h') h l l m p (itself l)
    (subst (λ (q : Option Question). IsRight (host_signer h') h q m) (sym none) tt)

-- by its own answers what a host told is right
right_itself : (h : HostKeys) (q : Option Question) (m : Message) → IsRight (host_signer h) h q m
right_itself h None m = tt
right_itself h (Some (question.New channel)) m = tt
right_itself h (Some q) m = refl

-- and by keys that a host asks
pub told_right : (k : Signer) (q : Option Question) (m : Message) → IsRight k (told_for k q m) q m
told_right k None m = tt
told_right k (Some (question.New channel)) m = tt
told_right k (Some q) m = refl

-- ---- what is filled in doesn't depend on what was told of the message

abbrev judging : Bool → HostKeys → HostKeys
judging y h = record h { is_right = y }

filling_same : (y : Bool) (h : HostKeys) (b : Blank)
    → filling_by (host_signer h) b ≡ filling_by (host_signer (judging y h)) b
filling_same y h (blank.Point n) = refl
filling_same y h b = refl

message_same : (y : Bool) (h : HostKeys) (b : Option Blank) (m : Message)
    → answered_by (host_signer h) b m ≡ answered_by (host_signer (judging y h)) b m
message_same y h None m = refl
message_same y h (Some b) m = ap (λ f. filled f m) (filling_same y h b)

output_same : (y : Bool) (h : HostKeys) (s : Stage) (o : Output)
    → filled_output (host_signer h) s o ≡ filled_output (host_signer (judging y h)) s o
output_same y h s (output.Send m) = ap output.Send (message_same y h (blank_of s m) m)
output_same y h s o = refl

row_same : (y : Bool) (h : HostKeys) (r : Result Done Refusal)
    → filled_row (host_signer h) r ≡ filled_row (host_signer (judging y h)) r
row_same y h (Ok d) =
    ap (λ (f : Output → Output). Ok (record d { outputs = map f d.outputs })) (λ i o. output_same y h d.stage o i)
row_same y h (Err r) = refl

-- ---- so what was told decides nothing

judged_as : (h h' : HostKeys) → h.first_point ≡ h'.first_point → h.secret ≡ h'.secret → judging h.is_right h' ≡ h
judged_as h h' p s = λ i. record { first_point = sym p i; is_right = h.is_right; secret = sym s i }

pub same_secret_law : (h h' : HostKeys) (l : State HostKeys) (m : Message) → h.first_point ≡ h'.first_point
    → h.secret ≡ h'.secret → question_of l m ≡ None → handled (host_signer h) l m ≡ handled (host_signer h') l m
same_secret_law h h' l m p s none =
    let r = handled (host_signer h) l m in
    sym (message_law (host_signer h) h l l m refl (itself l) (right_itself h (question_of l m) m))
    ∙ ap (λ (x : HostKeys). filled_row (host_signer x) r) (sym (judged_as h h' p s))
    ∙ sym (row_same h.is_right h' r)
    ∙ unasked_law h h' l m p none
