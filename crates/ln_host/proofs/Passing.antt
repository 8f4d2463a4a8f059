-- What a link's calls promise of vectors of outputs, said of lists.
use Rattle.std.proofs.Common.{◌≡◌, ℕ, List, [], Option, Result, Ok, Err, Vec, Global, refl, sym, ap}
use Rattle.std.proofs.Common.{subst, ◌∙◌, inl, inr}
use Rattle.ln_refusals.specs.declared.refusal.Refusal.{Refusal}
use Rattle.ln_refusals.specs.declared.refusal.Refusal.TheVariants as refusal
use Rattle.ln_keys.specs.Signer.{Signer}
use Rattle.ln_msgs.specs.declared.messages.message.Message.{Message}
use Rattle.ln_log.specs.declared.log.Side.{Side}
use Rattle.ln_channel.specs.declared.command.Command.{Command}
use Rattle.ln_channel.specs.declared.output.Output.{Output}
use Rattle.ln_channel.specs.State.{State, halts}
use Rattle.ln_channel.specs.Step.{Done, Reaches, Answered}
use Rattle.ln_store.specs.Store.{StoreView}
use Rattle.ln_link.specs.Saving.{HandsOut, AnswersCommand, AnswersMessage, AnswersOver, taken_alone}
use Rattle.ln_link.specs.Saving.{is_update, sent_alone, sends_update, handled_beside}
use Rattle.ln_host.specs.declared.answer.Answer.{Answer}
use Rattle.ln_host.specs.declared.answer.HostRefusal.{HostRefusal}
use Rattle.ln_host.specs.declared.answer.HostRefusal.TheVariants as host
use Rattle.ln_host.specs.declared.keys.HostKeys.{HostKeys}
use Rattle.ln_host.specs.declared.seen.Seen.{Seen}
use Rattle.ln_host.specs.Hearing.{ByAnswer, kept, Replies, reply_due}
use Rattle.ln_host.specs.Hosted.{Seat, handed, Hands, HandsInPart, WaitInPart}
use Rattle.ln_host.specs.Line.{Waiting}

-- what vectors hold
abbrev pub outputs_in : Vec Output Global → List Output
outputs_in v = v.items

abbrev pub listed : {V E : Type 0} → (V → List Output) → Result V E → Result (List Output) E
listed outs (Ok v) = Ok (outs v)
listed outs (Err e) = Err e

reaches_listed : {K V : Type 0} (outs : V → List Output) (said : Result Done Refusal) (l : State K) (v : V)
    (new : State K) → Reaches outs said l v new → Reaches (λ (os : List Output). os) said l (outs v) new
reaches_listed outs (Ok d) l v new h = h
reaches_listed outs (Err r) l v new h = h

pub answered_listed : {K V : Type 0} (outs : V → List Output) (said : Result Done Refusal) (l : State K)
    (result : Result V Refusal) (new : State K) → Answered outs said l result new
    → Answered (λ (os : List Output). os) said l (listed outs result) new
answered_listed outs said l (Ok v) new h = reaches_listed outs said l v new h
answered_listed outs said l (Err e) new h = h

hands_listed : {K V : Type 0} (brings : List Output → Option Side) (outs : V → List Output) (said : Result Done Refusal)
    (l : State K) (v : V) (new : State K) (before behind : StoreView)
    → HandsOut brings outs said l v new before behind
    → HandsOut brings (λ (os : List Output). os) said l (outs v) new before behind
hands_listed brings outs (Ok d) l v new before behind h = h
hands_listed brings outs (Err r) l v new before behind h = h

pub command_listed : {K V : Type 0} (outs : V → List Output) (said : Result Done Refusal) (l : State K) (c : Command)
    (result : Result V Refusal) (new : State K) (before behind : StoreView)
    → AnswersCommand outs said l c result new before behind
    → AnswersCommand (λ (os : List Output). os) said l c (listed outs result) new before behind
command_listed outs said l c (Ok v) new before behind h =
    hands_listed (λ (os : List Output). sent_alone (sends_update c)) outs said l v new before behind h
command_listed outs said l c (Err e) new before behind h = h

message_listed : {K V : Type 0} (outs : V → List Output) (said : Result Done Refusal) (l : State K) (m : Message)
    (result : Result V Refusal) (new : State K) (before behind : StoreView)
    → AnswersMessage outs said l m result new before behind
    → AnswersMessage (λ (os : List Output). os) said l m (listed outs result) new before behind
message_listed outs said l m (Ok v) new before behind h =
    hands_listed (taken_alone (is_update m)) outs said l v new before behind h
message_listed outs said l m (Err e) new before behind h = h

pub over_listed : {K V : Type 0} (outs : V → List Output) (keys : Signer) (l : State K) (m : Message)
    (result : Result V Refusal) (new : State K) (before behind : StoreView)
    → AnswersOver outs keys l m result new before behind
    → AnswersOver (λ (os : List Output). os) keys l m (listed outs result) new before behind
over_listed outs keys l m (Ok v) new before behind h =
    message_listed outs (handled_beside before.records keys l m) l m (Ok v) new before behind h
over_listed outs keys l m (Err e) new before behind h = h

-- ---- what is handed out, and want of memory

here_in_part : (os : List Output) (s : Seat) (link : State HostKeys) (line : Waiting) → link ≡ halts s.link
    → WaitInPart s.link.stage os (handed [] s).line line
    → HandsInPart os s (record (handed [] s) { link = link; line = line })
here_in_part os s link line k w = record {
  first = w.first;
  next = w.next;
  rest = w.rest;
  parts = w.parts;
  halts =
      ap (λ (l : State HostKeys). let x : Seat = record (handed [] s) { link = l; line = line } in x) k
      ∙ ap (λ (y : Waiting). let x : Seat = record (handed [] s) { link = halts s.link; line = y } in x) w.line;
}

-- of a link whose record was put
pub in_part : (os : List Output) (s put : Seat) (link : State HostKeys) (line : Waiting) → put ≡ handed [] s
    → link ≡ halts put.link → WaitInPart put.link.stage os put.line line
    → HandsInPart os s (record put { link = link; line = line })
in_part os s put link line e =
    subst (λ (p : Seat). link ≡ halts p.link → WaitInPart p.link.stage os p.line line
    → HandsInPart os s (record p { link = link; line = line })) (sym e) (here_in_part os s link line)

-- ---- messages

-- want of memory before the link takes it
pub lacks_before : (m : Message) (x : Seen) (a : Result Answer HostRefusal) (e : HostRefusal) (s : Seat)
    → e ≡ host.Refused refusal.Memory → ByAnswer m x a (Err e) s s
lacks_before m x (Ok a) e s k = (Err refusal.Memory, ap (λ (r : HostRefusal). Err r) k, inl (refl, refl))
lacks_before m x (Err r) e s k = (refl, inr (ap (λ (r : HostRefusal). Err r) k))

-- the link's own call, with what is kept of its message
pub hears_by : (m : Message) (x : Seen) (os : List Output) (s kept_seat : Seat) (result : Result (Unit {0}) Refusal)
    (new : Seat) → kept_seat ≡ kept x s → Hands os kept_seat result new → Hands os (kept x s) result new
hears_by m x os s kept_seat result new e h = subst (λ (k : Seat). Hands os k result new) e h

pub replies_by : (r e : Refusal) (channel told : Option (List ℕ)) (s put new : Seat) → put ≡ handed [] s
    → told ≡ channel → Replies (reply_due r told put.link.connection) r e put new
    → Replies (reply_due r channel s.link.connection) r e (handed [] s) new
replies_by r e channel told s put new p c h =
    subst (λ (o : Option (List ℕ)). Replies (reply_due r o s.link.connection) r e (handed [] s) new) c
    (subst (λ (k : Seat). Replies (reply_due r told k.link.connection) r e k new) p h)
