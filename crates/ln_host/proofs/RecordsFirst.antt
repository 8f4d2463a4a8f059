-- The record of a hosted link stands first wherever the host hasn't taken it.
use Rattle.std.proofs.Common.{◌≡◌, ℕ, Bool, true, false, List, [], ◌∷◌, length, ◌==◌, Option, Some, None}
use Rattle.std.proofs.Common.{Result, Ok, Err, refl, sym, ap, subst, ◌∙◌, inl, inr, cond}
use Rattle.std.specs.FinMap as finite
use Rattle.ln_refusals.specs.declared.refusal.Refusal.{Refusal}
use Rattle.ln_msgs.specs.Messages.Message.{Wire}
use Rattle.ln_msgs.specs.declared.messages.message.Message.{Message}
use Rattle.ln_store.specs.Store.{Records}
use Rattle.ln_channel.specs.declared.machine.Stage.{Stage}
use Rattle.ln_channel.specs.declared.machine.Stage.TheVariants as stage
use Rattle.ln_channel.specs.declared.output.Output.{Output}
use Rattle.ln_channel.specs.declared.output.Output.TheVariants as output
use Rattle.ln_channel.specs.Asking.{with_named}
use Rattle.ln_channel.specs.End.{End}
use Rattle.ln_channel.specs.Record.{saved_end}
use Rattle.ln_channel.specs.State.{State, cut, is_down, drops}
use Rattle.ln_host.specs.declared.answer.Answer.{Answer}
use Rattle.ln_host.specs.declared.answer.HostRefusal.{HostRefusal}
use Rattle.ln_host.specs.declared.answer.HostRefusal.TheVariants as host
use Rattle.ln_host.specs.declared.blank.Blank.{Blank}
use Rattle.ln_host.specs.declared.filling.Filling.{Filling}
use Rattle.ln_host.specs.declared.keys.HostKeys.{HostKeys}
use Rattle.ln_host.specs.declared.line.Outgoing.{Outgoing}
use Rattle.ln_host.specs.declared.line.Told.{Told}
use Rattle.ln_host.specs.declared.seen.Seen.{Seen}
use Rattle.ln_host.specs.Answer.{answer_of}
use Rattle.ln_host.specs.Blank.{filling_at}
use Rattle.ln_host.specs.Course.{HostCall, Hears, Obeys, Connects, Disconnects, Funds, Shows, Does, Happens, Runs}
use Rattle.ln_host.specs.Course.{IsBegun}
use Rattle.ln_host.specs.Doing.{unanswered, filled_by, message_done, told_done, first_done, head_done, done_by, IsDone}
use Rattle.ln_host.specs.Doing.{taken_off, record_saved}
use Rattle.ln_host.specs.Greeting.{channel_of}
use Rattle.ln_host.specs.Hearing.{Replies, reply_due, Heard, IsTaken, TakesUnlessMemory, ByAnswer, with_reply, kept}
use Rattle.ln_host.specs.Hearing as hearing
use Rattle.ln_host.specs.Hosted.{Seat, record_in, record_of, is_unsaved, waits, kept_while, handed, halted, with_output}
use Rattle.ln_host.specs.Hosted.{with_outputs, Hands, Passes, with_link, disconnected, funded}
use Rattle.ln_host.specs.Line.{Waiting, covered_by, with_record}
use Rattle.ln_host.specs.Question.{question_of}
use Rattle.ln_host.specs.Seen.{seen_in}

IsFirst : Seat → Type 0
IsFirst s = waits s ≡ true → s.line.record_waits ≡ true

not_both : (b : Bool) (A : Type 0) → b ≡ false → b ≡ true → A
not_both true A e f = absurd cc
not_both false A e f = absurd cc

-- ---- where nothing was saved since, no record waits

none_in : (o : Option End) (rs : Records) → rs ≡ finite.empty → record_in o rs ≡ None
none_in None rs e = refl
none_in (Some x) rs e =
    ap (λ (r : Records). finite.get r x.dance.channel) e ∙ finite.get-empty _ x.dance.channel

none_waits : (o : Option End) (rs : Records) (taken : Option (List ℕ)) → rs ≡ finite.empty
    → is_unsaved (record_in o rs) taken ≡ false
none_waits o rs taken e = ap (λ (r : Option (List ℕ)). is_unsaved r taken) (none_in o rs e)

kept_waits : (b : Bool) (o : Option End) (rs : Records) (taken : Option (List ℕ))
    → is_unsaved (record_in o (kept_while b rs)) taken ≡ true → b ≡ true
kept_waits true o rs taken w = refl
kept_waits false o rs taken w =
    not_both (is_unsaved (record_in o finite.empty) taken) _ (none_waits o finite.empty taken refl) w

-- ---- a lost connection, and another funding, leave the record that there is

of_cut : (s : Stage) (rs : Records) → record_in (saved_end (cut s)) rs ≡ record_in (saved_end s) rs
of_cut (stage.AwaitsOpen x) rs = refl
of_cut (stage.AwaitsAccept x) rs = refl
of_cut (stage.AwaitsCreated x) rs = refl
of_cut (stage.AwaitsSigned x) rs = refl
of_cut (stage.Funded e) rs = refl
of_cut stage.Gone rs = refl

of_dropped : (b : Bool) (l m : State HostKeys) (rs : Records)
    → record_in (saved_end m.stage) rs ≡ record_in (saved_end l.stage) rs
    → record_in (saved_end (cond b l m).stage) rs ≡ record_in (saved_end l.stage) rs
of_dropped true l m rs e = refl
of_dropped false l m rs e = e

of_drops : (l : State HostKeys) (rs : Records)
    → record_in (saved_end (drops l).stage) rs ≡ record_in (saved_end l.stage) rs
of_drops l rs = of_dropped (is_down l.connection) l _ rs (of_cut l.stage rs)

of_named : (txid : List ℕ) (n : ℕ) (s : Stage) → saved_end (with_named txid n s) ≡ saved_end s
of_named txid n (stage.AwaitsOpen x) = refl
of_named txid n (stage.AwaitsAccept x) = refl
of_named txid n (stage.AwaitsCreated x) = refl
of_named txid n (stage.AwaitsSigned x) = refl
of_named txid n (stage.Funded e) = refl
of_named txid n stage.Gone = refl

-- ---- what is handed out

output_record : (s : Stage) (o : Output) (w : Waiting) → (with_output s o w).record_waits ≡ w.record_waits
output_record s (output.Send m) w = refl
output_record s (output.Event n e) w = refl
output_record s (output.Closed fee) w = refl
output_record s (output.Signed n) w = refl
output_record s (output.Committed own peer) w = refl

outputs_record : (s : Stage) (os : List Output) (w : Waiting) → (with_outputs s os w).record_waits ≡ w.record_waits
outputs_record s [] w = refl
outputs_record s (o ∷ os) w = outputs_record s os (with_output s o w) ∙ output_record s o w

handed_first : (os : List Output) (s : Seat) → IsFirst (handed os s)
unfolding IsFirst
handed_first os s = λ w.
    outputs_record s.link.stage os (with_record (waits s) s.line)
    ∙ kept_waits (covered_by (waits s) s.line.record_waits) (saved_end s.link.stage) s.records s.taken w

halted_first : (s : Seat) → IsFirst s → IsFirst (halted s)
unfolding IsFirst
halted_first s f = λ w. f (ap (λ (o : Option (List ℕ)). is_unsaved o s.taken) (sym (of_drops s.link s.records)) ∙ w)

to_first : (s new : Seat) → new ≡ s → IsFirst s → IsFirst new
to_first s new e f = subst (λ (x : Seat). IsFirst x) (sym e) f

hands_first : (os : List Output) (s : Seat) (result : Result (Unit {0}) Refusal) (new : Seat) → Hands os s result new
    → IsFirst new
hands_first os s (Ok u) new h = to_first (handed os s) new h (handed_first os s)
hands_first os s (Err e) new h =
    to_first (halted (handed h.1.first s)) new h.1.halts (halted_first (handed h.1.first s) (handed_first h.1.first s))

passes_first : (answer : Result (List Output) Refusal) (s : Seat) (result : Result (Unit {0}) Refusal) (new : Seat)
    → Passes answer s result new → IsFirst new
passes_first (Ok os) s result new h = hands_first os s result new h
passes_first (Err r) s result new h = to_first (handed [] s) new h.1 (handed_first [] s)

reply_first : (m : Message) (s : Seat) → IsFirst s → IsFirst (with_reply m s)
unfolding IsFirst
reply_first m s f = f

replies_first : (due : Option Wire) (r e : Refusal) (s new : Seat) → Replies due r e s new → IsFirst s → IsFirst new
replies_first None r e s new h f = to_first s new h.1 f
replies_first (Some w) r e s new (inl h) f =
    to_first (with_reply h.reply s) new h.line (reply_first h.reply s f)
replies_first (Some w) r e s new (inr h) f = to_first (halted s) new h.1 (halted_first s f)

heard_first : (m : Message) (x : Seen) (answer : Result (List Output) Refusal) (s : Seat)
    (result : Result (Unit {0}) Refusal) (new : Seat) → Heard m x answer s result new → IsFirst new
heard_first m x (Ok os) s result new h = hands_first os (kept x s) result new h
heard_first m x (Err r) s (Ok u) new h = absurd h
heard_first m x (Err r) s (Err e) new h =
    replies_first (reply_due r (channel_of m) s.link.connection) r e (handed [] s) new h (handed_first [] s)

takes_first : (m : Message) (x : Seen) (a : Answer) (result : Result (Unit {0}) Refusal) (old new : Seat)
    → TakesUnlessMemory m x a result old new → IsFirst old → IsFirst new
takes_first m x a result old new (inl h) f = to_first old new h.1 f
takes_first m x a result old new (inr h) f =
    heard_first m x h.answer (with_link h.link h.records (hearing.told a old)) result new h.hears

answered_first : (m : Message) (x : Seen) (a : Result Answer HostRefusal) (result : Result (Unit {0}) HostRefusal)
    (old new : Seat) → ByAnswer m x a result old new → IsFirst old → IsFirst new
answered_first m x (Ok a) result old new h f = takes_first m x a h.0 old new h.2 f
answered_first m x (Err e) result old new h f = to_first old new h.0 f

-- ---- what is dealt with

saved_first : (s : Seat) → IsFirst (record_saved s)
unfolding IsFirst
saved_first s = λ w.
    not_both (waits (record_saved s)) _ (none_waits (saved_end s.link.stage) finite.empty (record_of s) refl) w

abbrev done_so : Seat → Result Seat HostRefusal
done_so s = Ok s

ok_first : (s new : Seat) → done_so s ≡ done_so new → IsFirst s → IsFirst new
ok_first s new e f = let x : new ≡ s = cc in to_first s new x f

unanswered_if : (b : Bool) (s new : Seat) → cond b (Ok s) (Err host.Answer) ≡ Ok new → IsFirst s → IsFirst new
unanswered_if true s new e f = ok_first s new e f
unanswered_if false s new e f = absurd cc

unanswered_first : (answer : List ℕ) (s new : Seat) → unanswered answer s ≡ Ok new → IsFirst s → IsFirst new
unanswered_first answer s new e f = unanswered_if (length answer == 0) s new e f

-- where no record waits the host has it
off_first : (s : Seat) → s.line.record_waits ≡ false → IsFirst s → IsFirst (taken_off s)
unfolding IsFirst
off_first s n f = λ w. not_both s.line.record_waits _ n (f w)

filled_first : (o : Option Filling) (s new : Seat) → filled_by o s ≡ Ok new → IsFirst s → IsFirst new
unfolding IsFirst
filled_first None s new e f = absurd cc
filled_first (Some x) s new e f = ok_first _ new e f

message_first : (o : Option Blank) (answer : List ℕ) (s new : Seat) → s.line.record_waits ≡ false
    → message_done o answer s ≡ Ok new → IsFirst s → IsFirst new
message_first None answer s new n e f = unanswered_first answer (taken_off s) new e (off_first s n f)
message_first (Some b) answer s new n e f = filled_first (filling_at b answer) s new e f

told_first : (ts : List Told) (answer : List ℕ) (s new : Seat) → s.line.record_waits ≡ false
    → told_done ts answer s ≡ Ok new → IsFirst s → IsFirst new
told_first [] answer s new n e f = absurd cc
told_first (t ∷ ts) answer s new n e f = unanswered_first answer (taken_off s) new e (off_first s n f)

first_first : (ms : List Outgoing) (answer : List ℕ) (s new : Seat) → s.line.record_waits ≡ false
    → first_done ms answer s ≡ Ok new → IsFirst s → IsFirst new
first_first [] answer s new n e f = told_first s.line.told answer s new n e f
first_first (m ∷ ms) answer s new n e f = message_first m.blank answer s new n e f

head_first : (b : Bool) (answer : List ℕ) (s new : Seat) → s.line.record_waits ≡ b
    → cond b (unanswered answer (record_saved s)) (first_done s.line.messages answer s) ≡ Ok new → IsFirst s
    → IsFirst new
head_first true answer s new n e f = unanswered_first answer (record_saved s) new e (saved_first s)
head_first false answer s new n e f = first_first s.line.messages answer s new n e f

shown_first : (b : Bool) (answer : List ℕ) (s new : Seat) (r : Result Seat HostRefusal) (h : HostRefusal)
    → r ≡ Err h → cond b (head_done answer s) r ≡ Ok new → IsFirst s → IsFirst new
shown_first true answer s new r h n e f = head_first s.line.record_waits answer s new refl e f
shown_first false answer s new r h n e f = absurd cc

done_first : (answer : List ℕ) (result : Result (Unit {0}) HostRefusal) (old new : Seat)
    → IsDone (done_by answer old) result old new → IsFirst old → IsFirst new
done_first answer (Ok u) old new h f = shown_first old.is_shown answer old new _ _ refl h f
done_first answer (Err e) old new h f = to_first old new h.0 f

-- ---- a call, and each list of them

dropped_first : (s : Seat) → IsFirst s → IsFirst (disconnected s)
unfolding IsFirst
dropped_first s f = λ w. f (ap (λ (o : Option (List ℕ)). is_unsaved o s.taken) (sym (of_drops s.link s.records)) ∙ w)

funded_first : (txid : List ℕ) (n : ℕ) (s : Seat) → IsFirst s → IsFirst (funded txid n s)
unfolding IsFirst
funded_first txid n s f = λ w.
    f (ap (λ (o : Option End). is_unsaved (record_in o s.records) s.taken) (sym (of_named txid n s.link.stage)) ∙ w)

happens_first : (h : HostCall) (old new : Seat) → Happens h old new → IsFirst old → IsFirst new
unfolding IsFirst
happens_first (Hears m answer) old new x f =
    answered_first m (seen_in (question_of old.link m) m) (answer_of (question_of old.link m) answer) x.0 old new x.1 f
happens_first (Obeys c) old new x f =
    passes_first x.1.answer (with_link x.1.link x.1.records old) x.0 new x.1.passes
happens_first Connects old new x f =
    passes_first x.1.answer (with_link x.1.link old.records old) x.0 new x.1.passes
happens_first Disconnects old new x f = to_first (disconnected old) new x (dropped_first old f)
happens_first (Funds txid output) old new x f = to_first (funded txid output old) new x (funded_first txid output old f)
happens_first Shows old new x f = to_first _ new x f
happens_first (Does answer) old new x f = done_first answer x.0 old new x.1 f

runs_first : (hs : List HostCall) (old new : Seat) → Runs hs old new → IsFirst old → IsFirst new
runs_first [] old new x f = to_first old new x f
runs_first (h ∷ hs) old new x f = runs_first hs x.0 new x.2 (happens_first h old x.0 x.1 f)

begun_first : (s : Seat) → IsBegun s → IsFirst s
unfolding IsFirst
begun_first s b = λ w.
    not_both (waits s) _ (none_waits (saved_end s.link.stage) s.records s.taken b.records) w

pub records_of_runs : (hs : List HostCall) (old new : Seat) → IsBegun old → Runs hs old new → waits new ≡ true
    → new.line.record_waits ≡ true
unfolding IsFirst
records_of_runs hs old new b x = runs_first hs old new x (begun_first old b)
