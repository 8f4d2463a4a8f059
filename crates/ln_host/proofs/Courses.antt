-- What calls of a hosted link make of its line.
use Rattle.std.proofs.Common.{◌≡◌, ℕ, Bool, true, false, List, [], ◌∷◌, ◌++◌, length, ◌==◌, Option}
use Rattle.std.proofs.Common.{Some, None, Result, Ok, Err}
use Rattle.std.proofs.Common.{refl, sym, ap, subst, ◌∙◌, inl, inr, cond, append_assoc}
use Rattle.std.proofs.lemmas.List.{append-nil}
use Rattle.ln_refusals.specs.declared.refusal.Refusal.{Refusal}
use Rattle.ln_msgs.specs.Messages.Message.{Wire}
use Rattle.ln_msgs.specs.declared.messages.message.Message.{Message}
use Rattle.ln_channel.specs.declared.machine.Stage.{Stage}
use Rattle.ln_channel.specs.declared.output.Output.{Output}
use Rattle.ln_channel.specs.declared.output.Output.TheVariants as output
use Rattle.ln_host.specs.declared.answer.Answer.{Answer}
use Rattle.ln_host.specs.declared.answer.HostRefusal.{HostRefusal}
use Rattle.ln_host.specs.declared.answer.HostRefusal.TheVariants as host
use Rattle.ln_host.specs.declared.blank.Blank.{Blank}
use Rattle.ln_host.specs.declared.filling.Filling.{Filling}
use Rattle.ln_host.specs.declared.line.Outgoing.{Outgoing}
use Rattle.ln_host.specs.declared.line.Told.{Told}
use Rattle.ln_host.specs.declared.line.Told.TheVariants as told
use Rattle.ln_host.specs.declared.seen.Seen.{Seen}
use Rattle.ln_host.specs.Answer.{answer_of}
use Rattle.ln_host.specs.Blank.{blank_of, filling_at}
use Rattle.ln_host.specs.Calls.{Call, Saves, Sends, Tells, Fills, Takes, Loses}
use Rattle.ln_host.specs.Course.{HostCall, Hears, Obeys, Connects, Disconnects, Funds, Shows, Does, Happens, Runs}
use Rattle.ln_host.specs.Course.{IsBegun, ArePut, IsOfHead, MayMake, MayMakeAll, AreTold, IsLineOf}
use Rattle.ln_host.specs.Doing.{unanswered, filled_by, message_done, told_done, first_done, head_done, done_by, IsDone}
use Rattle.ln_host.specs.Doing.{taken_off, record_saved}
use Rattle.ln_host.specs.Greeting.{channel_of}
use Rattle.ln_host.specs.Hearing.{Replies, reply_due, Heard, IsTaken, TakesUnlessMemory, ByAnswer, IsHeard}
use Rattle.ln_host.specs.Hearing.{with_reply, kept}
use Rattle.ln_host.specs.Hearing as hearing
use Rattle.ln_host.specs.Hosted.{Seat, waits, handed, halted, with_outputs, Hands, Passes, with_link}
use Rattle.ln_host.specs.Line.{Waiting, empty, with_record, without_head}
use Rattle.ln_host.specs.Question.{question_of}
use Rattle.ln_host.specs.Seen.{seen_in}
use Rattle.ln_host.proofs.Lines.{waiting, after_all, after_both, line_is}

-- ---- what is put

abbrev Puts : Waiting → Waiting → Type 0
Puts old new = (cs : List Call) × ArePut cs × (new ≡ after_all cs old)

both_put : (cs ds : List Call) → ArePut cs → ArePut ds → ArePut (cs ++ ds)
both_put [] ds p q = q
both_put (c ∷ cs) ds p q = (p.0, both_put cs ds p.1 q)

puts_both : (a b c : Waiting) → Puts a b → Puts b c → Puts a c
puts_both a b c p q = (
  p.0 ++ q.0,
  both_put p.0 q.0 p.1 q.1,
  q.2 ∙ (ap (λ (w : Waiting). after_all q.0 w) p.2 ∙ sym (after_both p.0 q.0 a)),
)

puts_nothing : (a b : Waiting) → b ≡ a → Puts a b
puts_nothing a b e = ([], tt, e)

puts : Stage → List Output → List Call
puts s [] = []
puts s (output.Send m ∷ os) = Sends (record { message = m; blank = blank_of s m }) ∷ puts s os
puts s (output.Event n e ∷ os) = Tells (told.Event n e) ∷ puts s os
puts s (output.Closed fee ∷ os) = Tells (told.Closed fee) ∷ puts s os
puts s (output.Signed n ∷ os) = puts s os
puts s (output.Committed own peer ∷ os) = puts s os

outputs_put : (s : Stage) (os : List Output) → ArePut (puts s os)
unfolding puts
outputs_put s [] = tt
outputs_put s (output.Send m ∷ os) = (tt, outputs_put s os)
outputs_put s (output.Event n e ∷ os) = (tt, outputs_put s os)
outputs_put s (output.Closed fee ∷ os) = (tt, outputs_put s os)
outputs_put s (output.Signed n ∷ os) = outputs_put s os
outputs_put s (output.Committed own peer ∷ os) = outputs_put s os

outputs_line : (s : Stage) (os : List Output) (w : Waiting) → with_outputs s os w ≡ after_all (puts s os) w
unfolding puts
outputs_line s [] w = refl
outputs_line s (output.Send m ∷ os) w = outputs_line s os _
outputs_line s (output.Event n e ∷ os) w = outputs_line s os _
outputs_line s (output.Closed fee ∷ os) w = outputs_line s os _
outputs_line s (output.Signed n ∷ os) w = outputs_line s os w
outputs_line s (output.Committed own peer ∷ os) w = outputs_line s os w

record_put : (b : Bool) (w : Waiting) → Puts w (with_record b w)
record_put true w = (Saves ∷ [], (tt, tt), refl)
record_put false w = ([], tt, refl)

handed_put : (os : List Output) (s : Seat) → Puts s.line (handed os s).line
handed_put os s =
    puts_both s.line (with_record (waits s) s.line) (handed os s).line (record_put (waits s) s.line)
    (puts s.link.stage os, outputs_put s.link.stage os, outputs_line s.link.stage os (with_record (waits s) s.line))

to_put : (a : Waiting) (s new : Seat) → new ≡ s → Puts a s.line → Puts a new.line
to_put a s new e p = subst (λ (x : Seat). Puts a x.line) (sym e) p

hands_put : (os : List Output) (s : Seat) (result : Result (Unit {0}) Refusal) (new : Seat) → Hands os s result new
    → Puts s.line new.line
hands_put os s (Ok u) new h = to_put s.line (handed os s) new h (handed_put os s)
hands_put os s (Err e) new h = to_put s.line (halted (handed h.1.first s)) new h.1.halts (handed_put h.1.first s)

passes_put : (answer : Result (List Output) Refusal) (s : Seat) (result : Result (Unit {0}) Refusal) (new : Seat)
    → Passes answer s result new → Puts s.line new.line
passes_put (Ok os) s result new h = hands_put os s result new h
passes_put (Err r) s result new h = to_put s.line (handed [] s) new h.1 (handed_put [] s)

reply_put : (m : Message) (s : Seat) → Puts s.line (with_reply m s).line
reply_put m s = (Sends (record { message = m; blank = None }) ∷ [], (tt, tt), refl)

replies_put : (due : Option Wire) (r e : Refusal) (s new : Seat) → Replies due r e s new → Puts s.line new.line
replies_put None r e s new h = puts_nothing s.line new.line (ap (λ (x : Seat). x.line) h.1)
replies_put (Some w) r e s new (inl h) = to_put s.line (with_reply h.reply s) new h.line (reply_put h.reply s)
replies_put (Some w) r e s new (inr h) = puts_nothing s.line new.line (ap (λ (x : Seat). x.line) h.1)

heard_put : (m : Message) (x : Seen) (answer : Result (List Output) Refusal) (s : Seat)
    (result : Result (Unit {0}) Refusal) (new : Seat) → Heard m x answer s result new → Puts s.line new.line
heard_put m x (Ok os) s result new h = hands_put os (kept x s) result new h
heard_put m x (Err r) s (Ok u) new h = absurd h
heard_put m x (Err r) s (Err e) new h =
    puts_both s.line (handed [] s).line new.line (handed_put [] s)
    (replies_put (reply_due r (channel_of m) s.link.connection) r e (handed [] s) new h)

takes_put : (m : Message) (x : Seen) (a : Answer) (result : Result (Unit {0}) Refusal) (old new : Seat)
    → TakesUnlessMemory m x a result old new → Puts old.line new.line
takes_put m x a result old new (inl h) = puts_nothing old.line new.line (ap (λ (s : Seat). s.line) h.1)
takes_put m x a result old new (inr h) =
    heard_put m x h.answer (with_link h.link h.records (hearing.told a old)) result new h.hears

answered_put : (m : Message) (x : Seen) (a : Result Answer HostRefusal) (result : Result (Unit {0}) HostRefusal)
    (old new : Seat) → ByAnswer m x a result old new → Puts old.line new.line
answered_put m x (Ok a) result old new h = takes_put m x a h.0 old new h.2
answered_put m x (Err e) result old new h = puts_nothing old.line new.line (ap (λ (s : Seat). s.line) h.0)

-- ---- what is taken off

abbrev IsMoved : Waiting → Waiting → Type 0
IsMoved old new = (cs : List Call) × IsOfHead cs × (new ≡ after_all cs old)

abbrev done_so : Seat → Result Seat HostRefusal
done_so s = Ok s

some_seat : (s new : Seat) → done_so s ≡ done_so new → new.line ≡ s.line
some_seat s new e = let x : new ≡ s = cc in ap (λ (y : Seat). y.line) x

off_moved_if : (b : Bool) (w : Waiting) (s new : Seat) → s.line ≡ without_head w
    → cond b (Ok s) (Err host.Answer) ≡ Ok new → IsMoved w new.line
off_moved_if true w s new l e = (Takes ∷ [], tt, some_seat s new e ∙ l)
off_moved_if false w s new l e = absurd cc

off_moved : (answer : List ℕ) (w : Waiting) (s new : Seat) → s.line ≡ without_head w → unanswered answer s ≡ Ok new
    → IsMoved w new.line
off_moved answer w s new l e = off_moved_if (length answer == 0) w s new l e

filled_moved : (o : Option Filling) (s new : Seat) → filled_by o s ≡ Ok new → IsMoved s.line new.line
filled_moved None s new e = absurd cc
filled_moved (Some f) s new e = (Fills f ∷ [], tt, some_seat _ new e)

message_moved : (o : Option Blank) (answer : List ℕ) (s new : Seat) → message_done o answer s ≡ Ok new
    → IsMoved s.line new.line
message_moved None answer s new e = off_moved answer s.line (taken_off s) new refl e
message_moved (Some b) answer s new e = filled_moved (filling_at b answer) s new e

told_moved : (ts : List Told) (answer : List ℕ) (s new : Seat) → told_done ts answer s ≡ Ok new
    → IsMoved s.line new.line
told_moved [] answer s new e = absurd cc
told_moved (t ∷ ts) answer s new e = off_moved answer s.line (taken_off s) new refl e

first_moved : (ms : List Outgoing) (answer : List ℕ) (s new : Seat) → first_done ms answer s ≡ Ok new
    → IsMoved s.line new.line
first_moved [] answer s new e = told_moved s.line.told answer s new e
first_moved (m ∷ ms) answer s new e = message_moved m.blank answer s new e

head_moved : (b : Bool) (answer : List ℕ) (s new : Seat)
    → cond b (unanswered answer (record_saved s)) (first_done s.line.messages answer s) ≡ Ok new
    → IsMoved s.line new.line
head_moved true answer s new e = off_moved answer s.line (record_saved s) new refl e
head_moved false answer s new e = first_moved s.line.messages answer s new e

shown_moved : (b : Bool) (answer : List ℕ) (s new : Seat) (r : Result Seat HostRefusal) (h : HostRefusal)
    → r ≡ Err h → cond b (head_done answer s) r ≡ Ok new → IsMoved s.line new.line
shown_moved true answer s new r h n e = head_moved s.line.record_waits answer s new e
shown_moved false answer s new r h n e = absurd cc

done_moved : (answer : List ℕ) (result : Result (Unit {0}) HostRefusal) (old new : Seat)
    → IsDone (done_by answer old) result old new → IsMoved old.line new.line
done_moved answer (Ok u) old new h = shown_moved old.is_shown answer old new _ _ refl h
done_moved answer (Err e) old new h = ([], tt, ap (λ (s : Seat). s.line) h.0)

-- ---- a call, and each list of them

Moves : HostCall → Waiting → Waiting → Type 0
Moves h old new = (cs : List Call) × MayMake h cs × (new ≡ after_all cs old)

happens_moves : (h : HostCall) (old new : Seat) → Happens h old new → Moves h old.line new.line
unfolding Moves
happens_moves (Hears m answer) old new x =
    answered_put m (seen_in (question_of old.link m) m) (answer_of (question_of old.link m) answer) x.0 old new x.1
happens_moves (Obeys c) old new x = passes_put x.1.answer (with_link x.1.link x.1.records old) x.0 new x.1.passes
happens_moves Connects old new x = passes_put x.1.answer (with_link x.1.link old.records old) x.0 new x.1.passes
happens_moves Disconnects old new x = (Loses ∷ [], refl, ap (λ (s : Seat). s.line) x)
happens_moves (Funds txid output) old new x = ([], refl, ap (λ (s : Seat). s.line) x)
happens_moves Shows old new x = ([], refl, ap (λ (s : Seat). s.line) x)
happens_moves (Does answer) old new x = done_moved answer x.0 old new x.1

runs_move : (hs : List HostCall) (old new : Seat) → Runs hs old new
    → (cs : List Call) × MayMakeAll hs cs × (new.line ≡ after_all cs old.line)
unfolding Moves
runs_move [] old new x = ([], refl, ap (λ (s : Seat). s.line) x)
runs_move (h ∷ hs) old new x =
    let p = happens_moves h old x.0 x.1 in
    let q = runs_move hs x.0 new x.2 in (
      p.0 ++ q.0,
      (p.0, q.0, refl, p.1, q.1),
      q.2 ∙ (ap (λ (w : Waiting). after_all q.0 w) p.2 ∙ sym (after_both p.0 q.0 old.line)),
    )

-- ---- how it begins

tells : List Told → List Call
tells [] = []
tells (t ∷ ts) = Tells t ∷ tells ts

are_told : (ts : List Told) → AreTold (tells ts)
unfolding tells
are_told [] = tt
are_told (t ∷ ts) = are_told ts

told_line : (b : Bool) (ms : List Outgoing) (us ts : List Told)
    → after_all (tells ts) (waiting b ms us) ≡ waiting b ms (us ++ ts)
unfolding tells
told_line b ms us [] = ap (λ (x : List Told). waiting b ms x) (sym (append-nil us))
told_line b ms us (t ∷ ts) =
    told_line b ms (us ++ t ∷ []) ts
    ∙ ap (λ (x : List Told). waiting b ms x) (append_assoc us (t ∷ []) ts)

record_is : (b c : Bool) (ms ns : List Outgoing) (ts : List Told) → b ≡ c → ms ≡ ns
    → waiting b ms ts ≡ waiting c ns ts
record_is b c ms ns ts p q = cc

begun_line : (s : Seat) → IsBegun s → s.line ≡ after_all (tells s.line.told) empty
begun_line s b =
    let w : s.line ≡ waiting false [] s.line.told =
    record_is s.line.record_waits false s.line.messages [] s.line.told b.record_waits b.messages in
    w ∙ sym (told_line false [] [] s.line.told)

pub lines_of_runs : (hs : List HostCall) (old new : Seat) → IsBegun old → Runs hs old new → IsLineOf hs new
lines_of_runs hs old new b x =
    let m = runs_move hs old new x in
    let ts = tells old.line.told in
    record {
      told = ts;
      made = m.0;
      are_told = are_told old.line.told;
      are_made = m.1;
      line =
          m.2 ∙ (ap (λ (w : Waiting). after_all m.0 w) (begun_line old b)
          ∙ (sym (after_both ts m.0 empty) ∙ sym (line_is (ts ++ m.0))));
    }
