-- Which command of the book comes first, and what it is.
use Rattle.std.proofs.Common.{◌≡◌, ◌⊎◌, inl, inr, ℕ, List, [], ◌∷◌, ◌++◌, refl, sym, ap, ◌∙◌, subst, Bool, true}
use Rattle.std.proofs.Common.{false, cond, not, ◌&&◌, ◌||◌, Option, Some, None}
use Rattle.std.specs.List.{find, list_any}
use Rattle.std.proofs.lemmas.Bool.{eqb-true, eq-eqb}
use Rattle.ln_keys.specs.Services.{Services}
use Rattle.ln_log.specs.declared.mark.Mark.{Mark}
use Rattle.ln_log.specs.declared.mark.Mark.TheVariants as mark
use Rattle.ln_hooks.specs.declared.event.How.{How}
use Rattle.ln_hooks.specs.declared.event.How.TheVariants as how
use Rattle.ln_hooks.specs.declared.verdict.Verdict.{Verdict}
use Rattle.ln_channel.specs.declared.command.Command.{Command}
use Rattle.ln_channel.specs.declared.command.Command.TheVariants as command
use Rattle.ln_book_tables.specs.declared.entry.Decided.{Decided}
use Rattle.ln_book_tables.specs.declared.entry.Out.{Out}
use Rattle.ln_book_tables.specs.declared.entry.Out.TheVariants as out
use Rattle.ln_book_tables.specs.declared.entry.PendingCommand.{PendingCommand}
use Rattle.ln_book_tables.specs.declared.entry.PendingCommand.TheVariants as pending_command
use Rattle.ln_book_tables.specs.declared.entry.Queued.{Queued}
use Rattle.ln_book_tables.specs.declared.entry.Resumed.{Resumed}
use Rattle.ln_book_tables.specs.declared.htlc.Htlc.{Htlc}
use Rattle.ln_book_tables.specs.declared.htlc.OutgoingLeg.{OutgoingLeg}
use Rattle.ln_book_tables.specs.declared.htlc.OutgoingLeg.TheVariants as outgoing
use Rattle.ln_book_tables.specs.Replay.{Table, same, left_out, is_queued, is_resumed, queued_of, resumed_of}
use Rattle.ln_book_tables.specs.Replay.{with_queued}
use Rattle.ln_book_tables.specs.Replay.{is_held_in, pending_command_at, with_decided, with_resumed}
use Rattle.ln_book.specs.Commands.{due, command_of, command_by, or_next, first_due, first_of, first_at, first_command}
use Rattle.ln_book.specs.Commands.{is_queued_in, queued_command, add_with, next_of, removal_by, removal_by_outgoing}
use Rattle.ln_book.specs.Commands.{removal_resolved, forget_by, with_out}
use Rattle.ln_book.specs.Marks.{resumption, resumed_mark}
use Rattle.ln_payment_circuits.specs.Snapshot.{IsIn}
use Rattle.ln_manager_channels.specs.Commands.{decides, is_decision, resumes}
use Rattle.ln_manager_calls.proofs.Certain.{IsBooks}

-- ---- that of an HTLC is none of a decision

abbrev IsOfHtlc : Option Command → Type 0
IsOfHtlc None = Unit {0}
IsOfHtlc (Some y) = IsBooks y × (is_decision y ≡ false)

add_so : (h : Htlc) (m : Mark) (o : Option (List ℕ)) → IsOfHtlc (add_with h m o)
add_so h m None = tt
add_so h mark.None (Some onion) = tt
add_so h (mark.Forward d amount expiry) (Some onion) = (tt, refl)
add_so h (mark.Fail reason) (Some onion) = tt
add_so h (mark.Malformed code) (Some onion) = tt
add_so h (mark.Fulfil preimage) (Some onion) = tt
add_so h (mark.Held event) (Some onion) = tt

resolved_so : (s : Services) (h : Htlc) (w : How) → IsOfHtlc (Some (removal_resolved s h w))
resolved_so s h (how.Fulfilled preimage) = (tt, refl)
resolved_so s h (how.Failed reason) = (tt, refl)
resolved_so s h (how.Malformed sha code) = (tt, refl)

outgoing_so : (s : Services) (h : Htlc) (w : OutgoingLeg) → IsOfHtlc (removal_by_outgoing s h w)
outgoing_so s h outgoing.Absent = tt
outgoing_so s h outgoing.Refused = (tt, refl)
outgoing_so s h (outgoing.Offered k) = tt
outgoing_so s h (outgoing.Resolved k w) = resolved_so s h w

removal_so : (s : Services) (h : Htlc) (m : Mark) → IsOfHtlc (removal_by s h m)
removal_so s h mark.None = tt
removal_so s h (mark.Forward d amount expiry) = outgoing_so s h h.outgoing
removal_so s h (mark.Fail reason) = (tt, refl)
removal_so s h (mark.Malformed code) = (tt, refl)
removal_so s h (mark.Fulfil preimage) = (tt, refl)
removal_so s h (mark.Held event) = tt

forget_so : (w : OutgoingLeg) → IsOfHtlc (forget_by w)
forget_so outgoing.Absent = tt
forget_so outgoing.Refused = tt
forget_so (outgoing.Offered k) = tt
forget_so (outgoing.Resolved k w) = (tt, refl)

command_so : (s : Services) (h : Htlc) (o : Out) → IsOfHtlc (command_of s h o)
command_so s h (out.Deciding n) = tt
command_so s h (out.Adding k) = add_so h h.mark (next_of (s.opened h.offer.onion h.offer.hash))
command_so s h (out.Removing k) = removal_so s h h.mark
command_so s h (out.Forgetting k) = forget_so h.outgoing
command_so s h (out.Resuming n) = tt

-- ---- the first one that is due

pub record IsDue (s : Services) (c : List ℕ) (hs : List Htlc) (o : Out) (y : Command) : Type 0 where
  pub htlc : Htlc
  pub among : IsIn htlc hs
  pub due : due c htlc ≡ Some o
  pub command : command_of s htlc o ≡ Some y

pub due_so : (s : Services) (c : List ℕ) (hs : List Htlc) (o : Out) (y : Command) → IsDue s c hs o y
    → IsBooks y × (is_decision y ≡ false)
due_so s c hs o y d = subst IsOfHtlc d.command (command_so s d.htlc o)

first_so : (s : Services) (c : List ℕ) (hs : List Htlc) (o : Out) (y : Command) → first_due s c hs ≡ Some (o, y)
    → IsDue s c hs o y
first_so s c [] o y is = absurd (cc)
first_so s c (h ∷ hs) o y is = by_due (due c h) refl is (λ rest. first_so s c hs o y rest)
  where
    later : IsDue s c hs o y → IsDue s c (h ∷ hs) o y
    later d = record { htlc = d.htlc; among = inr d.among; due = d.due; command = d.command }

    by_command : (d : Out) → due c h ≡ Some d → (x : Option Command) → command_of s h d ≡ x
        → or_next (with_out d x) (first_due s c hs) ≡ Some (o, y)
        → (first_due s c hs ≡ Some (o, y) → IsDue s c hs o y) → IsDue s c (h ∷ hs) o y
    by_command d at None has is rest = later (rest is)
    by_command d at (Some x) has is rest =
        let some : Some (d, x) ≡ Some (o, y) = is in
        let pair : (d, x) ≡ (o, y) = cc in
        let out_is : d ≡ o = ap (λ (z : Out × Command). z.0) pair in
        let is_y : x ≡ y = ap (λ (z : Out × Command). z.1) pair in
        record {
          htlc = h;
          among = inl refl;
          due = at ∙ ap Some out_is;
          command = ap (command_of s h) (sym out_is) ∙ has ∙ ap Some is_y;
        }

    by_due : (d : Option Out) → due c h ≡ d → or_next (command_by s h d) (first_due s c hs) ≡ Some (o, y)
        → (first_due s c hs ≡ Some (o, y) → IsDue s c hs o y) → IsDue s c (h ∷ hs) o y
    by_due None at is rest = later (rest is)
    by_due (Some d) at is rest = by_command d at (command_of s h d) refl is rest

-- ---- the first command

-- a decision that is queued, or that of an HTLC
pub data IsFirst (s : Services) (c : List ℕ) (t : Table) (o : Out) (y : Command) : Type 0 where
  Queues : (q : Queued) → find (is_queued_in c) t.queue ≡ Some q → (o, y) ≡ queued_command q → IsFirst s c t o y
  Dues : IsDue s c t.htlcs o y → IsFirst s c t o y

pub first_is : (s : Services) (c : List ℕ) (t : Table) (o : Out) (y : Command) → first_command s c t ≡ Some (o, y)
    → IsFirst s c t o y
first_is s c t o y = by_out (pending_command_at c t)
  where
    by_queued : (q : Option Queued) → find (is_queued_in c) t.queue ≡ q → first_of s c q t.htlcs ≡ Some (o, y)
        → IsFirst s c t o y
    by_queued None at is = Dues (first_so s c t.htlcs o y is)
    by_queued (Some q) at is = Queues q at (sym (cc))

    by_out : (d : PendingCommand) → first_at s c d t ≡ Some (o, y) → IsFirst s c t o y
    by_out pending_command.Idle is = by_queued (find (is_queued_in c) t.queue) refl is
    by_out (pending_command.InFlight x) is = absurd (cc)
    by_out (pending_command.Unknown x) is = absurd (cc)

queued_decides : (q : Queued) (o : Out) (y : Command) → (o, y) ≡ queued_command q → is_decision y ≡ true
queued_decides q o y is = ap (λ (z : Out × Command). is_decision z.1) is ∙ by_kind q.resumes
  where
    by_kind : (b : Bool) → is_decision (cond {A = Out × Command} b (out.Resuming q.event, command.Resume q.event q.mark)
        (out.Deciding q.event, command.Decide q.event q.mark)).1 ≡ true
    by_kind true = refl
    by_kind false = refl

queued_books : (q : Queued) (o : Out) (y : Command) → (o, y) ≡ queued_command q → IsBooks y
queued_books q o y is = subst (λ (z : Out × Command). IsBooks z.1) (sym is) (by_kind q.resumes)
  where
    by_kind : (b : Bool) → IsBooks (cond {A = Out × Command} b (out.Resuming q.event, command.Resume q.event q.mark)
        (out.Deciding q.event, command.Decide q.event q.mark)).1
    by_kind true = tt
    by_kind false = tt

-- one that is no decision is due to an HTLC
pub first_due_is : (s : Services) (c : List ℕ) (t : Table) (o : Out) (y : Command) → first_command s c t ≡ Some (o, y)
    → is_decision y ≡ false → IsDue s c t.htlcs o y
first_due_is s c t o y is isnt = cases (first_is s c t o y is)
  where
    cases : IsFirst s c t o y → IsDue s c t.htlcs o y
    cases (Queues q at same) = absurd (let no : true ≡ false = sym (queued_decides q o y same) ∙ isnt in cc)
    cases (Dues d) = d

pub first_books : (s : Services) (c : List ℕ) (t : Table) (o : Out) (y : Command) → first_command s c t ≡ Some (o, y)
    → IsBooks y
first_books s c t o y is = cases (first_is s c t o y is)
  where
    cases : IsFirst s c t o y → IsBooks y
    cases (Queues q at same) = queued_books q o y same
    cases (Dues d) = (due_so s c t.htlcs o y d).0

-- ---- a list

found_is : {A : Type 0} (p : A → Bool) (xs : List A) (x : A) → find p xs ≡ Some x → IsIn x xs × (p x ≡ true)
found_is p [] x is = absurd (cc)
found_is p (y ∷ xs) x is = cases (p y) refl is (λ f. found_is p xs x f)
  where
    cases : (b : Bool) → p y ≡ b → cond b (Some y) (find p xs) ≡ Some x
        → (find p xs ≡ Some x → IsIn x xs × (p x ≡ true)) → IsIn x (y ∷ xs) × (p x ≡ true)
    cases true at f rest = let e : y ≡ x = cc in (inl e, ap p (sym e) ∙ at)
    cases false at f rest = let r = rest f in (inr r.0, r.1)

of_two : {A : Type 0} (x y : A) (xs : List A) → IsIn x (xs ++ y ∷ []) → IsIn x xs ⊎ (y ≡ x)
of_two x y [] (inl e) = inr e
of_two x y [] (inr k) = absurd k
of_two x y (z ∷ xs) (inl e) = inl (inl e)
of_two x y (z ∷ xs) (inr k) = elim (of_two x y xs k) [ inl l ↦ inl (inr l) | inr e ↦ inr e ]

left_passes : {A : Type 0} (p : A → Bool) (x : A) (xs : List A) → IsIn x (left_out p xs) → p x ≡ false
left_passes p x [] k = absurd k
left_passes p x (y ∷ xs) k = cases (p y) refl k (λ l. left_passes p x xs l)
  where
    cases : (b : Bool) → p y ≡ b → IsIn x (cond (not b) (y ∷ left_out p xs) (left_out p xs))
        → (IsIn x (left_out p xs) → p x ≡ false) → p x ≡ false
    cases true at l rest = rest l
    cases false at (inl e) rest = ap p (sym e) ∙ at
    cases false at (inr l) rest = rest l

any_in : {A : Type 0} (p : A → Bool) (x : A) (xs : List A) → IsIn x xs → p x ≡ true → list_any p xs ≡ true
any_in p x [] k is = absurd k
any_in p x (y ∷ xs) (inl e) is = ap (λ b. b || list_any p xs) (ap p e ∙ is)
any_in p x (y ∷ xs) (inr k) is = or_true (p y) (any_in p x xs k is)
  where
    or_true : (b : Bool) → list_any p xs ≡ true → b || list_any p xs ≡ true
    or_true true h = refl
    or_true false h = h

-- ---- what was just decided comes first

abbrev IsAs : Out → Command → Out × Command → Type 0
IsAs o y z = (o ≡ z.0) × (y ≡ z.1)

as_pair : (o : Out) (y : Command) (z : Out × Command) → (o, y) ≡ z → IsAs o y z
as_pair o y z is = (ap (λ (k : Out × Command). k.0) is, ap (λ (k : Out × Command). k.1) is)

decides_event : (n event : ℕ) (m : Mark) (y : Command) → y ≡ command.Decide event m → decides n y ≡ true → n ≡ event
decides_event n event m y is h = sym (eqb-true event n (sym (ap (decides n) is) ∙ h))

pub decided_first : (s : Services) (d : Decided) (t : Table) (o : Out) (y : Command)
    → first_command s d.channel (with_decided d t) ≡ Some (o, y) → decides d.event y ≡ true
    → (o ≡ out.Deciding d.event) × (y ≡ command.Decide d.event d.mark)
decided_first s d t o y is due_now = cases (first_is s d.channel (with_decided d t) o y is)
  where
    by_kind : (q : Queued) → IsIn q (with_queued d t.queue) → same d.channel q.channel ≡ true → (b : Bool)
        → q.resumes ≡ b → IsAs o y (cond b (out.Resuming q.event, command.Resume q.event q.mark)
        (out.Deciding q.event, command.Decide q.event q.mark))
        → (o ≡ out.Deciding d.event) × (y ≡ command.Decide d.event d.mark)
    by_kind q among own true at k = absurd (let no : false ≡ true = sym (ap (decides d.event) k.1) ∙ due_now in cc)
    by_kind q among own false at k =
        let event : d.event ≡ q.event = decides_event d.event q.event q.mark y k.1 due_now in
        elim (of_two q (queued_of d) (left_out (is_queued d.channel d.event) t.queue) among) [
          | inl old ↦
              let yes : is_queued d.channel d.event q ≡ true =
              ap (λ b. b && (same d.channel q.channel && not q.resumes))
              (eq-eqb d.event q.event event) ∙ ap (λ b. b && not q.resumes) own ∙ ap not at in
              absurd (let no : true ≡ false = sym yes ∙ left_passes (is_queued d.channel d.event) q t.queue old in cc)
          | inr e ↦ (
            k.0 ∙ ap (λ (z : Queued). out.Deciding z.event) (sym e),
            k.1 ∙ ap (λ (z : Queued). command.Decide z.event z.mark) (sym e),
          )
        ]

    cases : IsFirst s d.channel (with_decided d t) o y
        → (o ≡ out.Deciding d.event) × (y ≡ command.Decide d.event d.mark)
    cases (Queues q at pair) =
        let f = found_is (is_queued_in d.channel) (with_queued d t.queue) q at in
        by_kind q f.0 f.1 q.resumes refl (as_pair o y (queued_command q) pair)
    cases (Dues k) = absurd (let no : true ≡ false = sym (decides_is y due_now)
        ∙ (due_so s d.channel (with_decided d t).htlcs o y k).1 in cc)
      where
        decides_is : (z : Command) → decides d.event z ≡ true → is_decision z ≡ true
        decides_is (command.Decide event m) h = refl
        decides_is (command.Resume event m) h = refl
        decides_is (command.Add amount hash expiry onion origin) h = absurd (cc)
        decides_is (command.Fulfil i preimage) h = absurd (cc)
        decides_is (command.Fail i reason) h = absurd (cc)
        decides_is (command.Malformed i sha code) h = absurd (cc)
        decides_is (command.Forget i) h = absurd (cc)
        decides_is (command.Confirm i) h = absurd (cc)
        decides_is (command.Fee feerate) h = absurd (cc)
        decides_is command.Sign h = absurd (cc)
        decides_is (command.Shutdown script) h = absurd (cc)

-- ---- and what was just resumed

none_resumed : (s : Services) (t : Table) (c : List ℕ) (n : ℕ) (v : Verdict) (m : Mark)
    → resumption s t c n v ≡ Some m → list_any (is_resumed c n) t.queue ≡ false
none_resumed s t c n v m is = cases (list_any (is_resumed c n) t.queue) is
  where
    cases : (b : Bool) → resumed_mark s t n (cond b None (find (is_held_in c n) t.htlcs)) v ≡ Some m → b ≡ false
    cases true is = absurd (cc)
    cases false is = refl

pub resumed_first : (s : Services) (c : List ℕ) (n : ℕ) (v : Verdict) (m : Mark) (t : Table) (o : Out) (y : Command)
    → resumption s t c n v ≡ Some m
    → first_command s c (with_resumed (record { channel = c; event = n; mark = m }) t) ≡ Some (o, y)
    → resumes n y ≡ true → (o ≡ out.Resuming n) × (y ≡ command.Resume n m)
resumed_first s c n v m t o y said is due_now = cases (first_is s c (with_resumed r t) o y is)
  where
    r : Resumed
    r = record { channel = c; event = n; mark = m }

    by_kind : (q : Queued) → IsIn q (t.queue ++ resumed_of r ∷ []) → same c q.channel ≡ true → (b : Bool)
        → q.resumes ≡ b → IsAs o y (cond b (out.Resuming q.event, command.Resume q.event q.mark)
        (out.Deciding q.event, command.Decide q.event q.mark)) → (o ≡ out.Resuming n) × (y ≡ command.Resume n m)
    by_kind q among own false at k = absurd (let no : false ≡ true = sym (ap (resumes n) k.1) ∙ due_now in cc)
    by_kind q among own true at k =
        let event : q.event ≡ n = eqb-true q.event n (sym (ap (resumes n) k.1) ∙ due_now) in
        elim (of_two q (resumed_of r) t.queue among) [
          | inl old ↦
              let yes : is_resumed c n q ≡ true = ap (λ b. b && (same c q.channel && q.resumes))
              (eq-eqb n q.event (sym event)) ∙ ap (λ b. b && q.resumes) own ∙ at in
              absurd (let no : true ≡ false = sym (any_in (is_resumed c n) q t.queue old yes)
              ∙ none_resumed s t c n v m said in cc)
          | inr e ↦ (
            k.0 ∙ ap (λ (z : Queued). out.Resuming z.event) (sym e),
            k.1 ∙ ap (λ (z : Queued). command.Resume z.event z.mark) (sym e),
          )
        ]

    cases : IsFirst s c (with_resumed r t) o y → (o ≡ out.Resuming n) × (y ≡ command.Resume n m)
    cases (Queues q at pair) =
        let f = found_is (is_queued_in c) (t.queue ++ resumed_of r ∷ []) q at in
        by_kind q f.0 f.1 q.resumes refl (as_pair o y (queued_command q) pair)
    cases (Dues k) = absurd (let no : true ≡ false = sym (resumes_is y due_now)
        ∙ (due_so s c (with_resumed r t).htlcs o y k).1 in cc)
      where
        resumes_is : (z : Command) → resumes n z ≡ true → is_decision z ≡ true
        resumes_is (command.Decide event m) h = refl
        resumes_is (command.Resume event m) h = refl
        resumes_is (command.Add amount hash expiry onion origin) h = absurd (cc)
        resumes_is (command.Fulfil i preimage) h = absurd (cc)
        resumes_is (command.Fail i reason) h = absurd (cc)
        resumes_is (command.Malformed i sha code) h = absurd (cc)
        resumes_is (command.Forget i) h = absurd (cc)
        resumes_is (command.Confirm i) h = absurd (cc)
        resumes_is (command.Fee feerate) h = absurd (cc)
        resumes_is command.Sign h = absurd (cc)
        resumes_is (command.Shutdown script) h = absurd (cc)
