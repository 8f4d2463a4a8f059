-- What a book owes a channel, before a command is handed out and after it was answered or lost.
use Rattle.std.proofs.Common.{◌≡◌, ◌⊎◌, ◌++◌, ◌∷◌, [], ℕ, ◌<◌, ◌≤◌, List, map, Bool, true, false, Option, Some, None}
use Rattle.std.proofs.Common.{Result, Ok, Err, refl, sym, ap, ◌∙◌, subst, arith, cond, inl, inr, ◌==◌, nat_lt, nat_le}
use Rattle.std.proofs.Common.{ltb-false, leb-true}
use Rattle.std.proofs.lemmas.Bool.{eqb-true}
use Rattle.std.specs.Prelude.{not, ◌&&◌, ◌||◌, is_some}
use Rattle.std.specs.List.{find, list_any}
use Rattle.std.specs.Map.{lookup}
use Rattle.indexmap.specs.IndexMap.{insert_entry}
use lib.Pointwise.{bytes_decides}
use Rattle.ln_log.specs.declared.mark.Mark.{Mark}
use Rattle.ln_log.specs.declared.mark.Mark.TheVariants as mark
use Rattle.ln_forward.specs.declared.failure.Failure.TheVariants as failure
use Rattle.ln_channel.specs.declared.command.Command.{Command}
use Rattle.ln_channel.specs.declared.command.Command.TheVariants as command
use Rattle.ln_book_tables.specs.declared.htlc.Key.{Key}
use Rattle.ln_book_tables.specs.declared.htlc.OutgoingLeg.{OutgoingLeg}
use Rattle.ln_book_tables.specs.declared.htlc.OutgoingLeg.TheVariants as outgoing
use Rattle.ln_book_tables.specs.declared.htlc.IncomingLeg.{IncomingLeg}
use Rattle.ln_book_tables.specs.declared.htlc.IncomingLeg.TheVariants as incoming
use Rattle.ln_book_tables.specs.declared.htlc.Htlc.{Htlc}
use Rattle.ln_book_tables.specs.declared.entry.Queued.{Queued}
use Rattle.ln_book_tables.specs.declared.entry.Out.{Out}
use Rattle.ln_book_tables.specs.declared.entry.Out.TheVariants as out
use Rattle.ln_book_tables.specs.declared.entry.PendingCommand.{PendingCommand}
use Rattle.ln_book_tables.specs.declared.entry.PendingCommand.TheVariants as pending_command
use Rattle.ln_book_tables.specs.declared.entry.KeptState.{KeptState}
use Rattle.ln_book_tables.specs.declared.entry.Entry.{Entry}
use Rattle.ln_book_tables.specs.declared.entry.Entry.TheVariants as entry
use Rattle.ln_history.specs.History.{History, with_entry}
use Rattle.ln_book_tables.specs.Replay.{Table, table_of, replay, after, same, pending_command_of, pending_command_at}
use Rattle.ln_book_tables.specs.Replay.{with_pending_command, is_htlc}
use Rattle.ln_book_tables.specs.Replay.{changed_first, put_outgoing, put_incoming, answered_out, answered_at}
use Rattle.ln_book_tables.specs.Replay.{is_settled, has_nothing_offered}
use Rattle.ln_book_tables.specs.Replay.{is_open, is_outgoing_lost, is_among, incoming_kept, htlc_kept, kept_out}
use Rattle.ln_book_tables.specs.Replay.{kept_at}
use Rattle.ln_book_tables.specs.Replay.{put_back_all}
use Rattle.ln_book_tables.specs.Replay.{is_later, refused, left_out, is_queued}
use Rattle.ln_book_tables.specs.Due.{has_removal}
use Rattle.ln_keys.specs.Services.{Services}
use Rattle.ln_book.specs.Commands.{own_failure, is_resolved_in, forwards_in, due, removal_by}
use Rattle.ln_book.specs.Commands.{with_out, command_by, command_of, or_next, first_due, is_queued_in, queued_command}
use Rattle.ln_book.specs.Commands.{first_of, first_at, first_command, with_taken, with_answered}
use Rattle.ln_book.specs.Answers.{replied}
use Rattle.ln_book.specs.Owing.{IsIn, Owes, is_lost}

-- ---- a channel's pending command

same-refl : (c : List ℕ) → same c c ≡ true
same-refl c = (bytes_decides c c).1 refl

put-by : (b : Bool) (c k : List ℕ) (d v : PendingCommand) (es : List (List ℕ × PendingCommand)) → same c k ≡ b
    → lookup (same c) (insert_entry same es c d) ≡ Some d
    → lookup (same c) (cond b ((k, d) ∷ es) ((k, v) ∷ insert_entry same es c d)) ≡ Some d
put-by true c k d v es is rest = ap (λ q. cond q (Some d) (lookup (same c) es)) is
put-by false c k d v es is rest =
    ap (λ q. cond q (Some v) (lookup (same c) (insert_entry same es c d))) is ∙ rest

put-there : (c : List ℕ) (d : PendingCommand) (es : List (List ℕ × PendingCommand))
    → lookup (same c) (insert_entry same es c d) ≡ Some d
put-there c d [] = ap (λ q. cond q (Some d) None) (same-refl c)
put-there c d ((k, v) ∷ es) = put-by (same c k) c k d v es refl (put-there c d es)

pending_command-here : (c : List ℕ) (d : PendingCommand) (t : Table)
    → pending_command_at c (with_pending_command c d t) ≡ d
pending_command-here c d t = ap pending_command_of (put-there c d t.pending_commands)

-- ---- what one entry more makes of a table

replayed : (t : Table) (es : List Entry) (e : Entry) → replay t (es ++ e ∷ []) ≡ after (replay t es) e
replayed t [] e = refl
replayed t (x ∷ es) e = replayed (after t x) es e

entered : (b : History Table Entry) (e : Entry) → table_of (with_entry e b) ≡ after (table_of b) e
entered b e = replayed b.start b.entries e

replied-out : (c : List ℕ) (a : Result ℕ ℕ) (b : History Table Entry) (o : Out)
    → pending_command_at c (table_of b) ≡ pending_command.InFlight o
    → table_of (replied c a b) ≡ answered_out c a o (table_of b)
replied-out c a b o is =
    ap (λ d. table_of (with_answered c a d b)) is ∙ entered b (entry.Answered c a)
    ∙ ap (λ d. answered_at c a d (table_of b)) is

out-then : (c : List ℕ) (b : History Table Entry) (x : Out × Command)
    → pending_command_at c (table_of (with_taken c (Some x) b)) ≡ pending_command.InFlight (x.0)
out-then c b x =
    ap (pending_command_at c) (entered b (entry.Taken c (x.0)))
    ∙ pending_command-here c (pending_command.InFlight (x.0)) (table_of b)

-- ---- the first command

first-by : (s : Services) (c : List ℕ) (d : PendingCommand) (t : Table) (x : Out × Command) → first_at s c d t ≡ Some x
    → first_of s c (find (is_queued_in c) t.queue) t.htlcs ≡ Some x
first-by s c pending_command.Idle t x e = e
first-by s c (pending_command.InFlight o) t x e = cc
first-by s c (pending_command.Unknown o) t x e = cc

later : (c : List ℕ) (o : Out) (t : Table) (r : ℕ) → (r ≡ 47) ⊎ (r ≡ 62)
    → answered_out c (Err r) o t ≡ with_pending_command c pending_command.Idle t
later c o t r (inl e) = ap (λ n. answered_out c (Err n) o t) e
later c o t r (inr e) = ap (λ n. answered_out c (Err n) o t) e

pub again : (s : Services) (c : List ℕ) (b : History Table Entry) (x : Out × Command) (r : ℕ)
    → first_command s c (table_of b) ≡ Some x → (r ≡ 47) ⊎ (r ≡ 62)
    → first_command s c (table_of (replied c (Err r) (with_taken c (Some x) b))) ≡ Some x
again s c b x r first when =
    let t = table_of b in
    let taken = with_taken c (Some x) b in
    let idle = with_pending_command c pending_command.Idle (with_pending_command c
    (pending_command.InFlight (x.0)) t) in
    let made : table_of (replied c (Err r) taken) ≡ idle =
    replied-out c (Err r) taken (x.0) (out-then c b x) ∙ later c (x.0) (table_of taken) r when
    ∙ ap (with_pending_command c pending_command.Idle) (entered b (entry.Taken c (x.0))) in
    ap (first_command s c) made
    ∙ ap (λ d. first_at s c d idle) (pending_command-here c pending_command.Idle (with_pending_command c
    (pending_command.InFlight (x.0)) t))
    ∙ first-by s c (pending_command_at c t) t x first

-- ---- lists

module _ {A : Type 0} (p : A → Bool) where
  found-by : (b : Bool) (x : A) (xs : List A) (q : A) → p x ≡ b → cond b (Some x) (find p xs) ≡ Some q
      → (find p xs ≡ Some q → IsIn q xs × (p q ≡ true)) → IsIn q (x ∷ xs) × (p q ≡ true)
  found-by true x xs q is e rest = let at : x ≡ q = cc in (inl (sym at), ap p (sym at) ∙ is)
  found-by false x xs q is e rest = let r = rest e in (inr r.0, r.1)

  found-in : (xs : List A) (q : A) → find p xs ≡ Some q → IsIn q xs × (p q ≡ true)
  found-in [] q e = cc
  found-in (x ∷ xs) q e = found-by (p x) x xs q refl e (λ r. found-in xs q r)

  there-by : (b : Bool) (x : A) (xs : List A) (q : A) → p x ≡ b → (x ≡ q) ⊎ (is_some (find p xs) ≡ true) → p q ≡ true
      → is_some (cond b (Some x) (find p xs)) ≡ true
  there-by true x xs q is here passes = refl
  there-by false x xs q is (inl at) passes = let both-outgoings : true ≡ false = sym passes ∙ ap p (sym at) ∙ is in cc
  there-by false x xs q is (inr r) passes = r

  -- where one that passes is among them, one is found
  pub some-found : (xs : List A) (q : A) → IsIn q xs → p q ≡ true → is_some (find p xs) ≡ true
  some-found [] q i passes = absurd i
  some-found (x ∷ xs) q (inl e) passes = there-by (p x) x xs q refl (inl (sym e)) passes
  some-found (x ∷ xs) q (inr i) passes = there-by (p x) x xs q refl (inr (some-found xs q i passes)) passes

  changed-by : (f : A → A) (b : Bool) (x : A) (xs : List A) (q : A) → p x ≡ b → p (f x) ≡ p x
      → cond b (Some x) (find p xs) ≡ Some q
      → (find p xs ≡ Some q → find p (changed_first p f xs) ≡ Some (f q))
      → find p (cond b (f x ∷ xs) (x ∷ changed_first p f xs)) ≡ Some (f q)
  changed-by f true x xs q is alike e rest =
      let at : x ≡ q = cc in ap (λ b. cond b (Some (f x)) (find p xs)) (alike ∙ is) ∙ ap (λ y. Some (f y)) at
  changed-by f false x xs q is alike e rest =
      ap (λ b. cond b (Some x) (find p (changed_first p f xs))) is ∙ rest e

  -- the first one that passes is changed, and still passes
  pub changed-found : (f : A → A) → ((x : A) → p (f x) ≡ p x) → (xs : List A) (q : A) → find p xs ≡ Some q
      → find p (changed_first p f xs) ≡ Some (f q)
  changed-found f alike [] q e = cc
  changed-found f alike (x ∷ xs) q e =
      changed-by f (p x) x xs q refl (alike x) e (λ r. changed-found f alike xs q r)

  in-changed-by : (f : A → A) (b : Bool) (x : A) (xs : List A) (q : A)
      → (q ≡ x) ⊎ (IsIn q xs × (IsIn q (changed_first p f xs) ⊎ IsIn (f q) (changed_first p f xs)))
      → IsIn q (cond b (f x ∷ xs) (x ∷ changed_first p f xs))
      ⊎ IsIn (f q) (cond b (f x ∷ xs) (x ∷ changed_first p f xs))
  in-changed-by f true x xs q (inl e) = inr (inl (ap f e))
  in-changed-by f false x xs q (inl e) = inl (inl e)
  in-changed-by f true x xs q (inr r) = inl (inr r.0)
  in-changed-by f false x xs q (inr (i, inl r)) = inl (inr r)
  in-changed-by f false x xs q (inr (i, inr r)) = inr (inr r)

  in-changed : (f : A → A) (xs : List A) (q : A) → IsIn q xs
      → IsIn q (changed_first p f xs) ⊎ IsIn (f q) (changed_first p f xs)
  in-changed f [] q i = absurd i
  in-changed f (x ∷ xs) q (inl e) = in-changed-by f (p x) x xs q (inl e)
  in-changed f (x ∷ xs) q (inr i) = in-changed-by f (p x) x xs q (inr (i, in-changed f xs q i))

in-map : {A B : Type 0} (f : A → B) (xs : List A) (q : A) → IsIn q xs → IsIn (f q) (map f xs)
in-map f [] q i = absurd i
in-map f (x ∷ xs) q (inl e) = inl (ap f e)
in-map f (x ∷ xs) q (inr i) = inr (in-map f xs q i)

-- ---- what an HTLC is due

abbrev due-by : Bool → Bool → Bool → Bool → Bool → Key → Option Out
due-by decided settled over offers removes k =
    cond (not decided) None
    (cond settled (cond over (Some (out.Forgetting k)) None)
    (cond offers (Some (out.Adding k)) (cond removes (Some (out.Removing k)) None)))

-- which it is
data DueAs (decided settled over offers removes : Bool) (k : Key) (o : Out) : Type 0 where
  forgets : decided ≡ true → settled ≡ true → over ≡ true → o ≡ out.Forgetting k
      → DueAs decided settled over offers removes k o
  adds : decided ≡ true → settled ≡ false → offers ≡ true → o ≡ out.Adding k
      → DueAs decided settled over offers removes k o
  takes : decided ≡ true → settled ≡ false → offers ≡ false → removes ≡ true → o ≡ out.Removing k
      → DueAs decided settled over offers removes k o

due-as : (d s v f r : Bool) (k : Key) (o : Out) → due-by d s v f r k ≡ Some o → DueAs d s v f r k o
due-as false s v f r k o e = cc
due-as true true true f r k o e = forgets refl refl refl cc
due-as true true false f r k o e = cc
due-as true false v true r k o e = adds refl refl refl cc
due-as true false v false true k o e = takes refl refl refl refl cc
due-as true false v false false k o e = cc

abbrev offers : List ℕ → Htlc → Bool
offers c h = has_nothing_offered h.outgoing && forwards_in c h.mark

abbrev removes : List ℕ → Htlc → Bool
removes c h = has_removal h.mark h.outgoing && (is_open h.incoming && same c h.key.channel)

due-of : (c : List ℕ) (h : Htlc) (o : Out) → due c h ≡ Some o
    → DueAs h.decided (is_settled h.incoming) (is_resolved_in c h.outgoing) (offers c h) (removes c h) h.key o
due-of c h o e = due-as h.decided (is_settled h.incoming) (is_resolved_in c h.outgoing) (offers c h)
    (removes c h) h.key o e

due-so : (d s v f r : Bool) (k : Key) (o : Option Out) (d' s' v' f' r' : Bool) → d' ≡ d → s' ≡ s → v' ≡ v → f' ≡ f
    → r' ≡ r → due-by d s v f r k ≡ o → due-by d' s' v' f' r' k ≡ o
due-so d s v f r k o d' s' v' f' r' ed es ev ef er e =
    ap (λ b. due-by b s' v' f' r' k) ed ∙ ap (λ b. due-by d b v' f' r' k) es ∙ ap (λ b. due-by d s b f' r' k) ev
    ∙ ap (λ b. due-by d s v b r' k) ef ∙ ap (λ b. due-by d s v f b k) er ∙ e

-- the HTLC of an offer that was answered isn't due one
not-nowhere : (c : List ℕ) (h : Htlc) (k : Key) → has_nothing_offered h.outgoing ≡ false
    → due c h ≡ Some (out.Adding k) → ⊥
not-nowhere c h k here e =
    elim (due-of c h (out.Adding k) e) [
      | forgets d s v o ↦ cc
      | adds d s f o ↦ (let yes : true ≡ false = sym f ∙ ap (λ b. b && forwards_in c h.mark) here in cc)
      | takes d s f r o ↦ cc
    ]

-- ---- a channel that has lost a command

module _ (c : List ℕ) (told : KeptState) where
  abbrev kept : OutgoingLeg → OutgoingLeg
  kept w = cond (is_outgoing_lost c told.next w) outgoing.Absent w

  offers-on : (w : OutgoingLeg) (f : Bool) → (has_nothing_offered w && f) ≡ true
      → (has_nothing_offered (kept w) && f) ≡ true
  offers-on outgoing.Absent f e = e
  offers-on outgoing.Refused f e = cc
  offers-on (outgoing.Offered k) f e = cc
  offers-on (outgoing.Resolved k h) f e = cc

  over-on : (w : OutgoingLeg) → is_resolved_in c w ≡ true → is_resolved_in c (kept w) ≡ true
  over-on outgoing.Absent e = cc
  over-on outgoing.Refused e = cc
  over-on (outgoing.Offered k) e = cc
  over-on (outgoing.Resolved k h) e = e

  open-on : (b : Bool) (k : IncomingLeg) → is_settled k ≡ false → is_settled (incoming_kept b k) ≡ false
  open-on b incoming.Open e = refl
  open-on true incoming.RemovalSent e = refl
  open-on false incoming.RemovalSent e = refl
  open-on b incoming.RemovalRefused e = refl
  open-on b incoming.Settled e = cc

  settled-on : (b : Bool) (k : IncomingLeg) → is_settled k ≡ true → is_settled (incoming_kept b k) ≡ true
  settled-on b incoming.Open e = cc
  settled-on b incoming.RemovalSent e = cc
  settled-on b incoming.RemovalRefused e = cc
  settled-on b incoming.Settled e = refl

  and-false : (b : Bool) → (b && false) ≡ false
  and-false true = refl
  and-false false = refl

  both : (a b : Bool) → (a && b) ≡ true → (a ≡ true) × (b ≡ true)
  both true b e = (refl, e)
  both false b e = (cc, cc)

  still-none : (m : Mark) (w : OutgoingLeg) → has_removal m w ≡ true
      → (has_nothing_offered (kept w) && forwards_in c m) ≡ false
  still-none mark.None w e = cc
  still-none (mark.Forward d a x) outgoing.Absent e = cc
  still-none (mark.Forward d a x) outgoing.Refused e = refl
  still-none (mark.Forward d a x) (outgoing.Offered k) e = cc
  still-none (mark.Forward d a x) (outgoing.Resolved k h) e = refl
  still-none (mark.Fail r) w e = and-false (has_nothing_offered (kept w))
  still-none (mark.Malformed n) w e = and-false (has_nothing_offered (kept w))
  still-none (mark.Fulfil p) w e = and-false (has_nothing_offered (kept w))
  still-none (mark.Held n) w e = cc

  removal-on : (m : Mark) (w : OutgoingLeg) → has_removal m w ≡ true → has_removal m (kept w) ≡ true
  removal-on mark.None w e = cc
  removal-on (mark.Forward d a x) outgoing.Absent e = cc
  removal-on (mark.Forward d a x) outgoing.Refused e = refl
  removal-on (mark.Forward d a x) (outgoing.Offered k) e = cc
  removal-on (mark.Forward d a x) (outgoing.Resolved k h) e = refl
  removal-on (mark.Fail r) w e = refl
  removal-on (mark.Malformed n) w e = refl
  removal-on (mark.Fulfil p) w e = refl
  removal-on (mark.Held n) w e = cc

  removal-same : (s : Services) (h : Htlc) (b : IncomingLeg) (m : Mark) (w : OutgoingLeg) → has_removal m w ≡ true
      → removal_by s (record h { outgoing = kept w; incoming = b }) m
      ≡ removal_by s (record h { outgoing = w; incoming = h.incoming }) m
  removal-same s h b mark.None w e = cc
  removal-same s h b (mark.Forward d a x) outgoing.Absent e = cc
  removal-same s h b (mark.Forward d a x) outgoing.Refused e = refl
  removal-same s h b (mark.Forward d a x) (outgoing.Offered k) e = cc
  removal-same s h b (mark.Forward d a x) (outgoing.Resolved k g) e = refl
  removal-same s h b (mark.Fail r) w e = refl
  removal-same s h b (mark.Malformed n) w e = refl
  removal-same s h b (mark.Fulfil p) w e = refl
  removal-same s h b (mark.Held n) w e = cc

  -- an HTLC whose removal was lost is due it again
  incoming-open : (b : Bool) (k : IncomingLeg) → is_open k ≡ true → is_open (incoming_kept b k) ≡ true
  incoming-open b incoming.Open e = refl
  incoming-open b incoming.RemovalSent e = cc
  incoming-open b incoming.RemovalRefused e = cc
  incoming-open b incoming.Settled e = cc

  lost-again : (b : Bool) → b ≡ false → is_open (incoming_kept b incoming.RemovalSent) ≡ true
  lost-again b e = ap (λ q. is_open (incoming_kept q incoming.RemovalSent)) e

  not-settled : (k : IncomingLeg) → is_open k ≡ true → is_settled k ≡ false
  not-settled incoming.Open e = refl
  not-settled incoming.RemovalSent e = cc
  not-settled incoming.RemovalRefused e = cc
  not-settled incoming.Settled e = cc

  due-removal : (s : Services) (h : Htlc) (b : IncomingLeg) (x : Out × Command) → h.decided ≡ true
      → removes c h ≡ true → is_open b ≡ true → with_out (out.Removing h.key) (removal_by s h h.mark) ≡ Some x
      → command_by s (record h { outgoing = kept h.outgoing; incoming = b }) (due c
      (record h { outgoing = kept h.outgoing; incoming = b }))
      ≡ Some x
  due-removal s h b x decided removing opened e =
      let r = both (has_removal h.mark h.outgoing) (is_open h.incoming && same c h.key.channel) removing in
      let q = both (is_open h.incoming) (same c h.key.channel) r.1 in
      let g = record h { outgoing = kept h.outgoing; incoming = b } in
      ap (command_by s g) (due-so true false (is_resolved_in c g.outgoing) false true h.key (Some (out.Removing h.key))
      h.decided (is_settled b) (is_resolved_in c g.outgoing) (offers c g) (removes c g) decided
      (not-settled b opened) refl
      (still-none h.mark h.outgoing r.0)
      (ap (λ z. z && (is_open b && same c h.key.channel)) (removal-on h.mark h.outgoing r.0)
      ∙ ap (λ z. z && same c h.key.channel) opened ∙ q.1) refl)
      ∙ ap (with_out (out.Removing h.key)) (removal-same s h b h.mark h.outgoing r.0) ∙ e

  -- ---- what is lost

  abbrev lost-table : Out → Table → Table
  lost-table o t = put_back_all c told (kept_out c false o t)

  queue-on : (o : Out) (t : Table) → (lost-table o t).queue ≡ t.queue
  queue-on (out.Deciding n) t = refl
  queue-on (out.Adding k) t = refl
  queue-on (out.Removing k) t = refl
  queue-on (out.Forgetting k) t = refl
  queue-on (out.Resuming n) t = refl

  out-is : (o : Out) (m : Option Command) (x : Out × Command) → with_out o m ≡ Some x → x.0 ≡ o
  out-is o None x e = cc
  out-is o (Some m) x e = let at : (o, m) ≡ x = cc in ap (λ (p : Out × Command). p.0) (sym at)

  forget-same : (s : Services) (h : Htlc) (b : IncomingLeg) (w : OutgoingLeg) → is_resolved_in c w ≡ true
      → command_by s (record h { outgoing = kept w; incoming = b }) (Some (out.Forgetting h.key))
      ≡ command_by s (record h { outgoing = w; incoming = h.incoming }) (Some (out.Forgetting h.key))
  forget-same s h b outgoing.Absent e = cc
  forget-same s h b outgoing.Refused e = cc
  forget-same s h b (outgoing.Offered k) e = cc
  forget-same s h b (outgoing.Resolved k g) e = refl

  not-not : (b : Bool) → not b ≡ true → b ≡ false
  not-not true e = cc
  not-not false e = refl

  -- it is in the list as it was, or with its removal sent
  lost-removal : (s : Services) (t : Table) (h : Htlc) (o : Out) (x : Out × Command) → IsIn h t.htlcs
      → o ≡ out.Removing h.key → h.decided ≡ true → removes c h ≡ true → command_by s h (Some o) ≡ Some x
      → is_lost o told ≡ true
      → (g : Htlc) × IsIn g (lost-table o t).htlcs × (command_by s g (due c g) ≡ Some x)
  lost-removal s t h o x i is d r e lost =
      let parts = both (has_removal h.mark h.outgoing) (is_open h.incoming && same c h.key.channel) r in
      let ends = both (is_open h.incoming) (same c h.key.channel) parts.1 in
      let gone : is_among h.key.id told.removes ≡ false =
      not-not (is_among h.key.id told.removes) (ap (λ y. is_lost y told) (sym is) ∙ lost) in
      let out-then : with_out (out.Removing h.key) (removal_by s h h.mark) ≡ Some x =
      ap (λ y. command_by s h (Some y)) (sym is) ∙ e in
      let b = not (same c h.key.channel) || is_among h.key.id told.removes in
      let none : b ≡ false =
      ap (λ y. not y || is_among h.key.id told.removes) ends.1 ∙ gone in
      elim (in-changed (is_htlc h.key) (put_incoming incoming.RemovalSent) t.htlcs h i) [
        | inl j ↦ (
          htlc_kept c told h,
          subst (λ y. IsIn (htlc_kept c told h) (lost-table y t).htlcs) (sym is)
              (in-map (htlc_kept c told) (changed_first (is_htlc h.key)
              (put_incoming incoming.RemovalSent) t.htlcs) h j),
          due-removal s h (incoming_kept b h.incoming) x d r (incoming-open b h.incoming ends.0) out-then,
        )
        | inr j ↦ (
          htlc_kept c told (put_incoming incoming.RemovalSent h),
          subst (λ y. IsIn (htlc_kept c told (put_incoming incoming.RemovalSent h)) (lost-table y t).htlcs) (sym is)
              (in-map (htlc_kept c told) (changed_first (is_htlc h.key) (put_incoming incoming.RemovalSent) t.htlcs)
              (put_incoming incoming.RemovalSent h) j),
          due-removal s h (incoming_kept b incoming.RemovalSent) x d r (lost-again b none) out-then,
        )
      ]

  lost-htlc : (s : Services) (t : Table) (h : Htlc) (o : Out) (x : Out × Command) → IsIn h t.htlcs
      → due c h ≡ Some o → command_by s h (Some o) ≡ Some x → is_lost o told ≡ true
      → (g : Htlc) × IsIn g (lost-table o t).htlcs × (command_by s g (due c g) ≡ Some x)
  lost-htlc s t h o x i due-is e lost =
      let b = not (same c h.key.channel) || is_among h.key.id told.removes in
      elim (due-of c h o due-is) [
        | forgets d st v is ↦ (
          htlc_kept c told h,
          subst (λ y. IsIn (htlc_kept c told h) (lost-table y t).htlcs) (sym is)
              (in-map (htlc_kept c told) t.htlcs h i),
          ap (command_by s (htlc_kept c told h))
              (due-so true true true (offers c (htlc_kept c told h)) (removes c (htlc_kept c told h)) h.key
              (Some (out.Forgetting h.key)) h.decided (is_settled (incoming_kept b h.incoming)) (is_resolved_in c
              (kept h.outgoing))
              (offers c (htlc_kept c told h)) (removes c (htlc_kept c told h)) d (settled-on b h.incoming st)
              (over-on h.outgoing v) refl refl refl)
              ∙ forget-same s h (incoming_kept b h.incoming) h.outgoing v
              ∙ ap (λ y. command_by s h (Some y)) (sym is) ∙ e,
        )
        | adds d st f is ↦ (
          htlc_kept c told h,
          subst (λ y. IsIn (htlc_kept c told h) (lost-table y t).htlcs) (sym is)
              (in-map (htlc_kept c told) t.htlcs h i),
          ap (command_by s (htlc_kept c told h))
              (due-so true false (is_resolved_in c (kept h.outgoing)) true (removes c (htlc_kept c told h)) h.key
              (Some (out.Adding h.key)) h.decided (is_settled (incoming_kept b h.incoming)) (is_resolved_in c
              (kept h.outgoing))
              (offers c (htlc_kept c told h)) (removes c (htlc_kept c told h)) d (open-on b h.incoming st) refl
              (offers-on h.outgoing (forwards_in c h.mark) f) refl refl)
              ∙ ap (λ y. command_by s h (Some y)) (sym is) ∙ e,
        )
        | takes d st f r is ↦ lost-removal s t h o x i is d r e lost
      ]

  -- a first command is a decision that is queued, or what an HTLC is due
  due-in-by : (s : Services) (h : Htlc) (hs : List Htlc) (x : Out × Command) (o : Option (Out × Command))
      → command_by s h (due c h) ≡ o → or_next o (first_due s c hs) ≡ Some x
      → (first_due s c hs ≡ Some x → (g : Htlc) × IsIn g hs × (command_by s g (due c g) ≡ Some x))
      → (g : Htlc) × IsIn g (h ∷ hs) × (command_by s g (due c g) ≡ Some x)
  due-in-by s h hs x None is e rest = let r = rest e in (r.0, inr r.1, r.2)
  due-in-by s h hs x (Some y) is e rest = (h, inl refl, is ∙ e)

  due-in : (s : Services) (hs : List Htlc) (x : Out × Command) → first_due s c hs ≡ Some x
      → (g : Htlc) × IsIn g hs × (command_by s g (due c g) ≡ Some x)
  due-in s [] x e = cc
  due-in s (h ∷ hs) x e =
      due-in-by s h hs x (command_by s h (due c h)) refl e (λ r. due-in s hs x r)

  lost-due : (s : Services) (t : Table) (h : Htlc) (o : Option Out) (x : Out × Command) → IsIn h t.htlcs
      → due c h ≡ o → command_by s h o ≡ Some x → is_lost (x.0) told ≡ true
      → (g : Htlc) × IsIn g (lost-table (x.0) t).htlcs × (command_by s g (due c g) ≡ Some x)
  lost-due s t h None x i is e lost = cc
  lost-due s t h (Some o) x i is e lost =
      let at : x.0 ≡ o = out-is o (command_of s h o) x e in
      subst (λ y. (g : Htlc) × IsIn g (lost-table y t).htlcs × (command_by s g (due c g) ≡ Some x)) (sym at)
      (lost-htlc s t h o x i is e (subst (λ y. is_lost y told ≡ true) at lost))

  lost-first : (s : Services) (t : Table) (f : Option Queued) (x : Out × Command)
      → find (is_queued_in c) t.queue ≡ f → first_of s c f t.htlcs ≡ Some x → is_lost (x.0) told ≡ true
      → Owes s c x (lost-table (x.0) t)
  lost-first s t (Some q) x is e lost =
      let found = found-in (is_queued_in c) t.queue q is in
      inl (
        q,
        subst (λ qs. IsIn q qs) (sym (queue-on (x.0) t)) found.0,
        found.1,
        (let at : queued_command q ≡ x = cc in sym at),
      )
  lost-first s t None x is e lost =
      let d = due-in s t.htlcs x e in inr (lost-due s t d.0 (due c d.0) x d.1 refl d.2 lost)

pub owed-again : (s : Services) (c : List ℕ) (b : History Table Entry) (x : Out × Command) (told : KeptState)
    → first_command s c (table_of b) ≡ Some x → told.decides ≡ false → is_lost (x.0) told ≡ true
    → Owes s c x (table_of (with_entry (entry.Dropped c told) (with_taken c (Some x) b)))
owed-again s c b x told first decides lost =
    let t = table_of b in
    let taken = with_taken c (Some x) b in
    let idle = with_pending_command c pending_command.Idle (with_pending_command c
    (pending_command.InFlight (x.0)) t) in
    let made : table_of (with_entry (entry.Dropped c told) taken) ≡ lost-table c told (x.0) idle =
    entered taken (entry.Dropped c told)
    ∙ ap (λ d. put_back_all c told (kept_at c told.decides d (table_of taken))) (out-then c b x)
    ∙ ap (λ k. put_back_all c told (kept_out c k (x.0) (with_pending_command c pending_command.Idle
    (table_of taken)))) decides
    ∙ ap (λ u. put_back_all c told (kept_out c false (x.0) (with_pending_command c pending_command.Idle u)))
    (entered b (entry.Taken c (x.0))) in
    subst (λ u. Owes s c x u) (sym made)
    (lost-first c told s idle (find (is_queued_in c) t.queue) x refl (first-by s c
    (pending_command_at c t) t x first) lost)

-- ---- a refused offer

differs : (r n : ℕ) → r < n → (b : Bool) → (r == n) ≡ b → b ≡ false
differs r n lt true e = let is : r ≡ n = eqb-true r n e in absurd (omega (arith, lt, is))
differs r n lt false e = refl

below : (r n : ℕ) → r < n → (b : Bool) → nat_lt r n ≡ b → b ≡ true
below r n lt true e = refl
below r n lt false e = let far : n ≤ r = ltb-false r n e in absurd (omega (arith, lt, far))

refused-then : (c : List ℕ) (k : Key) (t : Table) (r : ℕ) → r < 47
    → (answered_out c (Err r) (out.Adding k) t).htlcs
    ≡ changed_first (is_htlc k) (put_outgoing outgoing.Refused) t.htlcs
refused-then c k t r lt =
    let a = differs r 60 (omega (arith, lt)) (r == 60) refl in
    let b = differs r 61 (omega (arith, lt)) (r == 61) refl in
    let d = differs r 47 lt (r == 47) refl in
    let e = differs r 62 (omega (arith, lt)) (r == 62) refl in
    let f = below r 47 lt (nat_lt r 47) refl in
    ap (λ (z : Bool). (cond (z || (r == 61)) (with_pending_command c (pending_command.Unknown (out.Adding k)) t)
    (cond (is_later r) (with_pending_command c pending_command.Idle t) (refused c r (out.Adding k)
    (with_pending_command c pending_command.Idle t)))).htlcs) a
    ∙ ap (λ (z : Bool). (cond z (with_pending_command c (pending_command.Unknown (out.Adding k)) t)
    (cond (is_later r) (with_pending_command c pending_command.Idle t) (refused c r (out.Adding k)
    (with_pending_command c pending_command.Idle t)))).htlcs) b
    ∙ ap (λ (z : Bool). (cond (z || (r == 62)) (with_pending_command c pending_command.Idle t)
    (refused c r (out.Adding k) (with_pending_command c pending_command.Idle t))).htlcs) d
    ∙ ap (λ (z : Bool). (cond z (with_pending_command c pending_command.Idle t)
    (refused c r (out.Adding k) (with_pending_command c pending_command.Idle t))).htlcs) e
    ∙ ap (λ (z : Bool). cond z (changed_first (is_htlc k) (put_outgoing outgoing.Refused) t.htlcs)
    (left_out (is_htlc k) t.htlcs)) f

fails-incoming : (s : Services) (c : List ℕ) (h : Htlc) (m : Mark) → forwards_in c m ≡ true
    → (has_removal m outgoing.Refused ≡ true) × (removal_by s (put_outgoing outgoing.Refused h) m
    ≡ Some (command.Fail h.key.id (own_failure s h.offer failure.TemporaryChannelFailure)))
fails-incoming s c h mark.None e = (cc, cc)
fails-incoming s c h (mark.Forward d a x) e = (refl, refl)
fails-incoming s c h (mark.Fail r) e = (cc, cc)
fails-incoming s c h (mark.Malformed n) e = (cc, cc)
fails-incoming s c h (mark.Fulfil p) e = (cc, cc)
fails-incoming s c h (mark.Held n) e = (cc, cc)

and-right : (a b : Bool) → (a && b) ≡ true → b ≡ true
and-right true b e = e
and-right false b e = cc

refused-due : (s : Services) (c : List ℕ) (h : Htlc) (k : Key) → due c h ≡ Some (out.Adding k)
    → is_open h.incoming ≡ true
    → command_by s (put_outgoing outgoing.Refused h) (due k.channel (put_outgoing outgoing.Refused h))
    ≡ Some (out.Removing k, command.Fail k.id (own_failure s h.offer failure.TemporaryChannelFailure))
refused-due s c h k e opened =
    let g = put_outgoing outgoing.Refused h in
    elim (due-of c h (out.Adding k) e) [
      | forgets d st v is ↦ cc
      | takes d st f r is ↦ cc
      | adds d st f is ↦ (
          let key : k ≡ h.key = cc in
          let fb = fails-incoming s c h h.mark (and-right (has_nothing_offered h.outgoing) (forwards_in c h.mark) f) in
          ap (command_by s g) (due-so true false (is_resolved_in k.channel outgoing.Refused) false true h.key
          (Some (out.Removing h.key)) h.decided (is_settled h.incoming) (is_resolved_in k.channel outgoing.Refused)
          (offers k.channel g) (removes k.channel g) d st refl refl
          (ap (λ z. z && (is_open h.incoming && same k.channel h.key.channel)) fb.0
          ∙ ap (λ z. z && same k.channel h.key.channel) opened
          ∙ ap (λ (z : Key). same z.channel h.key.channel) key ∙ same-refl h.key.channel) refl)
          ∙ ap (with_out (out.Removing h.key)) fb.1
          ∙ ap (λ (z : Key). Some (
            out.Removing z,
            command.Fail z.id (own_failure s h.offer failure.TemporaryChannelFailure),
          )) (sym key)
          )
    ]

pub fails-incoming-then : (s : Services) (c : List ℕ) (b : History Table Entry) (k : Key) (h : Htlc) (r : ℕ)
    → find (is_htlc k) (table_of b).htlcs ≡ Some h → due c h ≡ Some (out.Adding k) → is_open h.incoming ≡ true
    → pending_command_at c (table_of b) ≡ pending_command.InFlight (out.Adding k) → r < 47
    → (g : Htlc) × (find (is_htlc k) (table_of (replied c (Err r) b)).htlcs ≡ Some g)
    × (command_by s g (due k.channel g) ≡ Some (
      out.Removing k,
      command.Fail k.id (own_failure s h.offer failure.TemporaryChannelFailure),
    ))
fails-incoming-then s c b k h r first is-due opened is-out lt = (
  put_outgoing outgoing.Refused h,
  ap (λ (u : Table). find (is_htlc k) u.htlcs) (replied-out c (Err r) b (out.Adding k) is-out)
      ∙ ap (find (is_htlc k)) (refused-then c k (table_of b) r lt)
      ∙ changed-found (is_htlc k) (put_outgoing outgoing.Refused) (λ x. refl) (table_of b).htlcs h first,
  refused-due s c h k is-due opened,
)

-- ---- an offer that was taken

above : (n r : ℕ) → r < n → (b : Bool) → nat_le n r ≡ b → b ≡ false
above n r lt true e = let le : n ≤ r = leb-true n r e in absurd (omega (arith, lt, le))
above n r lt false e = refl

and-none : (b : Bool) → (b && false) ≡ false
and-none true = refl
and-none false = refl

kept-offered : (e c : List ℕ) (id next : ℕ) → id < next
    → is_outgoing_lost e next (outgoing.Offered (record { channel = c; id = id })) ≡ false
kept-offered e c id next lt =
    let far : nat_le next id ≡ false = above next id lt (nat_le next id) refl in
    ap (λ z. same e c && z) far ∙ and-none (same e c)

pub offered-then : (c : List ℕ) (b : History Table Entry) (k : Key) (h : Htlc) (id : ℕ)
    → find (is_htlc k) (table_of b).htlcs ≡ Some h
    → pending_command_at c (table_of b) ≡ pending_command.InFlight (out.Adding k)
    → (g : Htlc) × (find (is_htlc k) (table_of (replied c (Ok id) b)).htlcs ≡ Some g)
    × ((d : List ℕ) (j : Key) → due d g ≡ Some (out.Adding j) → ⊥)
    × ((e d : List ℕ) (j : Key) (told : KeptState) → id < told.next
    → due d (htlc_kept e told g) ≡ Some (out.Adding j) → ⊥)
offered-then c b k h id first is-out =
    let w = outgoing.Offered (record { channel = c; id = id }) in
    let g = put_outgoing w h in (
      g,
      ap (λ (u : Table). find (is_htlc k) u.htlcs) (replied-out c (Ok id) b (out.Adding k) is-out)
          ∙ changed-found (is_htlc k) (put_outgoing w) (λ x. refl) (table_of b).htlcs h first,
      λ d j e. not-nowhere d g j refl e,
      λ e d j told lt is. not-nowhere d (htlc_kept e told g) j
          (ap (λ z. has_nothing_offered (cond z outgoing.Absent w)) (kept-offered e c id told.next lt)) is,
    )

-- ---- a removal that was taken

and-left : (a b : Bool) → (a && b) ≡ true → a ≡ true
and-left true b e = refl
and-left false b e = cc

-- an HTLC whose removal was taken isn't due one
not-open : (c : List ℕ) (h : Htlc) (k : Key) → is_open h.incoming ≡ false → due c h ≡ Some (out.Removing k) → ⊥
not-open c h k here e =
    elim (due-of c h (out.Removing k) e) [
      | forgets d s v o ↦ cc
      | adds d s f o ↦ cc
      | takes d s f r o ↦ (
          let ends = and-right (has_removal h.mark h.outgoing) (is_open h.incoming && same c h.key.channel) r in
          let yes : true ≡ false = sym (and-left (is_open h.incoming) (same c h.key.channel) ends) ∙ here in cc
          )
    ]

kept-removal : (here kept : Bool) → (here ≡ true → kept ≡ true)
    → is_open (incoming_kept (not here || kept) incoming.RemovalSent) ≡ false
kept-removal false kept so = refl
kept-removal true kept so = ap (λ z. is_open (incoming_kept z incoming.RemovalSent)) (so refl)

pub removed-then : (c : List ℕ) (b : History Table Entry) (k : Key) (h : Htlc) (id : ℕ)
    → find (is_htlc k) (table_of b).htlcs ≡ Some h
    → pending_command_at c (table_of b) ≡ pending_command.InFlight (out.Removing k)
    → (g : Htlc) × (find (is_htlc k) (table_of (replied c (Ok id) b)).htlcs ≡ Some g)
    × ((d : List ℕ) (j : Key) → due d g ≡ Some (out.Removing j) → ⊥)
    × ((e d : List ℕ) (j : Key) (told : KeptState)
    → (same e h.key.channel ≡ true → is_among h.key.id told.removes ≡ true)
    → due d (htlc_kept e told g) ≡ Some (out.Removing j) → ⊥)
removed-then c b k h id first is-out =
    let g = put_incoming incoming.RemovalSent h in (
      g,
      ap (λ (u : Table). find (is_htlc k) u.htlcs) (replied-out c (Ok id) b (out.Removing k) is-out)
          ∙ changed-found (is_htlc k) (put_incoming incoming.RemovalSent) (λ x. refl) (table_of b).htlcs h first,
      λ d j e. not-open d g j refl e,
      λ e d j told so is. not-open d (htlc_kept e told g) j
          (kept-removal (same e h.key.channel) (is_among h.key.id told.removes) so) is,
    )

-- ---- a decision that was taken

module _ {A : Type 0} (p : A → Bool) where
  left-by : (b : Bool) (x : A) (xs : List A) → p x ≡ b → list_any p xs ≡ false
      → list_any p (cond (not b) (x ∷ xs) xs) ≡ false
  left-by true x xs is rest = rest
  left-by false x xs is rest = ap (λ z. z || list_any p xs) is ∙ rest

  none-left : (xs : List A) → list_any p (left_out p xs) ≡ false
  none-left [] = refl
  none-left (x ∷ xs) = left-by (p x) x (left_out p xs) refl (none-left xs)

pub decided-then : (c : List ℕ) (b : History Table Entry) (n id : ℕ)
    → pending_command_at c (table_of b) ≡ pending_command.InFlight (out.Deciding n)
    → list_any (is_queued c n) (table_of (replied c (Ok id) b)).queue ≡ false
decided-then c b n id is-out =
    ap (λ (u : Table). list_any (is_queued c n) u.queue) (replied-out c (Ok id) b (out.Deciding n) is-out)
    ∙ none-left (is_queued c n) (table_of b).queue

-- ---- what is owed can be taken

some-next : (y z : Option (Out × Command)) → (is_some y ≡ true) ⊎ (is_some z ≡ true) → is_some (or_next y z) ≡ true
some-next None z (inl e) = cc
some-next None z (inr e) = e
some-next (Some y) z either = refl

some-due : (s : Services) (c : List ℕ) (hs : List Htlc) (h : Htlc) (x : Out × Command) → IsIn h hs
    → command_by s h (due c h) ≡ Some x → is_some (first_due s c hs) ≡ true
some-due s c [] h x i e = absurd i
some-due s c (g ∷ hs) h x (inl at) e =
    some-next (command_by s g (due c g)) (first_due s c hs)
    (inl (ap is_some (ap (λ y. command_by s y (due c y)) (sym at) ∙ e)))
some-due s c (g ∷ hs) h x (inr i) e =
    some-next (command_by s g (due c g)) (first_due s c hs) (inr (some-due s c hs h x i e))

some-first : (s : Services) (c : List ℕ) (t : Table) (f : Option Queued) (x : Out × Command)
    → ((is_some f ≡ true) ⊎ ((h : Htlc) × IsIn h t.htlcs × (command_by s h (due c h) ≡ Some x)))
    → is_some (first_of s c f t.htlcs) ≡ true
some-first s c t (Some q) x either = refl
some-first s c t None x (inl e) = cc
some-first s c t None x (inr d) = some-due s c t.htlcs d.0 x d.1 d.2

pub can-be-taken : (s : Services) (c : List ℕ) (b : History Table Entry) (x : Out × Command) → Owes s c x (table_of b)
    → pending_command_at c (table_of b) ≡ pending_command.Idle → is_some (first_command s c (table_of b)) ≡ true
can-be-taken s c b x (inl q) idle =
    let t = table_of b in
    ap (λ d. is_some (first_at s c d t)) idle
    ∙ some-first s c t (find (is_queued_in c) t.queue) x (inl (some-found (is_queued_in c) t.queue q.0 q.1 q.2))
can-be-taken s c b x (inr h) idle =
    let t = table_of b in
    ap (λ d. is_some (first_at s c d t)) idle
    ∙ some-first s c t (find (is_queued_in c) t.queue) x (inr h)
