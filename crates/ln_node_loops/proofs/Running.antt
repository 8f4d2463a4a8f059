-- Turns one after the other.
use Rattle.std.proofs.Common.{◌≡◌, ◌++◌, ◌∷◌, [], ℕ, List, Option, Some, Bool, true, false, Result, Ok, Err}
use Rattle.std.proofs.Common.{refl, sym, ap, ◌∙◌, subst}
use Rattle.std.proofs.Common.{append-nil, cond, inl, inr}
use Rattle.std.proofs.lemmas.List.{append_assoc}
use Rattle.ln_msgs.specs.declared.messages.message.Message.{Message}
use Rattle.ln_hooks.specs.declared.event.ChannelEvent.{ChannelEvent}
use Rattle.ln_channel.specs.declared.output.Output.{Output}
use Rattle.ln_refusals.specs.declared.refusal.Refusal.{Refusal}
use Rattle.ln_node_loops.specs.declared.features.PeerFeatures.{PeerFeatures}
use Rattle.ln_node_loops.specs.declared.item.Item.{Item}
use Rattle.ln_node_loops.specs.declared.item.Item.TheVariants as item
use Rattle.ln_node_loops.specs.Act.{Act}
use Rattle.ln_node_loops.specs.declared.task.Task.{Task}
use Rattle.ln_node_loops.specs.Turns.{Turn, Serves, Passes, Obeys, Loads, StaysHalted, Rests, Stand, Step, Leads}
use Rattle.ln_node_loops.specs.Turns.{LoopState, Ran, asks, asked_in, is_idle, FindsNone}
use Rattle.ln_node_loops.specs.Turns.{items_of, told, told_in, News, turn_of, events}
use Rattle.ln_node_loops.specs.Turns.{fresh, last_of, tasks, tasks_of, is_new, load_of, told_after, says, is_load}
use Rattle.ln_node_loops.specs.Turns.{may_come}
use Rattle.ln_node_loops.specs.Turns.{OneTurn, ReloadsIfHalted, drops, OfBook, OfUser, OfWorker}
use Rattle.ln_node_loops.specs.Turns.{replies, replies_in, Declines, notes, noted_in, met_in}
use Rattle.ln_node_loops.specs.declared.noted.Noted.{Noted}
use Rattle.ln_node_loops.specs.declared.noted.Noted.TheVariants.{Tells}
use Rattle.ln_node_loops.specs.Noted.{meets, became, became_unless, awaits_init, beside_reply, load_notes}
use Rattle.ln_node_loops.specs.declared.notice.Notice.TheVariants as notice
use Rattle.ln_node_loops.specs.Orders.{Reply, subject_in, replies_to}
use Rattle.ln_node_loops.specs.Owed.{owed, load_words}
use Rattle.ln_node_loops.specs.Phase.{is_served}
use Rattle.ln_book.specs.Answers.{command_subject, answer_to, waits}
use Rattle.ln_node_loops.proofs.Owing.{item-owes, item-comes, item-replies, item-notes, asked-at}
use Rattle.ln_channel.specs.declared.command.Command.{Command}
use Rattle.ln_channel.specs.declared.command.Command.TheVariants as command
use Rattle.ln_book.specs.Saying.{took_one, answered}
use Rattle.ln_book.specs.Seen.{channel_of, next_htlc}
use Rattle.ln_book.specs.declared.switch.saying.Saying.{Saying}
use Rattle.ln_book.specs.Seen.{Seen}
use Rattle.std.specs.Prelude.{not, ◌&&◌}

-- ---- lists

pub items-append : {W : Type 0} (ts us : List (Turn W)) → items_of (ts ++ us) ≡ items_of ts ++ items_of us
items-append [] us = refl
items-append (Serves i os a ∷ ts) us = ap (λ l. i ∷ l) (items-append ts us)
items-append (Passes i ∷ ts) us = ap (λ l. i ∷ l) (items-append ts us)
items-append (Obeys OfBook c os a w ∷ ts) us = items-append ts us
items-append (Obeys OfUser c os a w ∷ ts) us = ap (λ l. item.Order c ∷ l) (items-append ts us)
items-append (Obeys OfWorker c os a w ∷ ts) us = items-append ts us
items-append (Loads es ∷ ts) us = items-append ts us
items-append (StaysHalted r ∷ ts) us = items-append ts us
items-append (Rests allowed ∷ ts) us = items-append ts us

asked-append : {W : Type 0} (ts us : List (Turn W)) → asked_in (ts ++ us) ≡ asked_in ts ++ asked_in us
asked-append [] us = refl
asked-append (t ∷ ts) us =
    ap (λ l. asks t ++ l) (asked-append ts us) ∙ sym (append_assoc (asks t) (asked_in ts) (asked_in us))

none-append : {W : Type 0} (empty : List (Item W) → Type 0) (taken : List (Item W)) (ts us : List (Turn W))
    → FindsNone empty taken ts → FindsNone empty (taken ++ items_of ts) us → FindsNone empty taken (ts ++ us)
none-append empty taken [] us first on = subst (λ l. FindsNone empty l us) (append-nil taken) on
none-append empty taken (t ∷ ts) us first on = (
  first.0,
  none-append empty (taken ++ items_of (t ∷ [])) ts us first.1
      (subst (λ l. FindsNone empty l us) (ap (λ l. taken ++ l) (items-append (t ∷ []) ts)
      ∙ sym (append_assoc taken (items_of (t ∷ [])) (items_of ts))) on),
)

told-append : (ns ms : List News) → told_in (ns ++ ms) ≡ told_in ns ++ told_in ms
told-append [] ms = refl
told-append ((c, es, rs, qs) ∷ ns) ms =
    ap (λ l. es ++ l) (told-append ns ms) ∙ sym (append_assoc es (told_in ns) (told_in ms))

replies-append : (ns ms : List News) → replies_in (ns ++ ms) ≡ replies_in ns ++ replies_in ms
replies-append [] ms = refl
replies-append ((c, es, rs, qs) ∷ ns) ms =
    ap (λ l. rs ++ l) (replies-append ns ms) ∙ sym (append_assoc rs (replies_in ns) (replies_in ms))

noted-append : (ns ms : List News) → noted_in (ns ++ ms) ≡ noted_in ns ++ noted_in ms
noted-append [] ms = refl
noted-append ((c, es, rs, qs) ∷ ns) ms =
    ap (λ l. qs ++ l) (noted-append ns ms) ∙ sym (append_assoc qs (noted_in ns) (noted_in ms))

fresh-by : (b : Bool) (n : ℕ) (e : ChannelEvent) (last : Option ℕ) (xs ys : List (ℕ × ChannelEvent))
    → fresh (Some n) (xs ++ ys) ≡ fresh (Some n) xs ++ fresh (last_of (Some n) xs) ys
    → fresh last (xs ++ ys) ≡ fresh last xs ++ fresh (last_of last xs) ys
    → cond b ((n, e) ∷ fresh (Some n) (xs ++ ys)) (fresh last (xs ++ ys))
    ≡ cond b ((n, e) ∷ fresh (Some n) xs) (fresh last xs) ++ fresh (cond b (last_of (Some n) xs) (last_of last xs)) ys
fresh-by true n e last xs ys new old = ap (λ l. (n, e) ∷ l) new
fresh-by false n e last xs ys new old = old

pub fresh-append : (last : Option ℕ) (xs ys : List (ℕ × ChannelEvent))
    → fresh last (xs ++ ys) ≡ fresh last xs ++ fresh (last_of last xs) ys
fresh-append last [] ys = refl
fresh-append last ((n, e) ∷ xs) ys =
    fresh-by (is_new last n) n e last xs ys (fresh-append (Some n) xs ys) (fresh-append last xs ys)

last-by : (b : Bool) (n : ℕ) (last : Option ℕ) (xs ys : List (ℕ × ChannelEvent))
    → last_of (Some n) (xs ++ ys) ≡ last_of (last_of (Some n) xs) ys
    → last_of last (xs ++ ys) ≡ last_of (last_of last xs) ys
    → cond b (last_of (Some n) (xs ++ ys)) (last_of last (xs ++ ys))
    ≡ last_of (cond b (last_of (Some n) xs) (last_of last xs)) ys
last-by true n last xs ys new old = new
last-by false n last xs ys new old = old

last-append : (last : Option ℕ) (xs ys : List (ℕ × ChannelEvent))
    → last_of last (xs ++ ys) ≡ last_of (last_of last xs) ys
last-append last [] ys = refl
last-append last ((n, e) ∷ xs) ys =
    last-by (is_new last n) n last xs ys (last-append (Some n) xs ys) (last-append last xs ys)

tasks-append : {H : Type 0} (last : Option ℕ) (ns ms : List News)
    → tasks_of {H = H} last (ns ++ ms) ≡ tasks_of last ns ++ tasks_of (last_of last (told_in ns)) ms
tasks-append last [] ms = refl
tasks-append last ((c, es, rs, qs) ∷ ns) ms =
    ap (λ l. tasks c (fresh last es) ++ l) (tasks-append (last_of last es) ns ms)
    ∙ sym (append_assoc (tasks c (fresh last es)) (tasks_of (last_of last es) ns)
    (tasks_of (last_of (last_of last es) (told_in ns)) ms))
    ∙ ap (λ m. (tasks c (fresh last es) ++ tasks_of (last_of last es) ns) ++ tasks_of m ms)
    (sym (last-append last es (told_in ns)))

-- what is put and which number is the last: after what one turn has told of, and over two lists
pub put-first : {H : Type 0} (last mid : Option ℕ) (c : Option (List ℕ)) (es : List (ℕ × ChannelEvent))
    (rs : List Reply) (qs : List Noted) (ms : List News) (put put' put'' : List (Task H))
    → put' ≡ put ++ tasks c (fresh last es) → mid ≡ last_of last es → put'' ≡ put' ++ tasks_of mid ms
    → put'' ≡ put ++ tasks_of last ((c, es, rs, qs) ∷ ms)
put-first last mid c es rs qs ms put put' put'' one at two =
    two ∙ ap (λ l. l ++ tasks_of mid ms) one ∙ append_assoc put (tasks c (fresh last es)) (tasks_of mid ms)
    ∙ ap (λ m. put ++ (tasks c (fresh last es) ++ tasks_of m ms)) at

put-on : {H : Type 0} (last mid : Option ℕ) (ns ms : List News) (put put' put'' : List (Task H))
    → put' ≡ put ++ tasks_of last ns → mid ≡ last_of last (told_in ns) → put'' ≡ put' ++ tasks_of mid ms
    → put'' ≡ put ++ tasks_of last (ns ++ ms)
put-on last mid ns ms put put' put'' one at two =
    two ∙ ap (λ l. l ++ tasks_of mid ms) one ∙ append_assoc put (tasks_of last ns) (tasks_of mid ms)
    ∙ ap (λ m. put ++ (tasks_of last ns ++ tasks_of m ms)) at
    ∙ ap (λ l. put ++ l) (sym (tasks-append last ns ms))

pub last-on : (last mid end : Option ℕ) (xs ys : List (ℕ × ChannelEvent)) → mid ≡ last_of last xs → end ≡ last_of mid ys
    → end ≡ last_of last (xs ++ ys)
last-on last mid end xs ys one two = two ∙ ap (λ m. last_of m ys) one ∙ sym (last-append last xs ys)

turned-items : {W : Type 0} (served : Bool) (i : Item W) (os : List Output) (answer written : Result (Unit {0}) Refusal)
    → items_of (turn_of served i os answer written ∷ []) ≡ i ∷ []
turned-items true (item.Joined w) os answer written = refl
turned-items true (item.Read m) os answer written = refl
turned-items true item.Broken os answer written = refl
turned-items true (item.Order c) os answer written = refl
turned-items true item.Stop os answer written = refl
turned-items false i os answer written = refl

turned-told : {W : Type 0} (served : Bool) (i : Item W) (os : List Output) (answer written : Result (Unit {0}) Refusal)
    → (served ≡ false → os ≡ []) → events os ≡ told (turn_of served i os answer written)
turned-told true (item.Joined w) os answer written none = refl
turned-told true (item.Read m) os answer written none = refl
turned-told true item.Broken os answer written none = refl
turned-told true (item.Order c) os answer written none = refl
turned-told true item.Stop os answer written none = refl
turned-told false i os answer written none = ap events (none refl)

turned-asks : {W : Type 0} (served : Bool) (i : Item W) (os : List Output) (answer written : Result (Unit {0}) Refusal)
    → [] ≡ asks (turn_of served i os answer written)
turned-asks true (item.Joined w) os answer written = refl
turned-asks true (item.Read m) os answer written = refl
turned-asks true item.Broken os answer written = refl
turned-asks true (item.Order c) os answer written = refl
turned-asks true item.Stop os answer written = refl
turned-asks false i os answer written = refl

turned-busy : {W A : Type 0} (served : Bool) (i : Item W) (os : List Output)
    (answer written : Result (Unit {0}) Refusal)
    → is_idle (turn_of served i os answer written) ≡ true → A
turned-busy true (item.Joined w) os answer written e = absurd cc
turned-busy true (item.Read m) os answer written e = absurd cc
turned-busy true item.Broken os answer written e = absurd cc
turned-busy true (item.Order c) os answer written e = absurd cc
turned-busy true item.Stop os answer written e = absurd cc
turned-busy false i os answer written e = absurd cc

-- ---- runs

come-alike : {W : Type 0} (b : Bool) (h : Bool) (t : Turn W) → may_come false h t ≡ true → may_come b h t ≡ true
come-alike true h (Serves i os a) e = refl
come-alike true h (Passes i) e = refl
come-alike false h (Serves i os a) e = e
come-alike false h (Passes i) e = e
come-alike b h (Obeys OfBook c os a w) e = refl
come-alike true h (Obeys OfUser c os a w) e = refl
come-alike false h (Obeys OfUser c os a w) e = e
come-alike b h (Obeys OfWorker c os a w) e = refl
come-alike b h (Loads es) e = refl
come-alike b h (StaysHalted r) e = refl
come-alike b h (Rests allowed) e = refl

loads-come : {W : Type 0} (t : Turn W) (h : Bool) → is_load t ≡ true → may_come false h t ≡ true
loads-come (Serves i os a) h e = cc
loads-come (Passes i) h e = cc
loads-come (Obeys OfBook c os a w) h e = refl
loads-come (Obeys OfUser c os a w) h e = cc
loads-come (Obeys OfWorker c os a w) h e = refl
loads-come (Loads es) h e = refl
loads-come (StaysHalted r) h e = refl
loads-come (Rests allowed) h e = cc

loads-busy : {W A : Type 0} (t : Turn W) → is_load t ≡ true → is_idle t ≡ true → A
loads-busy (Serves i os a) l e = absurd cc
loads-busy (Passes i) l e = absurd cc
loads-busy (Obeys OfBook c os a w) l e = absurd cc
loads-busy (Obeys OfUser c os a w) l e = absurd cc
loads-busy (Obeys OfWorker c os a w) l e = absurd cc
loads-busy (Loads es) l e = absurd cc
loads-busy (StaysHalted r) l e = absurd cc
loads-busy (Rests allowed) l e = absurd cc

-- an end that hasn't halted may take what one may whose load was tried
come-on : {W : Type 0} (h : Bool) (t : Turn W) → h ≡ false → may_come true h t ≡ true → may_come false h t ≡ true
come-on h (Serves i os a) works e = ap not works
come-on h (Passes i) works e = ap not works
come-on h (Obeys OfBook c os a w) works e = refl
come-on h (Obeys OfUser c os a w) works e = ap not works
come-on h (Obeys OfWorker c os a w) works e = refl
come-on h (Loads es) works e = refl
come-on h (StaysHalted r) works e = refl
come-on h (Rests allowed) works e = refl

module _ {S W : Type 0} (acts : S → Act → Result (List Output) Refusal → S → Type 0) (halted : S → Bool)
    (pending : S → List (ℕ × ChannelEvent)) (owes : S → Bool) (seen : S → Option Seen) (contents : W → Option (List ℕ))
    (own_init : Message) (peer : PeerFeatures) where
  leads-alike : (b : Bool) (s : Stand S) (ts : List (Turn W)) (ws : List Saying) (ns : List News) (s' : Stand S)
      → Leads acts halted pending owes seen contents own_init peer false s ts ws ns s'
      → Leads acts halted pending owes seen contents own_init peer b s ts ws ns s'
  leads-alike b s [] ws ns s' l = l
  leads-alike b s (t ∷ ts) ws ns s' l =
      (l.0, l.1, l.2, l.3, come-alike b (halted s.end) t l.4, l.5, l.6, l.7)

  pub leads-on : (s : Stand S) (ts : List (Turn W)) (ws : List Saying) (ns : List News) (s' : Stand S)
      → halted s.end ≡ false
      → Leads acts halted pending owes seen contents own_init peer true s ts ws ns s'
      → Leads acts halted pending owes seen contents own_init peer false s ts ws ns s'
  leads-on s [] ws ns s' works l = l
  leads-on s (t ∷ ts) ws ns s' works l =
      (l.0, l.1, l.2, l.3, come-on (halted s.end) t works l.4, l.5, l.6, l.7)

  leads-append : (b : Bool) (s : Stand S) (ts : List (Turn W)) (ws : List Saying) (ns : List News) (mid : Stand S)
      (us : List (Turn W)) (vs : List Saying) (ms : List News) (s' : Stand S)
      → Leads acts halted pending owes seen contents own_init peer b s ts ws ns mid
      → Leads acts halted pending owes seen contents own_init peer false mid us vs ms s'
      → Leads acts halted pending owes seen contents own_init peer b s (ts ++ us) (ws ++ vs) (ns ++ ms) s'
  leads-append b s [] ws ns mid us vs ms s' same on =
      subst (λ w. Leads acts halted pending owes seen contents own_init peer b s us (w ++ vs) (ns ++ ms) s')
      (sym same.1)
      (subst (λ n. Leads acts halted pending owes seen contents own_init peer b s us vs (n ++ ms) s') (sym same.2)
      (subst (λ m. Leads acts halted pending owes seen contents own_init peer b m us vs ms s') same.0
      (leads-alike b mid us vs ms s' on)))
  leads-append b s (t ∷ ts) ws ns mid us vs ms s' first on = (
    first.0,
    first.1 ++ vs,
    first.2 ++ ms,
    first.3,
    first.4,
    ap (λ w. w ++ vs) first.5 ∙ append_assoc (says halted seen s.end t first.0.end) first.1 vs,
    ap (λ n. n ++ ms) first.6,
    leads-append (is_load t) first.0 ts first.1 first.2 mid us vs ms s' first.7 on,
  )

  passed-so : (s s' : Stand S) (served : Bool) (i : Item W) (os : List Output)
      (answer written : Result (Unit {0}) Refusal)
      → Step acts halted pending owes contents own_init peer s (turn_of served i os answer written) s'
      → served ≡ false → is_served s.phase i ≡ false
  passed-so s s' true i os answer written step e = cc
  passed-so s s' false i os answer written step e = step.0

both-true : (a b : Bool) → (a && b) ≡ true → (a ≡ true) × (b ≡ true)
both-true true true e = (refl, refl)
both-true true false e = absurd cc
both-true false b e = absurd cc

module _ {S W H : Type 0} (acts : S → Act → Result (List Output) Refusal → S → Type 0) (halted : S → Bool)
    (pending : S → List (ℕ × ChannelEvent)) (owes : S → Bool) (seen : S → Option Seen) (contents : W → Option (List ℕ))
    (own_init : Message) (peer : PeerFeatures) where
  -- one turn, whose events were put after the last number so far
  pub turned : (a b : LoopState S W H) (t : Turn W) (last : Option ℕ) (es : List (ℕ × ChannelEvent))
      (words : List Saying)
      (rs : List Reply) (bs : List Bool) (qs : List Noted)
      → Step acts halted pending owes contents own_init peer a.stand t b.stand → b.taken ≡ a.taken ++ items_of (t ∷ [])
      → last ≡ a.last → es ≡ told t → b.put ≡ a.put ++ tasks (channel_of (seen b.stand.end)) (fresh last es)
      → b.last ≡ last_of last es
      → words ≡ says halted seen a.stand.end t b.stand.end → b.said ≡ a.said ++ words
      → rs ≡ replies seen a.stand.end t → b.replied ≡ a.replied ++ rs → bs ≡ asks t → b.allowed ≡ a.allowed ++ bs
      → qs ≡ notes halted seen a.stand t b.stand → b.noted ≡ a.noted ++ qs
      → OneTurn acts halted pending owes seen contents own_init peer a t b
  turned a b t last es words rs bs qs step took at are put end due spoke answers replied asked allowed is
      noted = record {
        step = step;
        took = took;
        put = put ∙ ap (λ l. a.put ++ tasks (channel_of (seen b.stand.end)) (fresh l es)) at
            ∙ ap (λ l. a.put ++ tasks (channel_of (seen b.stand.end)) (fresh a.last l)) are;
        last = end ∙ ap (λ l. last_of l es) at ∙ ap (λ l. last_of a.last l) are;
        spoke = spoke ∙ ap (λ l. a.said ++ l) due;
        noted = noted ∙ ap (λ l. a.noted ++ l) is;
        replied = replied ∙ ap (λ l. a.replied ++ l) answers;
        allowed = allowed ∙ ap (λ l. a.allowed ++ l) asked;
      }

  -- a load, after which the events that are pending were put and the book was told of it
  pub turned-load : (a b : LoopState S W H) (answer : Result (Unit {0}) Refusal) (es told : List (ℕ × ChannelEvent))
      (last : Option ℕ)
      → Step acts halted pending owes contents own_init peer a.stand (load_of answer es) b.stand → b.taken ≡ a.taken
      → last ≡ a.last → told ≡ told_after answer es
      → b.put ≡ a.put ++ tasks (channel_of (seen b.stand.end)) (fresh last told) → b.last ≡ last_of last told
      → b.said ≡ a.said ++ load_words answer (seen b.stand.end) told → b.replied ≡ a.replied → b.allowed ≡ a.allowed
      → b.noted ≡ a.noted ++ load_notes answer
      → ReloadsIfHalted acts halted pending owes seen contents own_init peer a b
  turned-load a b (Ok u) es told last step took at are put end spoke still asked noted =
      inr (
        Loads es,
        refl,
        turned a b (Loads es) last told (load_words (Ok u) (seen b.stand.end) told) [] []
            (Tells notice.Loaded ∷ []) step
            (took ∙ sym (append-nil a.taken)) at are put end
            (ap (λ l. owed (seen b.stand.end) true l) are) spoke refl (still ∙ sym (append-nil a.replied)) refl
            (asked ∙ sym (append-nil a.allowed)) refl noted,
      )
  turned-load a b (Err r) es told last step took at are put end spoke still asked noted =
      inr (
        StaysHalted r,
        refl,
        turned a b (StaysHalted r) last told (load_words (Err r) (seen b.stand.end) told) [] [] [] step
            (took ∙ sym (append-nil a.taken)) at are put end refl spoke refl (still ∙ sym (append-nil a.replied)) refl
            (asked ∙ sym (append-nil a.allowed)) refl noted,
      )

module _ {S W H : Type 0} (acts : S → Act → Result (List Output) Refusal → S → Type 0) (halted : S → Bool)
    (pending : S → List (ℕ × ChannelEvent)) (owes : S → Bool) (seen : S → Option Seen) (contents : W → Option (List ℕ))
    (own_init : Message) (peer : PeerFeatures) (empty : List (Item W) → Type 0) where
  pub ran-none : (b : Bool) (a : LoopState S W H)
      → Ran acts halted pending owes seen contents own_init peer empty b a a
  ran-none b a = record {
    turns = [];
    words = [];
    news = [];
    leads = (refl, refl, refl);
    took = sym (append-nil a.taken);
    put = sym (append-nil a.put);
    last = refl;
    spoke = sym (append-nil a.said);
    noted = sym (append-nil a.noted);
    replied = sym (append-nil a.replied);
    allowed = sym (append-nil a.allowed);
    idle = tt;
  }

  pub ran-on : (k : Bool) (a b c : LoopState S W H)
      → Ran acts halted pending owes seen contents own_init peer empty k a b
      → Ran acts halted pending owes seen contents own_init peer empty false b c
      → Ran acts halted pending owes seen contents own_init peer empty k a c
  ran-on k a b c one two = record {
    turns = one.turns ++ two.turns;
    words = one.words ++ two.words;
    news = one.news ++ two.news;
    leads = leads-append acts halted pending owes seen contents own_init peer k a.stand one.turns one.words one.news
        b.stand two.turns two.words two.news c.stand one.leads two.leads;
    took = two.took ∙ ap (λ l. l ++ items_of two.turns) one.took
        ∙ append_assoc a.taken (items_of one.turns) (items_of two.turns)
        ∙ ap (λ l. a.taken ++ l) (sym (items-append one.turns two.turns));
    put = put-on a.last b.last one.news two.news a.put b.put c.put one.put one.last two.put;
    last = last-on a.last b.last c.last (told_in one.news) (told_in two.news) one.last two.last
        ∙ ap (λ l. last_of a.last l) (sym (told-append one.news two.news));
    spoke = two.spoke ∙ ap (λ l. l ++ two.words) one.spoke ∙ append_assoc a.said one.words two.words;
    noted = two.noted ∙ ap (λ l. l ++ noted_in two.news) one.noted
        ∙ append_assoc a.noted (noted_in one.news) (noted_in two.news)
        ∙ ap (λ l. a.noted ++ l) (sym (noted-append one.news two.news));
    replied = two.replied ∙ ap (λ l. l ++ replies_in two.news) one.replied
        ∙ append_assoc a.replied (replies_in one.news) (replies_in two.news)
        ∙ ap (λ l. a.replied ++ l) (sym (replies-append one.news two.news));
    allowed = two.allowed ∙ ap (λ l. l ++ asked_in two.turns) one.allowed
        ∙ append_assoc a.allowed (asked_in one.turns) (asked_in two.turns)
        ∙ ap (λ l. a.allowed ++ l) (sym (asked-append one.turns two.turns));
    idle = none-append empty a.taken one.turns two.turns one.idle
        (subst (λ l. FindsNone empty l two.turns) one.took two.idle);
  }

  -- one turn, after which others went on
  pub ran-turn : (k : Bool) (a b c : LoopState S W H) (t : Turn W) → may_come k (halted a.stand.end) t ≡ true
      → (is_idle t ≡ true → empty a.taken)
      → OneTurn acts halted pending owes seen contents own_init peer a t b
      → Ran acts halted pending owes seen contents own_init peer empty (is_load t) b c
      → Ran acts halted pending owes seen contents own_init peer empty k a c
  ran-turn k a b c t may none one two = record {
    turns = t ∷ two.turns;
    words = says halted seen a.stand.end t b.stand.end ++ two.words;
    news = (channel_of (seen b.stand.end), told t, replies seen a.stand.end t, notes halted seen a.stand t b.stand)
        ∷ two.news;
    leads = (b.stand, two.words, two.news, one.step, may, refl, refl, two.leads);
    took = two.took ∙ ap (λ l. l ++ items_of two.turns) one.took
        ∙ append_assoc a.taken (items_of (t ∷ [])) (items_of two.turns)
        ∙ ap (λ l. a.taken ++ l) (sym (items-append (t ∷ []) two.turns));
    put = put-first a.last b.last (channel_of (seen b.stand.end)) (told t) (replies seen a.stand.end t)
        (notes halted seen a.stand t b.stand) two.news a.put b.put c.put one.put one.last two.put;
    last = last-on a.last b.last c.last (told t) (told_in two.news) one.last two.last;
    spoke = two.spoke ∙ ap (λ l. l ++ two.words) one.spoke
        ∙ append_assoc a.said (says halted seen a.stand.end t b.stand.end) two.words;
    noted = two.noted ∙ ap (λ l. l ++ noted_in two.news) one.noted
        ∙ append_assoc a.noted (notes halted seen a.stand t b.stand) (noted_in two.news);
    replied = two.replied ∙ ap (λ l. l ++ replies_in two.news) one.replied
        ∙ append_assoc a.replied (replies seen a.stand.end t) (replies_in two.news);
    allowed = two.allowed ∙ ap (λ l. l ++ asked_in two.turns) one.allowed
        ∙ append_assoc a.allowed (asks t) (asked_in two.turns);
    idle = (none, subst (λ l. FindsNone empty l two.turns) one.took two.idle);
  }

  pub ran-one : (k : Bool) (a b : LoopState S W H) (t : Turn W) → may_come k (halted a.stand.end) t ≡ true
      → (is_idle t ≡ true → empty a.taken)
      → OneTurn acts halted pending owes seen contents own_init peer a t b
      → Ran acts halted pending owes seen contents own_init peer empty k a b
  ran-one k a b t may none one = ran-turn k a b b t may none one (ran-none (is_load t) b)

  -- after a halted end was to be loaded an item was taken
  pub ran-mended : (a b c : LoopState S W H) → ReloadsIfHalted acts halted pending owes seen contents own_init peer a b
      → Ran acts halted pending owes seen contents own_init peer empty true b c
      → Ran acts halted pending owes seen contents own_init peer empty false a c
  ran-mended a b c (inl none) two = record {
    turns = two.turns;
    words = two.words;
    news = two.news;
    leads = subst
        (λ s. Leads acts halted pending owes seen contents own_init peer false s two.turns two.words two.news c.stand)
        (ap (λ (g : LoopState S W H). g.stand) none.1)
        (leads-on acts halted pending owes seen contents own_init peer b.stand two.turns two.words two.news c.stand
        (ap (λ (g : LoopState S W H). halted g.stand.end) none.1 ∙ none.0) two.leads);
    took = two.took ∙ ap (λ (g : LoopState S W H). g.taken ++ items_of two.turns) none.1;
    put = two.put ∙ ap (λ (g : LoopState S W H). g.put ++ tasks_of g.last two.news) none.1;
    last = two.last ∙ ap (λ (g : LoopState S W H). last_of g.last (told_in two.news)) none.1;
    spoke = two.spoke ∙ ap (λ (g : LoopState S W H). g.said ++ two.words) none.1;
    noted = two.noted ∙ ap (λ (g : LoopState S W H). g.noted ++ noted_in two.news) none.1;
    replied = two.replied ∙ ap (λ (g : LoopState S W H). g.replied ++ replies_in two.news) none.1;
    allowed = two.allowed ∙ ap (λ (g : LoopState S W H). g.allowed ++ asked_in two.turns) none.1;
    idle = subst (λ (g : LoopState S W H). FindsNone empty g.taken two.turns) none.1 two.idle;
  }
  ran-mended a b c (inr some) two =
      ran-turn false a b c some.0 (loads-come some.0 (halted a.stand.end) some.1) (loads-busy some.0 some.1) some.2
      (subst (λ k. Ran acts halted pending owes seen contents own_init peer empty k b c) (sym some.1) two)

  -- an item that was served or passed over
  pub ran-item : (a b : LoopState S W H) (served : Bool) (i : Item W) (os : List Output)
      (answer written : Result (Unit {0}) Refusal) (last : Option ℕ) (next : ℕ) (met : Option Message)
      → Step acts halted pending owes contents own_init peer a.stand (turn_of served i os answer written) b.stand
      → (served ≡ false → os ≡ []) → (served ≡ false → Declines i answer) → (served ≡ false → written ≡ Ok tt)
      → met ≡ met_in served a.stand.phase i b.stand.phase
      → b.taken ≡ a.taken ++ i ∷ [] → last ≡ a.last
      → b.put ≡ a.put ++ tasks (channel_of (seen b.stand.end)) (fresh last (events os))
      → b.last ≡ last_of last (events os)
      → b.said ≡ a.said ++ owed (seen b.stand.end) (drops i false && not (halted b.stand.end)) (events os)
      → next ≡ next_htlc (seen a.stand.end) → b.replied ≡ a.replied ++ replies_to (subject_in next i) answer
      → b.allowed ≡ a.allowed
      → b.noted ≡ a.noted ++ (meets met
      ++ became (awaits_init a.stand.phase) (halted a.stand.end) (beside_reply (subject_in next i) answer written)
      b.stand.phase (halted b.stand.end))
      → Ran acts halted pending owes seen contents own_init peer empty true a b
  ran-item a b served i os answer written last next met step none declined dry meeting took at put end spoke is replied
      asked noted =
      let turn = turn_of served i os answer written in
      ran-one true a b turn (item-comes served (halted a.stand.end) i os answer written)
      (turned-busy served i os answer written)
      (turned acts halted pending owes seen contents own_init peer a b turn last (events os) _
      (replies_to (subject_in next i) answer) [] _ step
      (took ∙ ap (λ l. a.taken ++ l) (sym (turned-items served i os answer written))) at
      (turned-told served i os answer written none) put end
      (item-owes halted seen a.stand.end b.stand.end a.stand.phase served i os answer written
      (passed-so acts halted pending owes seen contents own_init peer a.stand b.stand served i os answer written step)
      none)
      spoke (item-replies halted seen a.stand.end served i os answer written next is declined) replied
      (turned-asks served i os answer written) (asked ∙ sym (append-nil a.allowed))
      (item-notes halted seen a.stand b.stand served i os answer written next met declined dry meeting) noted)

  -- nothing was taken, put, said, replied or asked
  pub ran-still : (k : Bool) (a b : LoopState S W H) → b.stand ≡ a.stand → b.last ≡ a.last → b.taken ≡ a.taken
      → b.put ≡ a.put → b.said ≡ a.said → b.replied ≡ a.replied → b.allowed ≡ a.allowed → b.noted ≡ a.noted
      → Ran acts halted pending owes seen contents own_init peer empty k a b
  ran-still k a b stand last taken put said replied allowed noted = record {
    turns = [];
    words = [];
    news = [];
    leads = (stand, refl, refl);
    took = taken ∙ sym (append-nil a.taken);
    put = put ∙ sym (append-nil a.put);
    last = last;
    spoke = said ∙ sym (append-nil a.said);
    noted = noted ∙ sym (append-nil a.noted);
    replied = replied ∙ sym (append-nil a.replied);
    allowed = allowed ∙ sym (append-nil a.allowed);
    idle = tt;
  }

  -- it asked whether it is to sign by itself, and didn't sign
  pub ran-rested : (a b : LoopState S W H) (told due : Bool) → due ≡ (told && owes a.stand.end) → due ≡ false
      → b.stand ≡ a.stand → b.last ≡ a.last → b.taken ≡ a.taken → b.put ≡ a.put → b.said ≡ a.said
      → b.replied ≡ a.replied → b.allowed ≡ a.allowed ++ told ∷ [] → b.noted ≡ a.noted → empty a.taken
      → Ran acts halted pending owes seen contents own_init peer empty false a b
  ran-rested a b told due is not-due stand last taken put said replied allowed noted none =
      ran-one false a b (Rests told) refl (λ _. none) (record {
        step = (sym is ∙ not-due, stand);
        took = taken ∙ sym (append-nil a.taken);
        put = put ∙ sym (append-nil a.put);
        last = last;
        spoke = said ∙ sym (append-nil a.said);
        noted = noted ∙ sym (append-nil a.noted);
        replied = replied ∙ sym (append-nil a.replied);
        allowed = allowed;
      })

  -- a signature that no book gave
  pub ran-signed : (a b : LoopState S W H) (told due : Bool) (os : List Output)
      (answer written : Result (Unit {0}) Refusal) (last : Option ℕ)
      → due ≡ (told && owes a.stand.end) → due ≡ true
      → (owes a.stand.end ≡ true
      → Step acts halted pending owes contents own_init peer a.stand (Obeys OfWorker command.Sign os answer written)
      b.stand)
      → b.taken ≡ a.taken → last ≡ a.last
      → b.put ≡ a.put ++ tasks (channel_of (seen b.stand.end)) (fresh last (events os))
      → b.last ≡ last_of last (events os) → b.said ≡ a.said ++ owed (seen b.stand.end) false (events os)
      → b.replied ≡ a.replied → b.allowed ≡ a.allowed ++ told ∷ []
      → b.noted ≡ a.noted ++ became false (halted a.stand.end) answer b.stand.phase (halted b.stand.end)
      → empty a.taken
      → Ran acts halted pending owes seen contents own_init peer empty false a b
  ran-signed a b told due os answer written last is is-due step took at put end spoke still allowed noted none =
      let both = both-true told (owes a.stand.end) (sym is ∙ is-due) in
      ran-one false a b (Obeys OfWorker command.Sign os answer written) refl (λ _. none)
      (turned acts halted pending owes seen contents own_init peer a b
      (Obeys OfWorker command.Sign os answer written) last (events os) _ [] (told ∷ []) _ (step both.1)
      (took ∙ sym (append-nil a.taken)) at refl put end refl spoke refl (still ∙ sym (append-nil a.replied))
      (ap (λ b. b ∷ []) both.0) allowed refl noted)

  -- a command of the book
  pub ran-asked : (a b : LoopState S W H) (channel : List ℕ) (next : ℕ) (c : Command) (os : List Output)
      (answer written : Result (Unit {0}) Refusal) (last : Option ℕ) (one two : List Saying)
      → Step acts halted pending owes contents own_init peer a.stand (Obeys OfBook c os answer written) b.stand
      → b.taken ≡ a.taken → last ≡ a.last
      → b.put ≡ a.put ++ tasks (channel_of (seen b.stand.end)) (fresh last (events os))
      → b.last ≡ last_of last (events os) → Some channel ≡ channel_of (seen a.stand.end)
      → next ≡ next_htlc (seen a.stand.end)
      → one ≡ a.said ++ took_one channel c ∷ []
      → two ≡ one ++ answered channel (answer_to (command_subject next c) answer) ∷ []
      → b.said ≡ two ++ owed (seen b.stand.end) false (events os) → b.replied ≡ a.replied → b.allowed ≡ a.allowed
      → b.noted ≡ a.noted ++ became_unless (waits (answer_to (command_subject next c) answer)) (halted a.stand.end)
      answer b.stand.phase (halted b.stand.end)
      → Ran acts halted pending owes seen contents own_init peer empty false a b
  ran-asked a b channel next c os answer written last one two step took at put end is at-next first second third still
      asked noted =
      ran-one false a b (Obeys OfBook c os answer written) refl (λ e. absurd cc)
      (turned acts halted pending owes seen contents own_init peer a b (Obeys OfBook c os answer written) last
      (events os)
      ((took_one channel c ∷ answered channel (answer_to (command_subject next c) answer) ∷ [])
      ++ owed (seen b.stand.end) false (events os)) [] [] _ step (took ∙ sym (append-nil a.taken)) at refl put end
      (ap (λ l. l ++ owed (seen b.stand.end) false (events os))
      (asked-at (seen a.stand.end) channel next c answer is at-next))
      (third ∙ ap (λ l. l ++ owed (seen b.stand.end) false (events os))
      (second ∙ ap (λ l. l ++ answered channel (answer_to (command_subject next c) answer) ∷ []) first
      ∙ append_assoc a.said (took_one channel c ∷ []) (answered channel (answer_to
      (command_subject next c) answer) ∷ []))
      ∙ append_assoc a.said (took_one channel c ∷ answered channel (answer_to (command_subject next c) answer) ∷ [])
      (owed (seen b.stand.end) false (events os))) refl (still ∙ sym (append-nil a.replied)) refl
      (asked ∙ sym (append-nil a.allowed))
      (ap (λ n. became_unless (waits (answer_to (command_subject n c) answer)) (halted a.stand.end) answer b.stand.phase
      (halted b.stand.end)) at-next) noted)

-- the same of another that is the same place
pub ran-there : {S W H P : Type 0} (acts : S → Act → Result (List Output) Refusal → S → Type 0) (halted : S → Bool)
    (pending : S → List (ℕ × ChannelEvent)) (owes : S → Bool) (seen : S → Option Seen) (contents : W → Option (List ℕ))
    (own_init : Message) (peer : PeerFeatures) (empty : P → List (Item W) → Type 0) (p q : P) (k : Bool)
    (a b : LoopState S W H) → p ≡ q → Ran acts halted pending owes seen contents own_init peer (empty p) k a b
    → Ran acts halted pending owes seen contents own_init peer (empty q) k a b
ran-there acts halted pending owes seen contents own_init peer empty p q k a b is ran =
    subst (λ x. Ran acts halted pending owes seen contents own_init peer (empty x) k a b) is ran
