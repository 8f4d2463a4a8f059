-- What may happen to a node between one moment and the next: to one of its channels, to its book, or to all of it.
use Rattle.std.specs.Prelude.{◌≡◌, ℕ, List, [], ◌∷◌, take, map, Bool, true, false, not, ◌==◌, ◌&&◌, ◌||◌, Option, Some}
use Rattle.std.specs.Prelude.{None, option_map, Result, Ok, if◌then◌else◌}
use Rattle.ln_refusals.specs.declared.refusal.Refusal.{Refusal}
use Rattle.std.specs.List.{find}
use Rattle.ln_keys.specs.Signer.{Signer}
use Rattle.ln_log.specs.declared.mark.Mark.{Mark}
use Rattle.ln_log.specs.declared.mark.Mark.TheVariants as mark
use Rattle.ln_log.specs.declared.outcome.Outcome.{Outcome}
use Rattle.ln_log.specs.declared.outcome.Outcome.TheVariants.{Live, Fulfilled, Failed}
use Rattle.ln_log.specs.Updates.{outcome, next_id}
use Rattle.ln_hooks.specs.declared.event.How.{How}
use Rattle.ln_hooks.specs.declared.event.How.TheVariants as how
use Rattle.ln_channel.specs.declared.command.Command.{Command}
use Rattle.ln_channel.specs.declared.command.Command.TheVariants as command
use Rattle.ln_channel.specs.Ledger.{no_events, first_htlc}
use Rattle.ln_channel.specs.End.{End, Turn, end_dropped}
use Rattle.ln_channel.specs.Base.{based}
use Rattle.ln_channel.specs.Commands.{command_row, note_row}
use Rattle.ln_channel.specs.Step.{is_of_records}
use Rattle.ln_book_tables.specs.declared.htlc.Htlc.{Htlc}
use Rattle.ln_book_tables.specs.declared.htlc.Offer.{Offer}
use Rattle.ln_book_tables.specs.declared.entry.Decided.{Decided}
use Rattle.ln_book_tables.specs.declared.entry.Out.{Out}
use Rattle.ln_book_tables.specs.declared.entry.Out.TheVariants as out
use Rattle.ln_book_tables.specs.declared.entry.Queued.{Queued}
use Rattle.ln_book_tables.specs.declared.entry.KeptState.{KeptState}
use Rattle.ln_book_tables.specs.Replay.{Table, no_table, with_htlcs, is_htlc, is_told, htlc_of, joined, taken_by}
use Rattle.ln_book_tables.specs.Replay.{refused_by}
use Rattle.ln_book_tables.specs.Replay.{with_mark}
use Rattle.ln_book_tables.specs.Replay.{with_resolved, with_removed, htlc_kept}
use Rattle.ln_book.specs.Kept.{kept_ids, next_own_id, has_own_removal}
use Rattle.ln_book.specs.Rebuild.{rebuilt_htlcs}
use Rattle.ln_keys.specs.Services.{Services}
use Rattle.ln_book.specs.Commands.{due, command_of}
use Rattle.ln_payment.specs.Rebuild.{everywhere}
use Rattle.ln_payment.specs.Moves.{is_of}
use Rattle.ln_payment_circuits.specs.Snapshot.{Snapshot, Incoming, AreFit, key_at, key_of, snapshots, is_gone, IsIn}
use Rattle.ln_payment_circuits.specs.Snapshot.{NonePasses}
use Rattle.ln_payment_circuits.specs.Snapshot.{AreDistinct}
use Rattle.ln_payment_circuits.specs.Shift.{Shift, IsPlain}

-- ---- to its channels

-- the end of this channel, whose link works, has become this one, and no other one has changed
pub record Goes (c : ℕ) (was : Option End) (is : End) (s t : Snapshot) : Type 0 where
  pub awake : s.halted c ≡ false
  pub before : s.ends c ≡ was
  pub now : t.ends c ≡ Some is
  pub others : (d : ℕ) → (d == c) ≡ false → t.ends d ≡ s.ends d
  pub halted : (d : ℕ) → t.halted d ≡ s.halted d

pub record AreSame (s t : Snapshot) : Type 0 where
  pub ends : (d : ℕ) → t.ends d ≡ s.ends d
  pub halted : (d : ℕ) → t.halted d ≡ s.halted d

-- these channels have lost what no signature covers
pub record Loses (lost : ℕ → Bool) (s t : Snapshot) : Type 0 where
  pub theirs : (d : ℕ) → lost d ≡ true → t.ends d ≡ option_map end_dropped (s.ends d)
  pub others : (d : ℕ) → lost d ≡ false → t.ends d ≡ s.ends d

-- an end has no updates yet
pub record IsNew (e : End) : Type 0 where
  pub own : e.dance.log.own ≡ []
  pub received : e.dance.log.received ≡ []
  pub ledger : e.ledger ≡ no_events

-- ---- to its book

-- the book asks this of a channel about an HTLC that it has
pub record Asks (id_of : ℕ → List ℕ) (c : ℕ) (s : Services) (book : List Htlc) (x : Htlc) (o : Out)
    (y : Command) : Type 0
  where
    pub has : IsIn x book
    pub incoming : Incoming
    pub key : x.key ≡ key_of id_of incoming
    pub is_due : due (id_of c) x ≡ Some o
    pub command : command_of s x o ≡ Some y

abbrev pub obeyed : Signer → Command → End → Result Turn Refusal
obeyed keys y e = if is_of_records y then note_row y e else command_row keys y e

-- a decision on the HTLC of which the channel's first undecided event tells; the book has no other one of that event
pub record IsOnFirst (channel : List ℕ) (e : End) (book : List Htlc) (d : Decided) (o : Offer) : Type 0 where
  pub channel_is : d.channel ≡ channel
  pub first : first_htlc e.dance.log e.ledger.undecided ≡ Some o.id
  pub does_something : d.mark ≡ mark.None → ⊥
  pub no_other : NonePasses (λ x. is_told channel d.event x && not (is_htlc (htlc_of d o).key x)) book

-- an end has decided an HTLC so, of which the book hasn't heard yet, and hasn't removed it
pub record IsUnheard (channel : List ℕ) (e : End) (book : List Htlc) (d : Decided) (o : Offer) : Type 0 where
  pub channel_is : d.channel ≡ channel
  pub decided : find (λ z. z.id == o.id) e.ledger.decisions ≡ Some (record { id = o.id; mark = d.mark })
  pub does_something : d.mark ≡ mark.None → ⊥
  pub not_removed : outcome o.id e.dance.log.own ≡ Live
  pub waits : IsIn (htlc_of d o) book
  pub no_other : NonePasses (λ x. is_told channel d.event x && not (is_htlc (htlc_of d o).key x)) book

-- the book is told what an end has kept
pub record Tells (channel : List ℕ) (e : End) (book : List Htlc) (told : KeptState) : Type 0 where
  pub next : told.next ≡ next_own_id e
  pub removes : told.removes ≡ kept_ids (λ i. has_own_removal i e.dance.log) channel book

-- what an entry makes of the HTLCs
abbrev pub entered : (Table → Table) → List Htlc → List Htlc
entered f hs = (f (with_htlcs hs no_table)).htlcs

abbrev pub outcome_of : How → Outcome
outcome_of (how.Fulfilled preimage) = Fulfilled
outcome_of (how.Failed reason) = Failed
outcome_of (how.Malformed sha code) = Failed

-- the ends of a node, each once
pub record AreEnds (s : Snapshot) (es : List (ℕ × End)) : Type 0 where
  pub once : AreDistinct es
  pub there : (x : ℕ × End) → IsIn x es → s.ends x.0 ≡ Some x.1
  pub all : (c : ℕ) (e : End) → s.ends c ≡ Some e → IsIn (c, e) es

-- ---- each kind of it

pub data Happens (id_of : ℕ → List ℕ) (s t : Snapshot) : Type 0 where
  -- both nodes have signed the opening of a channel
  Opens : (c : ℕ) (e : End) → IsNew e → Goes c None e s t → t.book ≡ s.book → Happens id_of s t
  -- an end has taken a message or a command that is none of the book's, and is saved
  Turns : (c : ℕ) (e f : End) (x : Shift e f) → IsPlain x → Goes c (Some e) (based f) s t → t.book ≡ s.book
      → Happens id_of s t
  -- the book hears that a removal of an HTLC that came in is held as irrevocably committed
  HearsRemoved : (c i : ℕ) (e : End) → s.ends c ≡ Some e
      → is_gone i (take e.dance.log.current.own e.dance.log.own) ≡ true → AreSame s t
      → t.book ≡ entered (with_removed (key_at id_of c i)) s.book → Happens id_of s t
  -- and what became so of one that went out, of a link that works
  HearsOver : (c i : ℕ) (e : End) (h : How) → s.ends c ≡ Some e → s.halted c ≡ false
      → outcome i (take e.dance.log.acknowledged.peer e.dance.log.received) ≡ outcome_of h → AreSame s t
      → t.book ≡ entered (with_resolved (key_at id_of c i) h) s.book → Happens id_of s t
  -- a channel does what the book asks, or refuses it for good by some number
  Obeys : (v : Services) (keys : Signer) (c : ℕ) (e : End) (x : Htlc) (o : Out) (y : Command) (turn : Turn)
      (queue : List Queued) → Asks id_of c v s.book x o y → obeyed keys y e ≡ Ok turn
      → Goes c (Some e) (based turn.end) s t → t.book ≡ taken_by (id_of c) (next_id e.dance.log.own) o queue s.book
      → Happens id_of s t
  Refuses : (v : Services) (c : ℕ) (x : Htlc) (o : Out) (y : Command) (number : ℕ) → Asks id_of c v s.book x o y
      → AreSame s t → t.book ≡ refused_by (id_of c) number o s.book → Happens id_of s t
  -- it takes a decision, or refuses it, or halts before it has
  Decides : (c : ℕ) (e : End) (d : Decided) (o : Offer) (turn : Turn) (queue : List Queued)
      → IsOnFirst (id_of c) e s.book d o → note_row (command.Decide d.event d.mark) e ≡ Ok turn
      → Goes c (Some e) (based turn.end) s t
      → t.book ≡ taken_by (id_of c) 0 (out.Deciding d.event) queue (joined (htlc_of d o) s.book) → Happens id_of s t
  RefusesDecision : (c : ℕ) (e : End) (d : Decided) (o : Offer) (number : ℕ) → s.ends c ≡ Some e
      → IsOnFirst (id_of c) e s.book d o → AreSame s t
      → t.book ≡ refused_by (id_of c) number (out.Deciding d.event) (joined (htlc_of d o) s.book) → Happens id_of s t
  HaltsDeciding : (c : ℕ) (e : End) (d : Decided) (o : Offer) → s.ends c ≡ Some e → IsOnFirst (id_of c) e s.book d o
      → Loses (is_of c) s t → ((b : ℕ) → t.halted b ≡ ((b == c) || s.halted b)) → t.book ≡ joined (htlc_of d o) s.book
      → Happens id_of s t
  -- or the book decides by itself, and the channel takes that later, as a link does that halted before it had
  EntersDecision : (c : ℕ) (e : End) (d : Decided) (o : Offer) → s.ends c ≡ Some e → IsOnFirst (id_of c) e s.book d o
      → AreSame s t → t.book ≡ joined (htlc_of d o) s.book → Happens id_of s t
  TakesDecision : (c : ℕ) (e : End) (d : Decided) (o : Offer) (turn : Turn) (queue : List Queued)
      → IsOnFirst (id_of c) e s.book d o → IsIn (htlc_of d o) s.book
      → note_row (command.Decide d.event d.mark) e ≡ Ok turn → Goes c (Some e) (based turn.end) s t
      → t.book ≡ taken_by (id_of c) 0 (out.Deciding d.event) queue s.book → Happens id_of s t
  -- it takes that decision, and the book hears of it later, as of a save that failed and left the new record
  TakesUnheard : (c : ℕ) (e : End) (d : Decided) (o : Offer) (turn : Turn) → IsOnFirst (id_of c) e s.book d o
      → IsIn (htlc_of d o) s.book → note_row (command.Decide d.event d.mark) e ≡ Ok turn
      → Goes c (Some e) (based turn.end) s t → t.book ≡ s.book → Happens id_of s t
  HearsDecision : (c : ℕ) (e : End) (d : Decided) (o : Offer) (queue : List Queued) → s.ends c ≡ Some e
      → IsUnheard (id_of c) e s.book d o → AreSame s t
      → t.book ≡ taken_by (id_of c) 0 (out.Deciding d.event) queue s.book → Happens id_of s t
  -- an event is decided about which nothing is to be done, as that of an own add, of what became of one, or of a close
  DecidesNothing : (c : ℕ) (e : End) (event : ℕ) (turn : Turn)
      → note_row (command.Decide event mark.None) e ≡ Ok turn → Goes c (Some e) (based turn.end) s t → t.book ≡ s.book
      → Happens id_of s t
  -- what is held is decided
  Resumes : (c : ℕ) (e : End) (event : ℕ) (m : Mark) (turn : Turn) → note_row (command.Resume event m) e ≡ Ok turn
      → Goes c (Some e) (based turn.end) s t → t.book ≡ with_mark (id_of c) event m s.book → Happens id_of s t
  -- a link halts for want of memory
  Halts : (c : ℕ) → Loses (is_of c) s t → ((d : ℕ) → t.halted d ≡ ((d == c) || s.halted d)) → t.book ≡ s.book
      → Happens id_of s t
  -- a link that works loses its connection, and the book is told what it has kept
  Disconnects : (c : ℕ) (e : End) (told : KeptState) → s.ends c ≡ Some e → s.halted c ≡ false
      → Tells (id_of c) (end_dropped e) s.book told → Loses (is_of c) s t → ((d : ℕ) → t.halted d ≡ s.halted d)
      → t.book ≡ map (htlc_kept (id_of c) told) s.book → Happens id_of s t
  -- a link that has halted comes back from its record, without its connection, and the book is told what it has kept
  Reloads : (c : ℕ) (e : End) (told : KeptState) → s.ends c ≡ Some e → s.halted c ≡ true
      → Tells (id_of c) (end_dropped e) s.book told → Loses (is_of c) s t
      → ((d : ℕ) → t.halted d ≡ (not (d == c) && s.halted d)) → t.book ≡ map (htlc_kept (id_of c) told) s.book
      → Happens id_of s t
  -- the node stops and comes back: each link has lost its connection, and the book is read off the ends
  Restarts : (es : List (ℕ × End)) → Loses everywhere s t → ((d : ℕ) → t.halted d ≡ false) → AreEnds t es
      → t.book ≡ rebuilt_htlcs (snapshots es) → Happens id_of s t

-- ---- one after the other

-- from one moment on, each by what may happen, while ends are as they always are
abbrev pub AreMoments : (ℕ → List ℕ) → Snapshot → List Snapshot → Type 0
AreMoments id_of s [] = Unit {0}
AreMoments id_of s (t ∷ ts) = Happens id_of s t × (AreFit id_of t × AreMoments id_of t ts)

abbrev pub last_of : Snapshot → List Snapshot → Snapshot
last_of s [] = s
last_of s (t ∷ ts) = last_of t ts

-- each channel has an id of its own
abbrev pub HasOwnIds : (ℕ → List ℕ) → Type 0
HasOwnIds id_of = (c d : ℕ) → id_of c ≡ id_of d → c ≡ d
