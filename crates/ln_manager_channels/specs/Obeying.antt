-- What becomes of what the book commands, and of what a host decides.
use Rattle.std.specs.Prelude.{◌≡◌, ◌⊎◌, ℕ, List, Bool, true, false, Option, Some, None, Ok, Err, slice_get}
use Rattle.std.specs.Prelude.{⊤, option_map}
use Rattle.ln_keys.specs.Signer.{Signer}
use Rattle.ln_keys.specs.Services.{Services}
use Rattle.ln_log.specs.declared.mark.Mark.{Mark}
use Rattle.ln_hooks.specs.declared.event.ChannelEvent.{ChannelEvent}
use Rattle.ln_hooks.specs.declared.verdict.Verdict.{Verdict}
use Rattle.ln_channel.specs.declared.command.Command.{Command}
use Rattle.ln_channel.specs.declared.command.Command.TheVariants as command
use Rattle.ln_channel.specs.State.{State, halts}
use Rattle.ln_history.specs.History.{with_entry}
use Rattle.ln_book_tables.specs.declared.entry.Out.{Out}
use Rattle.ln_book_tables.specs.declared.entry.Entry.TheVariants as entry
use Rattle.ln_book_tables.specs.Replay.{table_of}
use Rattle.ln_book.specs.Answers.{answer_to, command_subject, next_id, replied, waits}
use Rattle.ln_book.specs.Commands.{first_command, with_taken}
use Rattle.ln_book.specs.Marks.{offer_of, mark_of, decision, resumption}
use Rattle.ln_manager_channels.specs.declared.commands.Due.{Due}
use Rattle.ln_manager_channels.specs.declared.commands.Due.TheVariants as due
use Rattle.ln_manager_channels.specs.declared.given.Given.{Given}
use Rattle.ln_manager_channels.specs.declared.given.Given.TheVariants as given
use Rattle.ln_manager_channels.specs.declared.newest.Newest.{Newest}
use Rattle.ln_manager_channels.specs.Books.{Book}
use Rattle.ln_manager_channels.specs.Commands.{is_decision, decides, resumes}
use Rattle.ln_manager_channels.specs.Links.{end_in, halted_in, done_in}
use Rattle.ln_manager_channels.specs.Moves.{Answer, ObeysOver}
use Rattle.ln_manager_channels.specs.Places.{changed_at}

-- what a command of the book changes
pub record Obeyed (K : Type 0) : Type 0 where
  pub links : List (State K)
  pub records : List Newest
  pub book : Book

-- ---- what became of a command

-- the channel whose HTLC a command forwards
abbrev pub channel_in : Option (List ℕ × ℕ) → Option (List ℕ)
channel_in None = None
channel_in (Some origin) = Some origin.0

abbrev pub origin_of : Command → Option (List ℕ)
origin_of (command.Confirm id) = None
origin_of (command.Add amount hash expiry onion origin) = channel_in origin
origin_of (command.Fulfil id preimage) = None
origin_of (command.Fail id reason) = None
origin_of (command.Malformed id sha code) = None
origin_of (command.Fee feerate) = None
origin_of command.Sign = None
origin_of (command.Shutdown script) = None
origin_of (command.Decide event mark) = None
origin_of (command.Forget id) = None
origin_of (command.Resume event mark) = None

-- one that was refused waits, or is over
abbrev pub refused_as : Bool → Option (List ℕ) → Given
refused_as true origin = given.Waits
refused_as false origin = given.Refused origin

abbrev pub given_of : Answer → Bool → Option (List ℕ) → Given
given_of (Ok outputs) later origin = given.Done outputs
given_of (Err r) later origin = refused_as later origin

-- what it was about: an HTLC that is offered gets the end's next id
abbrev pub subject_in : {K : Type 0} → Option (State K) → Command → ℕ
subject_in l x = command_subject (next_id (end_in l)) x

-- ---- a link is given a command

-- where it has halted, the book hears nothing, and asks again once what it has kept is read
abbrev pub given_by : Bool → ℕ → Command → Answer → Given
given_by true subject x answer = given.Halted
given_by false subject x answer = given_of answer (waits (answer_to subject (done_in answer))) (origin_of x)

abbrev pub heard_by : Bool → List ℕ → ℕ → Answer → Book → Book
heard_by true id subject answer b = b
heard_by false id subject answer b = replied id (answer_to subject (done_in answer)) b

abbrev pub GivesBy : {K : Type 0} → ℕ → List ℕ → Command → Answer → Bool → Given → Obeyed K → Obeyed K → Type 0
GivesBy c id x answer halted g p q =
    let subject = subject_in (slice_get p.links c) x in
    (g ≡ given_by halted subject x answer) × (q.book ≡ heard_by halted id subject answer p.book)

-- it obeys; else the book hears what it answers
unfoldable pub Gives : {K : Type 0} → (K → Signer) → ℕ → List ℕ → Command → Given → Obeyed K → Obeyed K → Type 0
Gives signer c id x g p q = (answer : Answer) × ObeysOver signer c x answer p.links q.links p.records q.records
    × GivesBy c id x answer (halted_in (slice_get q.links c)) g p q

-- ---- it halts, as a command isn't the one that was to come, or has to wait

abbrev pub stopped : {K : Type 0} → ℕ → Obeyed K → Obeyed K
stopped c p = record p { links = changed_at c halts p.links }

abbrev pub Stops : {K : Type 0} → ℕ → Given → Obeyed K → Obeyed K → Type 0
Stops c g p q = (g ≡ given.Halted) × (q ≡ stopped c p)

-- ---- the first command of the book

abbrev pub first_of : Services → List ℕ → Book → Option (Out × Command)
first_of s id b = first_command s id (table_of b)

abbrev pub taking : {K : Type 0} → List ℕ → Option (Out × Command) → Obeyed K → Obeyed K
taking id x p = record p { book = with_taken id x p.book }

-- a decision isn't to come so
abbrev pub ObeysCommand : {K : Type 0} → (K → Signer) → ℕ → List ℕ → Command → Bool → Given → Obeyed K → Obeyed K
    → Type 0
ObeysCommand signer c id x true g p q = Stops c g p q
ObeysCommand signer c id x false g p q = Gives signer c id x g p q

abbrev pub ObeysFirst : {K : Type 0} → (K → Signer) → ℕ → List ℕ → Option Command → Given → Obeyed K → Obeyed K
    → Type 0
ObeysFirst signer c id None g p q = (g ≡ given.Nothing) × (q ≡ p)
ObeysFirst signer c id (Some x) g p q = ObeysCommand signer c id x (is_decision x) g p q

-- a link that works is given the first command of the book
abbrev pub ObeysBook : {K : Type 0} → (K → Signer) → Services → ℕ → Option (List ℕ) → Given → Obeyed K → Obeyed K
    → Type 0
ObeysBook signer s c None g p q = (g ≡ given.Nothing) × (q ≡ p)
ObeysBook signer s c (Some id) g p q =
    let first = first_of s id p.book in
    ObeysFirst signer c id (option_map (λ x. x.1) first) g (taking id first p) q

-- ---- what a host decides

-- a decision that its link can't take now: it halts
abbrev pub Concludes : {K : Type 0} → (K → Signer) → ℕ → List ℕ → Command → Given → Obeyed K → Obeyed K → Type 0
Concludes signer c id x g p q = Gives signer c id x g p q
    ⊎ ((r : Obeyed _) × Gives signer c id x given.Waits p r × Stops c g r q)

abbrev pub ConcludesIf : {K : Type 0} → (K → Signer) → ℕ → List ℕ → Command → Bool → Given → Obeyed K → Obeyed K
    → Type 0
ConcludesIf signer c id x true g p q = Concludes signer c id x g p q
ConcludesIf signer c id x false g p q = Stops c g p q

abbrev pub ConcludesFirst : {K : Type 0} → (K → Signer) → ℕ → List ℕ → (Command → Bool) → Option Command → Given
    → Obeyed K → Obeyed K → Type 0
ConcludesFirst signer c id is_due None g p q = Stops c g p q
ConcludesFirst signer c id is_due (Some x) g p q = ConcludesIf signer c id x (is_due x) g p q

-- The book's first command is the one that is due; for want of memory the link halts, as where it is another one.
unfoldable pub ConcludesDue : {K : Type 0} → (K → Signer) → Services → ℕ → List ℕ → (Command → Bool) → Given
    → Obeyed K → Obeyed K → Type 0
ConcludesDue signer s c id is_due g p q =
    let first = first_of s id p.book in
    Stops c g p q
    ⊎ ConcludesFirst signer c id is_due (option_map (λ x. x.1) first) g (taking id first p) q

-- what is due
abbrev pub is_due : Due → Command → Bool
is_due (due.Decision n) = decides n
is_due (due.Resumption n) = resumes n

-- the first undecided event: the book decides it, and then its link
abbrev pub deciding : {K : Type 0} → Services → List ℕ → ℕ → ChannelEvent → Verdict → Obeyed K → Obeyed K
deciding s id n told v p = record p {
  book = with_entry (entry.Decided (decision s (table_of p.book) id n (offer_of told) v)) p.book;
}

abbrev pub Decides : {K : Type 0} → (K → Signer) → Services → ℕ → Option (List ℕ × ℕ × ChannelEvent) → Verdict
    → Mark × Given → Obeyed K → Obeyed K → Type 0
Decides signer s c None v r p q = ⊥
Decides signer s c (Some (id, n, told)) v r p q = (r.0 ≡ mark_of s (table_of p.book) n (offer_of told) v)
    × ConcludesDue signer s c id (decides n) r.1 (deciding s id n told v p) q

-- what is held by this number: the book resumes it, and then its link
abbrev pub resuming : {K : Type 0} → List ℕ → ℕ → Mark → Obeyed K → Obeyed K
resuming id n m p = record p {
  book = with_entry (entry.Resumed (record { channel = id; event = n; mark = m })) p.book;
}

abbrev pub Resumes : {K : Type 0} → (K → Signer) → Services → ℕ → Option (List ℕ) → ℕ → Verdict → Mark × Given
    → Obeyed K → Obeyed K → Type 0
Resumes signer s c None n v r p q = ⊥
Resumes signer s c (Some id) n v r p q = (resumption s (table_of p.book) id n v ≡ Some r.0)
    × ConcludesDue signer s c id (resumes n) r.1 (resuming id n r.0 p) q

-- nothing is held so, by a link that works
abbrev pub HoldsNone : Services → Option (List ℕ) → ℕ → Verdict → Book → Type 0
HoldsNone s None n v b = ⊤
HoldsNone s (Some id) n v b = resumption s (table_of b) id n v ≡ None
