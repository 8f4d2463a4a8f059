-- The public calls of a node's channels, by what each of them leaves, and what has become of channels by them.
use Rattle.std.specs.Prelude.{◌≡◌, ◌⊎◌, ℕ, List, [], ◌∷◌, ◌++◌, length, slice_get, if◌then◌else◌}
use Rattle.ln_msgs.specs.declared.messages.message.Message as messages
use Rattle.ln_keys.specs.Services.{Services}
use Rattle.ln_keys.specs.Signer.{Signer}
use Rattle.ln_log.specs.declared.mark.Mark.{Mark}
use Rattle.ln_hooks.specs.declared.verdict.Verdict.{Verdict}
use Rattle.ln_channel.specs.declared.command.Command as commands
use Rattle.ln_channel.specs.declared.config.Config.{Config}
use Rattle.ln_channel.specs.declared.config.OpenSpec.{OpenSpec}
use Rattle.ln_channel.specs.declared.machine.Stage.TheVariants as stage
use Rattle.ln_channel.specs.State.{State, begun, drops, halts}
use Rattle.ln_forward.specs.declared.checks.Policy.{Policy}
use Rattle.ln_history.specs.History.{begun_with, with_entry}
use Rattle.ln_book_tables.specs.declared.entry.Entry.TheVariants as entry
use Rattle.ln_book_tables.specs.Replay.{no_table}
use Rattle.ln_book.specs.declared.switch.uses.Use.{Use}
use Rattle.ln_book.specs.Rebuild.{rebuilt}
use Rattle.ln_book.specs.Uses.{with_route, with_use}
use Rattle.ln_manager_channels.specs.declared.given.Given.{Given}
use Rattle.ln_manager_channels.specs.declared.newest.Newest.{Newest}
use Rattle.ln_manager_channels.specs.declared.saved.Saved.{Saved}
use Rattle.ln_manager_channels.specs.Books.{Book, snapshots_of, with_heard, with_height, with_kept}
use Rattle.ln_manager_channels.specs.Commands.{is_users}
use Rattle.ln_manager_channels.specs.Events.{next_event, told_in}
use Rattle.ln_manager_channels.specs.Links.{end_in, is_up, working_end, working_id}
use Rattle.ln_manager_channels.specs.Loading.{Seats, SeatsAll, no_seats}
use Rattle.ln_manager_channels.specs.Moves.{Answer, Connects, Known, ObeysUser, TakesMessage, batched, with_funding}
use Rattle.ln_manager_channels.specs.Moves.{with_place}
use Rattle.ln_manager_channels.specs.Numbers.{NumbersById}
use Rattle.ln_manager_channels.specs.Obeying.{Obeyed, ObeysBook}
use Rattle.ln_manager_channels.specs.Obeying as obeying
use Rattle.ln_manager_channels.specs.Places.{AnswersAt, changed_at}

-- what a node's channels have
pub record Parts (K : Type 0) : Type 0 where
  pub links : List (State K)
  pub records : List Newest
  pub numbers : NumbersById
  pub book : Book

-- as they begin
abbrev pub no_parts : {K : Type 0} → Parts K
no_parts = record { links = []; records = []; numbers = []; book = begun_with no_table }

-- what a load brings back, what a message changes, and what a command of the book does
abbrev pub seats : {K : Type 0} → Parts K → Seats K
seats p = record { links = p.links; records = p.records; numbers = p.numbers }

abbrev pub known : {K : Type 0} → Parts K → Known K
known p = record { links = p.links; records = p.records; numbers = p.numbers }

abbrev pub obeyed : {K : Type 0} → Parts K → Obeyed K
obeyed p = record { links = p.links; records = p.records; book = p.book }

-- ---- a call

pub data Call (K : Type 0) : Type 0 where
  AddFunder : (keys : K) (spec : OpenSpec) → Call K
  AddFundee : (keys : K) (config : Config) → Call K
  Batch : (channel : ℕ) → Call K
  NameFunding : (channel : ℕ) (txid : List ℕ) (output : ℕ) → Call K
  Connect : (channel : ℕ) → Call K
  Disconnect : (channel : ℕ) → Call K
  Halt : (channel : ℕ) → Call K
  Message : (channel : ℕ) (keys : K) (m : messages.Message) → Call K
  Command : (channel : ℕ) (x : commands.Command) → Call K
  ObeyBook : (services : Services) (channel : ℕ) → Call K
  Decide : (services : Services) (channel : ℕ) (verdict : Verdict) → Call K
  Resume : (services : Services) (channel event : ℕ) (verdict : Verdict) → Call K
  Hear : (channel number : ℕ) → Call K
  Follow : (policy : Policy) (used : Use) → Call K
  SetHeight : (height : ℕ) → Call K
  Expect : (preimage secret : List ℕ) (amount : ℕ) → Call K

-- ---- what stays

abbrev pub LinksAndRecords : {K : Type 0} → Parts K → Parts K → Type 0
LinksAndRecords p q = (q.numbers ≡ p.numbers) × (q.book ≡ p.book)

abbrev pub LinksAlone : {K : Type 0} → Parts K → Parts K → Type 0
LinksAlone p q = (q.numbers ≡ p.numbers) × (q.book ≡ p.book) × (q.records ≡ p.records)

abbrev pub BookAlone : {K : Type 0} → Parts K → Parts K → Type 0
BookAlone p q = (q.links ≡ p.links) × (q.numbers ≡ p.numbers) × (q.records ≡ p.records)

-- ---- what it leaves; of its answer what matters here

-- there is a place for the record of one more
abbrev pub HasPlace : {K : Type 0} → Parts K → Parts K → Type 0
HasPlace p q = q.records ≡ with_place (length p.links) p.records

-- a link more; none for want of memory
abbrev pub Adds : {K : Type 0} → State K → Parts K → Parts K → Type 0
Adds l p q =
    (((q.links ≡ p.links ++ l ∷ []) × HasPlace p q)
    ⊎ ((q.links ≡ p.links) × ((q.records ≡ p.records) ⊎ HasPlace p q))) × LinksAndRecords p q

-- a connection is lost, and the book hears what is kept; the link halts for want of memory
abbrev pub Loses : {K : Type 0} → ℕ → Parts K → Parts K → Type 0
Loses c p q =
    let up = is_up (slice_get p.links c) in
    ((q.links ≡ (if up then changed_at c drops p.links else p.links))
    × (q.book ≡ (if up then with_kept (end_in (slice_get q.links c)) p.book else p.book)))
    ⊎ ((q.links ≡ changed_at c halts (changed_at c drops p.links)) × (q.book ≡ p.book))

-- done, or nothing has changed
abbrev pub OrSame : {K : Type 0} → Type 0 → Parts K → Parts K → Type 0
OrSame Done p q =
    (Done ⊎ ((q.links ≡ p.links) × (q.book ≡ p.book) × (q.records ≡ p.records))) × (q.numbers ≡ p.numbers)

abbrev pub Hears : {K : Type 0} → Book → Parts K → Parts K → Type 0
Hears told p q = ((q.book ≡ told) ⊎ (q.book ≡ p.book)) × BookAlone p q

abbrev pub Makes : {K : Type 0} → (K → Signer) → Call K → Parts K → Parts K → Type 0
Makes signer (AddFunder keys spec) p q = Adds (begun keys (stage.AwaitsAccept spec)) p q
Makes signer (AddFundee keys config) p q = Adds (begun keys (stage.AwaitsOpen config)) p q
Makes signer (Batch c) p q =
    (q.links ≡ p.links) × (q.records ≡ changed_at c batched p.records) × LinksAndRecords p q
Makes signer (NameFunding c txid output) p q =
    (q.links ≡ changed_at c (with_funding txid output) p.links) × LinksAlone p q
Makes signer (Connect c) p q =
    ((answer : Answer) × AnswersAt c (Connects signer) answer p.links q.links) × LinksAlone p q
Makes signer (Disconnect c) p q = Loses c p q × (q.numbers ≡ p.numbers) × (q.records ≡ p.records)
Makes signer (Halt c) p q = (q.links ≡ changed_at c halts p.links) × LinksAlone p q
Makes signer (Message c keys m) p q =
    ((answer : Answer) × TakesMessage signer c keys m answer (known p) (known q)) × (q.book ≡ p.book)
Makes signer (Command c x) p q =
    ((answer : Answer) × ObeysUser signer (is_users x) c x answer p.links q.links p.records q.records)
    × LinksAndRecords p q
Makes signer (ObeyBook s c) p q = OrSame ((g : Given)
    × ObeysBook signer s c (working_id (slice_get p.links c)) g (obeyed p) (obeyed q)) p q
Makes signer (Decide s c verdict) p q = OrSame ((r : Mark × Given)
    × obeying.Decides signer s c (next_event (working_end (slice_get p.links c))) verdict r (obeyed p) (obeyed q)) p q
Makes signer (Resume s c event verdict) p q = OrSame ((r : Mark × Given)
    × obeying.Resumes signer s c (working_id (slice_get p.links c)) event verdict r (obeyed p) (obeyed q)) p q
Makes signer (Hear c number) p q =
    let l = slice_get p.links c in Hears (with_heard (working_id l) (told_in number (working_end l)) p.book) p q
Makes signer (Follow policy used) p q =
    Hears (with_use policy used p.book) p q ⊎ Hears (with_route policy used used.short_id p.book) p q
Makes signer (SetHeight height) p q = Hears (with_height height p.book) p q
Makes signer (Expect preimage secret amount) p q = Hears (with_entry (entry.Expect (record {
  preimage = preimage;
  expected = record { secret = secret; amount = amount };
})) p.book) p q

-- ---- one after the other

abbrev pub Make : {K : Type 0} → (K → Signer) → List (Call K) → Parts K → Parts K → Type 0
Make signer [] p q = q ≡ p
Make signer (c ∷ cs) p q = (r : Parts _) × Makes signer c p r × Make signer cs r q

-- ---- what they begin with

-- what comes back from these records, and a book that begins with what the ends have
abbrev pub AreLoaded : {K : Type 0} → List (Saved K) → Parts K → Type 0
AreLoaded saved p =
    SeatsAll saved no_seats (seats p) × (p.book ≡ begun_with (rebuilt no_table (snapshots_of p.links)))

-- none, or what comes back from records
abbrev pub Begins : {K : Type 0} → Parts K → Type 0
Begins p = (p ≡ no_parts) ⊎ ((saved : List (Saved _)) × AreLoaded saved p)

-- what they began with, and what they have
pub record Running (K : Type 0) : Type 0 where
  pub began : Parts K
  pub parts : Parts K

-- calls have led from the one to the other
pub record IsOutcome {K : Type 0} (signer : K → Signer) (r : Running K) : Type 0 where
  pub begins : Begins r.began
  pub calls : List (Call K)
  pub made : Make signer calls r.began r.parts
