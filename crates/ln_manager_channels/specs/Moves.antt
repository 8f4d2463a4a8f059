-- What one call makes of the link of a channel, and of the records that its store has.
use Rattle.std.specs.Prelude.{◌≡◌, ◌⊎◌, ℕ, List, Bool, not, ◌&&◌, ◌==◌, Option, Some, None, Result, Err}
use Rattle.std.specs.Prelude.{slice_get, slice_set, [], ◌∷◌, ◌++◌, length, nat_le, true, false, if◌then◌else◌}
use Rattle.std.specs.FinMap as map
use Rattle.std.specs.Global.{Vec}
use Rattle.ln_msgs.specs.declared.messages.message.Message.{Message}
use Rattle.ln_refusals.specs.declared.refusal.Refusal.{Refusal}
use Rattle.ln_refusals.specs.declared.refusal.Refusal.TheVariants as refusal
use Rattle.ln_keys.specs.Signer.{Signer}
use Rattle.ln_channel.specs.declared.command.Command.{Command}
use Rattle.ln_channel.specs.declared.output.Output.{Output}
use Rattle.ln_channel.specs.Asking.{with_named, naming_answer}
use Rattle.ln_channel.specs.State.{State, KeepsChannel, halts}
use Rattle.ln_channel.specs.Step.{Answered, connected, commanded, opened}
use Rattle.ln_store.specs.Store.{StoreView}
use Rattle.ln_link.specs.Saving.{AnswersOver, AnswersCommand}
use Rattle.ln_manager_channels.specs.declared.newest.Newest.{Newest}
use Rattle.ln_manager_channels.specs.Places.{changed_at, AnswersBeside}
use Rattle.ln_manager_channels.specs.Numbers.{NumbersById, numbered}
use Rattle.ln_manager_channels.specs.Links.{number_in}

-- what a link hands out, or by what it refuses
abbrev pub Answer : Type 0
Answer = Result (Vec Output) Refusal

-- ---- its funding is named

abbrev pub naming_in : {K : Type 0} → Option (State K) → Result (Unit {0}) Refusal
naming_in None = Err refusal.NotReady
naming_in (Some l) = naming_answer l.stage

abbrev pub with_funding : {K : Type 0} → List ℕ → ℕ → State K → State K
with_funding txid output l = record l { stage = with_named txid output l.stage }

-- ---- it is connected; a link keeps the channel of its end, also where it halts for want of memory

unfoldable pub Connects : {K : Type 0} → (K → Signer) → State K → State K → Answer → Type 0
Connects signer l new answer =
    Answered (λ v. v.items) (connected (signer l.keys) l) l answer new × KeepsChannel l.stage new.stage

-- ---- over its store

-- the store of a channel: its newest record, and the ids of others that it knows; a batch that takes it tells it
abbrev pub store_of : Newest → StoreView
store_of n = record { records = n.kept; failed = 0; is_fresh = n.is_fresh }

-- with no record
abbrev pub no_record : Newest
no_record = record { kept = map.empty; is_fresh = false }

-- there is a place for the record of the channel of this number
abbrev pub with_place : ℕ → List Newest → List Newest
with_place c ns = if nat_le (length ns) c then ns ++ no_record ∷ [] else ns

-- it belongs to a batch
abbrev pub batched : Newest → Newest
batched n = record n { is_fresh = false }

-- it has changed, and belongs to none
abbrev pub is_fresh_in : Option Newest → Bool
is_fresh_in None = false
is_fresh_in (Some n) = n.is_fresh

abbrev pub is_fresh_at : ℕ → List Newest → Bool
is_fresh_at c ns = is_fresh_in (slice_get ns c)

-- each that has changed belongs to a batch
abbrev pub none_fresh : List Newest → Bool
none_fresh [] = true
none_fresh (n ∷ ns) = not n.is_fresh && none_fresh ns

-- it knows this id
abbrev pub knowing : List ℕ → Newest → Newest
knowing id n = record n { kept = map.insert n.kept id [] }

-- ---- it takes a message with these keys

unfoldable pub Takes : {K : Type 0} → (K → Signer) → K → Message → State K → State K → Newest → Newest → Answer → Type 0
Takes signer keys m l new n n' answer =
    AnswersOver (λ v. v.items) (signer keys) (record l { keys = keys }) m answer new (store_of n) (store_of n')
    × KeepsChannel l.stage new.stage

abbrev pub TakesAt : {K : Type 0} → (K → Signer) → ℕ → K → Message → Answer → List (State K) → List (State K) → Newest
    → Newest → Type 0
TakesAt signer c keys m answer ls ls' n n' = AnswersBeside c (Takes signer keys m) answer ls ls' n n'

-- over the record at its place
unfoldable pub TakesOver : {K : Type 0} → (K → Signer) → ℕ → K → Message → Answer → List (State K) → List (State K)
    → List Newest → List Newest → Type 0
TakesOver signer c keys m answer ls ls' ns ns' =
    AnswersBeside c (λ n n' l l' a. TakesAt signer c keys m a l l' n n') answer ns ns' ls ls'

-- the id that a message opens there
abbrev pub opened_in : {K : Type 0} → Option (State K) → Message → Option (List ℕ)
opened_in None m = None
opened_in (Some l) m = opened l m

-- another channel has this number
abbrev pub is_others : ℕ → Option ℕ → Bool
is_others c None = false
is_others c (Some n) = not (n == c)

-- an id that another channel has, or awaits, is known to the store before it is opened
abbrev pub known_before : ℕ → (List ℕ → Option ℕ) → Option (List ℕ) → List Newest → List Newest
known_before c number None ns = ns
known_before c number (Some id) ns = if is_others c (number id) then changed_at c (knowing id) ns else ns

-- else it has this channel's number
abbrev pub numbered_before : ℕ → (List ℕ → Option ℕ) → Option (List ℕ) → NumbersById → NumbersById
numbered_before c number None by_id = by_id
numbered_before c number (Some id) by_id = if is_others c (number id) then by_id else numbered id c by_id

-- what a message changes
pub record Known (K : Type 0) : Type 0 where
  pub links : List (State K)
  pub records : List Newest
  pub numbers : NumbersById

-- by the numbers of ids, and the one that the message opens
abbrev pub TakesNamed : {K : Type 0} → (K → Signer) → ℕ → K → Message → Answer → (List ℕ → Option ℕ)
    → Option (List ℕ) → Known K → Known K → Type 0
TakesNamed signer c keys m answer number id p q =
    (q.numbers ≡ numbered_before c number id p.numbers)
    × TakesOver signer c keys m answer p.links q.links (known_before c number id p.records) q.records

-- 60 where it isn't known for want of memory, and nothing changes
abbrev pub TakesMessage : {K : Type 0} → (K → Signer) → ℕ → K → Message → Answer → Known K → Known K → Type 0
TakesMessage signer c keys m answer p q =
    ((answer ≡ Err refusal.Memory) × (q ≡ p))
    ⊎ TakesNamed signer c keys m answer (number_in p.numbers p.links) (opened_in (slice_get p.links c) m) p q

-- ---- it is given a command

unfoldable pub Obeys : {K : Type 0} → (K → Signer) → Command → State K → State K → Newest → Newest → Answer → Type 0
Obeys signer x l new n n' answer =
    AnswersCommand (λ v. v.items) (commanded (signer l.keys) l x) l x answer new (store_of n) (store_of n')
    × KeepsChannel l.stage new.stage

abbrev pub ObeysAt : {K : Type 0} → (K → Signer) → ℕ → Command → Answer → List (State K) → List (State K) → Newest
    → Newest → Type 0
ObeysAt signer c x answer ls ls' n n' = AnswersBeside c (Obeys signer x) answer ls ls' n n'

-- one that has no place for its record halts
abbrev pub ObeysBy : {K : Type 0} → (K → Signer) → ℕ → Command → Option Newest → Answer → List (State K)
    → List (State K) → List Newest → List Newest → Type 0
ObeysBy signer c x None answer ls ls' ns ns' =
    (answer ≡ Err refusal.NotReady) × (ls' ≡ changed_at c halts ls) × (ns' ≡ ns)
ObeysBy signer c x (Some n) answer ls ls' ns ns' =
    (n' : Newest) × (ns' ≡ slice_set ns c n') × ObeysAt signer c x answer ls ls' n n'

unfoldable pub ObeysOver : {K : Type 0} → (K → Signer) → ℕ → Command → Answer → List (State K) → List (State K)
    → List Newest → List Newest → Type 0
ObeysOver signer c x answer ls ls' ns ns' = ObeysBy signer c x (slice_get ns c) answer ls ls' ns ns'

-- a user's command: 40 where the book alone commands it, and nothing changes
abbrev pub ObeysUser : {K : Type 0} → (K → Signer) → Bool → ℕ → Command → Answer → List (State K) → List (State K)
    → List Newest → List Newest → Type 0
ObeysUser signer true c x answer ls ls' ns ns' = ObeysOver signer c x answer ls ls' ns ns'
ObeysUser signer false c x answer ls ls' ns ns' =
    (answer ≡ Err refusal.NotReady) × (ls' ≡ ls) × (ns' ≡ ns)
