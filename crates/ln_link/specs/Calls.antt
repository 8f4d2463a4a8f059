-- The calls of one link over one store, one after the other, and what the store has of it.
use Rattle.std.specs.Prelude.{◌≡◌, ◌⊎◌, ◌++◌, ℕ, List, [], ◌∷◌, true, false, Option, Some, None, Result, Ok, Err}
use Rattle.std.specs.FinMap as map
use Rattle.ln_msgs.specs.declared.messages.message.Message.{Message}
use Rattle.ln_refusals.specs.declared.refusal.Refusal.{Refusal}
use Rattle.ln_keys.specs.Signer.{Signer}
use Rattle.ln_channel.specs.declared.command.Command as command
use Rattle.ln_channel.specs.declared.output.Output.{Output}
use Rattle.ln_channel.specs.End.{End}
use Rattle.ln_channel.specs.Record.{saved_end}
use Rattle.ln_channel.specs.State.{State, KeepsChannel, refused, drops, halts}
use Rattle.ln_channel.specs.Step.{Done, commanded, connected, Answered}
use Rattle.ln_store.specs.Store.{Records, StoreView}
use Rattle.ln_store.specs.Record.{record_bytes}
use Rattle.ln_link.specs.Record.{items_of}
use Rattle.ln_link.specs.Loading.{HasRecord}
use Rattle.ln_link.specs.Saving.{AnswersOver, AnswersCommand, handled_beside, settled}

pub data Call : Type 0 where
  Handle : (m : Message) → Call
  Command : (c : command.Command) → Call
  Connect : Call
  DropConnection : Call
  Halt : Call

-- whatever a call answers, it leaves the link and its store so
abbrev pub Leads : {K : Type 0} → Signer → Call → State K → StoreView → State K → StoreView → Type 0
Leads keys (Handle m) l s l' s' = (answer : Result (List Output) Refusal)
    × AnswersOver (λ os. os) keys l m answer l' s s'
Leads keys (Command c) l s l' s' = (answer : Result (List Output) Refusal)
    × AnswersCommand (λ os. os) (commanded keys l c) l c answer l' s s'
Leads keys Connect l s l' s' = (answer : Result (List Output) Refusal)
    × Answered (λ os. os) (connected keys l) l answer l' × (s' ≡ s)
Leads keys DropConnection l s l' s' = (l' ≡ drops l) × (s' ≡ s)
Leads keys Halt l s l' s' = (l' ≡ halts l) × (s' ≡ s)

abbrev pub Lead : {K : Type 0} → Signer → List Call → State K → StoreView → State K → StoreView → Type 0
Lead keys [] l s l' s' = (l' ≡ l) × (s' ≡ s)
Lead keys (c ∷ cs) l s l' s' =
    (k : State _) × (t : StoreView) × Leads keys c l s k t × KeepsChannel l.stage k.stage × Lead keys cs k t l' s'

-- these records have that of this end, and it can be loaded
abbrev pub Has : Option Refusal → Option End → Records → Type 0
Has failure (Some e) rs =
    (map.get rs e.dance.channel ≡ Some (record_bytes (items_of failure e))) × HasRecord failure e
Has failure None rs = Unit {0}

-- the store has the record of a link
abbrev pub HasLink : {K : Type 0} → State K → StoreView → Type 0
HasLink l s = Has l.failure (saved_end l.stage) s.records

-- and one of its channel, whatever it tells
abbrev pub HasChannel : List ℕ → StoreView → Type 0
HasChannel channel s =
    (failure : Option Refusal) × (e : End) × (e.dance.channel ≡ channel) × Has failure (Some e) s.records

-- ---- a link that halts

abbrev pub left_by : {K : Type 0} → Result Done Refusal → (Refusal → State K) → State K → State K
left_by (Ok d) refusing l = settled d l
left_by (Err r) refusing l = refusing r

-- what a call makes of a link over a store, whether it can be saved or not
abbrev pub made_by : {K : Type 0} → Signer → Call → State K → StoreView → State K
made_by keys (Handle m) l s = left_by (handled_beside s.records keys l m) (λ r. refused r l) l
made_by keys (Command c) l s = left_by (commanded keys l c) (λ r. l) l
made_by keys c l s = l

-- A link works up to the call by which it halts. Whatever it is called for then, the store has the record of the link
-- as it was before that call, or of what the call made of it.
pub record HaltsWithRecord {K : Type 0} (keys : Signer) (calls : List Call) (l : State K)
    (s s' : StoreView) : Type 0 where
  pub before : List Call
  pub call : Call
  pub rest : List Call
  pub are_all : calls ≡ before ++ call ∷ rest
  pub old : State K
  pub found : StoreView
  pub leads : Lead keys before l s old found
  pub works : old.halted ≡ false
  pub new : State K
  pub left : StoreView
  pub makes : Leads keys call old found new left
  pub halts : new.halted ≡ true
  pub has_one : HasLink old s' ⊎ HasLink (made_by keys call old found) s'
