-- The course of one link: how it is begun, what it is handed, and how it comes back from its record.
use Rattle.std.specs.Prelude.{◌≡◌, ◌⊎◌, List, [], ◌∷◌, false, Result, Ok}
use Rattle.ln_refusals.specs.declared.refusal.Refusal.{Refusal}
use Rattle.ln_keys.specs.Signer.{Signer}
use Rattle.ln_channel.specs.declared.output.Output.{Output}
use Rattle.ln_channel.specs.declared.output.Output.TheVariants as output
use Rattle.ln_channel.specs.declared.machine.Stage.{Stage}
use Rattle.ln_channel.specs.declared.machine.Stage.TheVariants as stage
use Rattle.ln_channel.specs.State.{State, begun, drops, halts}
use Rattle.ln_channel.specs.Step.{commanded, connected, Answered}
use Rattle.ln_channel_laws.specs.Widths.{IsCommand}
use Rattle.ln_link.specs.Loading.{ComesBackOf, IsCameBack}
use Rattle.ln_store.specs.Store.{StoreView}
use Rattle.ln_link.specs.Saving.{AnswersOver, AnswersCommand}
use Rattle.ln_link.specs.Calls.{Call, Handle, Command, Connect, DropConnection, Halt, Lead, made_by}
use Rattle.ln_link_laws.specs.Handed.{IsMessage, IsConfig, IsSpec}

-- ---- calls

-- a message that can be read, and a command as wide as in code
abbrev pub IsCall : Call → Type 0
IsCall (Handle m) = IsMessage m
IsCall (Command c) = IsCommand c
IsCall Connect = Unit {0}
IsCall DropConnection = Unit {0}
IsCall Halt = Unit {0}

abbrev pub AreCalls : List Call → Type 0
AreCalls [] = Unit {0}
AreCalls (c ∷ cs) = IsCall c × AreCalls cs

-- a call answers so, and leaves the link and its store so
abbrev pub Gives : {K : Type 0} → Signer → Call → Result (List Output) Refusal → State K → StoreView
    → State K → StoreView
    → Type 0
Gives keys (Handle m) answer l s l' s' = AnswersOver (λ os. os) keys l m answer l' s s'
Gives keys (Command c) answer l s l' s' = AnswersCommand (λ os. os) (commanded keys l c) l c answer l' s s'
Gives keys Connect answer l s l' s' = Answered (λ os. os) (connected keys l) l answer l' × (s' ≡ s)
Gives keys DropConnection answer l s l' s' = (answer ≡ Ok []) × (l' ≡ drops l) × (s' ≡ s)
Gives keys Halt answer l s l' s' = (answer ≡ Ok []) × (l' ≡ halts l) × (s' ≡ s)

-- ---- how it is begun

abbrev pub BeginsAt : Signer → Stage → Type 0
BeginsAt keys (stage.AwaitsAccept s) = IsSpec keys s
BeginsAt keys (stage.AwaitsOpen c) = IsConfig keys c
BeginsAt keys s = ⊥

-- as a funder or as a fundee, with what fits
abbrev pub Begins : {K : Type 0} → Signer → State K → Type 0
Begins keys l = (l ≡ begun l.keys l.stage) × BeginsAt keys l.stage

-- ---- how it comes back

-- what the store tells of a link: how it stands, or, where the save after one more call failed, what that made of it
abbrev pub IsTold : {K : Type 0} → Signer → State K → State K → Type 0
IsTold keys l told = (told ≡ l) ⊎ ((c : Call) × (s : StoreView) × IsCall c × (told ≡ made_by keys c l s))

-- it comes back as its record is loaded, or, where it takes over what the link before had, as a lost connection leaves
-- that
abbrev pub ComesBack : {K : Type 0} → State K → State K → Type 0
ComesBack told back = ComesBackOf back told ⊎ IsCameBack back.keys told back

-- a link that hasn't halted comes back from its record
pub record Returns {K : Type 0} (keys : Signer) (l back : State K) : Type 0 where
  pub stands : l.halted ≡ false
  pub told : State K
  pub is_told : IsTold keys l told
  pub returns : ComesBack told back

-- calls, and after them a restart, one after the other
abbrev pub Epochs : {K : Type 0} → Signer → List (List Call) → State K → State K → Type 0
Epochs keys [] l l' = l' ≡ l
Epochs keys (cs ∷ epochs) l l' =
    (k : State _) × (back : State _) × (s : StoreView) × (t : StoreView) × AreCalls cs × Lead keys cs l s k t
    × Returns keys k back × Epochs keys epochs back l'

-- a link as it stands after its beginning, any epochs, and further calls
pub record IsLink {K : Type 0} (keys : Signer) (l : State K) : Type 0 where
  pub first : State K
  pub begins : Begins keys first
  pub epochs : List (List Call)
  pub back : State K
  pub comes : Epochs keys epochs first back
  pub calls : List Call
  pub are_calls : AreCalls calls
  pub store : StoreView
  pub behind : StoreView
  pub leads : Lead keys calls back store l behind

-- ---- what is promised

abbrev pub IsSendable : Output → Type 0
IsSendable (output.Send m) = IsMessage m
IsSendable o = Unit {0}

abbrev pub AreSendable : List Output → Type 0
AreSendable [] = Unit {0}
AreSendable (o ∷ os) = IsSendable o × AreSendable os
