-- What a link does with its store, act by act.
use Rattle.std.specs.Prelude.{◌≡◌, ◌⊎◌, ℕ, List, [], Option, Some, None, Result, Ok, Err}
use Rattle.std.specs.FinMap as map
use Rattle.ln_refusals.specs.declared.refusal.Refusal.{Refusal}
use Rattle.ln_refusals.specs.declared.refusal.Refusal.TheVariants as refusal
use Rattle.ln_keys.specs.Signer.{Signer}
use Rattle.ln_channel.specs.declared.output.Output.{Output}
use Rattle.ln_channel.specs.State.{State, kept_channel, drops}
use Rattle.ln_channel.specs.Step.{commanded, connected, Answered}
use Rattle.ln_store.specs.Store.{Records, StoreView}
use Rattle.ln_store.specs.Record.{record_at}
use Rattle.ln_link.specs.Loading as loading
use Rattle.ln_link.specs.Saving.{AnswersOver, AnswersCommand, CannotTell}
use Rattle.ln_node_loops.specs.Act.{Act, Handles, Obeys, Connects, Drops, Loads}

-- a link with its store
pub record Saved (K : Type 0) : Type 0 where
  pub link : State K
  pub store_view : StoreView

-- the record of this channel
abbrev pub record_in : Records → Option (List ℕ) → Option (List ℕ)
record_in rs None = None
record_in rs (Some channel) = map.get rs channel

-- 40 where there is no record; else what is loaded of it, or why it can't be, and then the link is as it was
abbrev pub ComesBack : {K : Type 0} → Option (List ℕ) → Result (List Output) Refusal → State K → State K → Type 0
ComesBack None said l l' = (said ≡ Err refusal.NotReady) × (l' ≡ l)
ComesBack (Some bytes) (Ok os) l l' = (os ≡ []) × loading.Loads l.keys (record_at bytes) (Ok l')
ComesBack (Some bytes) (Err e) l l' = loading.Loads l.keys (record_at bytes) (Err e) × (l' ≡ l)

-- the store can't tell what record there is: the link is as it was, and no record has changed
pub record IsUntold {K : Type 0} (said : Result (List Output) Refusal) (s s' : Saved K) : Type 0 where
  pub why : Refusal
  pub answers : said ≡ Err why
  pub cause : CannotTell why (kept_channel s.link.stage) s.store_view.failed s'.store_view.failed
  pub link : s'.link ≡ s.link
  pub records : s'.store_view.records ≡ s.store_view.records

abbrev pub LoadsRecord : {K : Type 0} → Saved K → Result (List Output) Refusal → Saved K → Type 0
LoadsRecord s said s' =
    IsUntold said s s'
    ⊎ (ComesBack (record_in s.store_view.records (kept_channel s.link.stage)) said s.link s'.link
    × (s'.store_view ≡ s.store_view))

module _ {K : Type 0} (signer : K → Signer) where
  -- an act may be answered so, and leave the link and its store so
  unfoldable pub acts : Saved K → Act → Result (List Output) Refusal → Saved K → Type 0
  acts s (Handles m) said s' =
      AnswersOver (λ os. os) (signer s.link.keys) s.link m said s'.link s.store_view s'.store_view
  acts s (Obeys c) said s' =
      AnswersCommand (λ os. os) (commanded (signer s.link.keys) s.link c) s.link c said s'.link s.store_view
      s'.store_view
  acts s Connects said s' =
      Answered (λ os. os) (connected (signer s.link.keys) s.link) s.link said s'.link × (s'.store_view ≡ s.store_view)
  acts s Drops said s' = (s'.link ≡ drops s.link) × (s'.store_view ≡ s.store_view)
  acts s Loads said s' = LoadsRecord s said s'
