-- A link saves before it hands out: what each call leaves in its store.
use Rattle.std.specs.Prelude.{◌≡◌, ◌⊎◌, ℕ, List, length, Bool, true, false, not, ◌&&◌, ◌||◌, ◌==◌, nat_lt, Option, Some}
use Rattle.std.specs.Prelude.{None, is_none, Result, Ok, Err, is_some, if◌then◌else◌}
use Rattle.std.specs.FinMap as map
use Rattle.ln_bytes.specs.Answers.{fault_of}
use Rattle.ln_msgs.specs.Pings.Counted.{HasRisen}
use Rattle.ln_msgs.specs.declared.messages.message.Message.{Message}
use Rattle.ln_msgs.specs.declared.messages.message.Message.TheVariants as message
use Rattle.ln_refusals.specs.declared.refusal.Refusal.{Refusal}
use Rattle.ln_refusals.specs.declared.refusal.Refusal.TheVariants as refusal
use Rattle.ln_keys.specs.Signer.{Signer}
use Rattle.ln_log.specs.declared.log.Side.{Side}
use Rattle.ln_log.specs.declared.log.Side.TheVariants as side
use Rattle.ln_log.specs.Log.{Log, Counts, none, same_counts}
use Rattle.ln_channel.specs.declared.command.Command.{Command}
use Rattle.ln_channel.specs.declared.command.Command.TheVariants as command
use Rattle.ln_channel.specs.declared.output.Output.{Output}
use Rattle.ln_channel.specs.declared.machine.Stage.{Stage}
use Rattle.ln_channel.specs.End.{End}
use Rattle.ln_channel.specs.Base.{based_stage, based_link}
use Rattle.ln_channel.specs.Record.{saved_end}
use Rattle.ln_channel.specs.Failing.{fails}
use Rattle.ln_channel.specs.Opening.{LacksBy}
use Rattle.ln_channel.specs.State.{State, StandsFor, refused, halts, IsHalted}
use Rattle.ln_channel.specs.Step.{Done, makes_view, handled, opened}
use Rattle.ln_store.specs.Store.{Records, StoreView, IsOneOf, FreshIfChanged}
use Rattle.ln_store.specs.Record.{record_bytes}
use Rattle.ln_link.specs.Record.{items_of, NoRecord}
use Rattle.ln_link.specs.Loading.{HasRecord}

-- the record of a channel stands for its end, once both have signed the opening
abbrev pub stored_end : Option Refusal → Option End → Records → Records
stored_end failure (Some e) rs = map.insert rs e.dance.channel (record_bytes (items_of failure e))
stored_end failure None rs = rs

-- a store that was saved to has it, and is fresh
abbrev pub with_end : Option Refusal → Option End → StoreView → StoreView
with_end failure o s =
    record s { records = stored_end failure o s.records; is_fresh = is_some o || s.is_fresh }

-- the end that is saved has a record
abbrev pub HasSaved : Option Refusal → Option End → Type 0
HasSaved failure (Some e) = HasRecord failure e
HasSaved failure None = Unit {0}

-- there is an end to be saved, and it has no record
abbrev pub CannotBeStored : Option Refusal → Option End → Type 0
CannotBeStored failure (Some e) = NoRecord failure e
CannotBeStored failure None = ⊥

-- no memory, no record that has these items, or the store failed to take the record, which it counts
abbrev pub FailsBy : Refusal → Option Refusal → Option End → ℕ → ℕ → Type 0
FailsBy r failure o before behind =
    ((r ≡ refusal.Memory) × (behind ≡ before))
    ⊎ (((r ≡ refusal.Damaged) × CannotBeStored failure o × (behind ≡ before))
    ⊎ ((r ≡ refusal.Store) × HasSaved failure o × HasRisen before behind))

-- the store has the record that it had, or, where it failed itself, perhaps the one that was to be saved
pub record IsUnsaved (e : Refusal) (failure : Option Refusal) (o : Option End)
    (before behind : StoreView) : Type 0 where
  pub cause : FailsBy e failure o before.failed behind.failed
  pub one_of_both : IsOneOf e before.records (stored_end failure o before.records) behind.records
  pub fresh : FreshIfChanged before behind

-- the end has a record, and the store has it
abbrev pub IsSaved : Option Refusal → Option End → StoreView → StoreView → Type 0
IsSaved failure o before behind =
    HasSaved failure o × (behind ≡ with_end failure o before)

-- saved where it has to be
abbrev pub SavesIf : Bool → Option Refusal → Option End → StoreView → StoreView → Type 0
SavesIf true failure o before behind = IsSaved failure o before behind
SavesIf false failure o before behind = behind ≡ before

abbrev pub Saves : Option Refusal → Option End → Result (Unit {0}) Refusal → StoreView → StoreView → Type 0
Saves failure o (Ok u) before behind = IsSaved failure o before behind
Saves failure o (Err e) before behind = IsUnsaved e failure o before behind

-- the link halts, as what was done, or the failure of its channel, couldn't be saved
abbrev pub HaltsUnsaved : {K : Type 0} → Refusal → State K → State K → StoreView → StoreView → Type 0
HaltsUnsaved e l new before behind = StandsFor new (halts l) × IsUnsaved e l.failure (saved_end l.stage) before behind

-- a link as it is, or else it halts
abbrev pub Keeps : {K : Type 0} → Result (Unit {0}) Refusal → State K → State K → StoreView → StoreView → Type 0
Keeps (Ok u) l new before behind = StandsFor new l × IsSaved l.failure (saved_end l.stage) before behind
Keeps (Err e) l new before behind = HaltsUnsaved e l new before behind

-- ---- an update that no signature covers is in no record

-- the messages with an update (BOLT 2, "Normal Operation"), and the commands that send one
abbrev pub is_update : Message → Bool
is_update (message.UpdateAddHtlc m) = true
is_update (message.UpdateFulfillHtlc m) = true
is_update (message.UpdateFailHtlc m) = true
is_update (message.UpdateFailMalformedHtlc m) = true
is_update (message.UpdateFee m) = true
is_update m = false

abbrev pub sends_update : Command → Bool
sends_update (command.Add amount hash expiry onion origin) = true
sends_update (command.Fulfil id preimage) = true
sends_update (command.Fail id reason) = true
sends_update (command.Malformed id sha code) = true
sends_update (command.Fee feerate) = true
sends_update c = false

-- whose update it is that a call brought, where it did nothing else: a message does nothing else where nothing is
-- handed out
abbrev pub taken_alone : Bool → List Output → Option Side
taken_alone update os = if update && (length os == 0) then Some side.Peer else None

abbrev pub sent_alone : Bool → Option Side
sent_alone update = if update then Some side.Own else None

-- no signature covers the last update of a side: a lost connection forgets it (BOLT 2, "Message Retransmission")
abbrev pub is_uncovered : Side → Log → Bool
is_uncovered side.Own l = nat_lt l.signed.own (length l.own)
is_uncovered side.Peer l = nat_lt l.current.peer (length l.received)

-- the last update of the side that brought one
abbrev pub is_forgotten : Option Side → Option End → Bool
is_forgotten (Some x) (Some e) = is_uncovered x e.dance.log
is_forgotten x o = false

-- how many updates of both sides are in the base of an end
abbrev pub base_in : Option End → Counts
base_in (Some e) = e.dance.log.first
base_in None = none

-- the base doesn't move on
abbrev pub is_based : Stage → Bool
is_based s = same_counts (base_in (saved_end (based_stage s))) (base_in (saved_end s))

-- The record is what it was: all that a call brought is an update that no signature covers, and the base stands where
-- it stood.
abbrev pub has_same_record : Option Side → Stage → Bool
has_same_record brought s = is_forgotten brought (saved_end s) && is_based s

-- a link whose base moves on is saved, unless its record is what it was
abbrev pub SavesChange : {K : Type 0} → Option Side → State K → StoreView → StoreView → Type 0
SavesChange brought l before behind =
    SavesIf (not (has_same_record brought l.stage)) l.failure (saved_end (based_link l).stage) before behind

-- ---- after a call that is answered

-- it halts as its base can't move on for want of memory, and nothing was to be saved yet
abbrev pub HaltsUnsettled : {K : Type 0} → Refusal → State K → State K → StoreView → StoreView → Type 0
HaltsUnsettled e l new before behind = (e ≡ refusal.Memory) × StandsFor new (halts l) × (behind ≡ before)

-- what a call made of it couldn't be saved: its base couldn't move on, or the link whose base has and that had to be
abbrev pub HaltsAnswered : {K : Type 0} → Option Side → Refusal → State K → State K → StoreView → StoreView → Type 0
HaltsAnswered brought e l new before behind =
    HaltsUnsettled e l new before behind
    ⊎ ((has_same_record brought l.stage ≡ false) × HaltsUnsaved e (based_link l) new before behind)

-- its base moves on, and what it is then is saved where it has to be; or else it halts
abbrev pub Settles : {K : Type 0} → Option Side → Result (Unit {0}) Refusal → State K → State K → StoreView
    → StoreView → Type 0
Settles brought (Ok u) l new before behind = StandsFor new (based_link l) × SavesChange brought l before behind
Settles brought (Err e) l new before behind = HaltsAnswered brought e l new before behind

-- it has failed, and hasn't halted
abbrev pub is_failing : {K : Type 0} → State K → Bool
is_failing l = not l.halted && not (is_none l.failure)

-- a refusal is answered, and saved where it has to be, or else the link halts and answers why it couldn't be
abbrev pub Refuses : {K : Type 0} → Bool → Refusal → Refusal → State K → State K → StoreView → StoreView → Type 0
Refuses false r e l new before behind = (e ≡ r) × StandsFor new l × (behind ≡ before)
Refuses true r e l new before behind =
    ((e ≡ r) × StandsFor new l × IsSaved l.failure (saved_end l.stage) before behind)
    ⊎ HaltsUnsaved e l new before behind

-- ---- answers

-- the link that a call comes to
abbrev pub reached : {K : Type 0} → Done → State K → State K
reached d l = record l { connection = d.connection; stage = d.stage }

-- as it is saved: its base has moved on
abbrev pub settled : {K : Type 0} → Done → State K → State K
settled d l = based_link (reached d l)

-- outputs are handed out where the link that they come from is saved, or has the record that it had
abbrev pub HandsOut : {K V : Type 0} → (List Output → Option Side) → (V → List Output) → Result Done Refusal → State K
    → V → State K → StoreView → StoreView → Type 0
HandsOut brings outs (Ok d) l v new before behind =
    (outs v ≡ d.outputs) × StandsFor new (settled d l) × SavesChange (brings d.outputs) (reached d l) before behind
HandsOut brings outs (Err r) l v new before behind = ⊥

-- it halts for want of memory before anything was to be saved
abbrev pub HaltsEarly : {K : Type 0} → Bool → Refusal → Result Done Refusal → State K → State K → StoreView → StoreView
    → Type 0
HaltsEarly views e said l new before behind =
    LacksBy views e (fault_of said) × IsHalted l new × (behind ≡ before)

-- by want of memory, or of a save, it halts after what was done
abbrev pub HaltsBehind : {K : Type 0} → (List Output → Option Side) → Refusal → Result Done Refusal → State K → State K
    → StoreView → StoreView → Type 0
HaltsBehind brings e (Ok d) l new before behind = HaltsAnswered (brings d.outputs) e (reached d l) new before behind
HaltsBehind brings e (Err r) l new before behind = ⊥

-- a command: refused, nothing has changed, and nothing is saved
abbrev pub AnswersCommand : {K V : Type 0} → (V → List Output) → Result Done Refusal → State K → Command
    → Result V Refusal → State K → StoreView → StoreView → Type 0
AnswersCommand outs said l c (Ok v) new before behind =
    HandsOut (λ os. sent_alone (sends_update c)) outs said l v new before behind
AnswersCommand outs said l c (Err e) new before behind =
    HaltsEarly false e said l new before behind
    ⊎ (HaltsBehind (λ os. sent_alone (sends_update c)) e said l new before behind
    ⊎ ((said ≡ Err e) × StandsFor new l × (behind ≡ before)))

-- a refusal by which the channel fails now
abbrev pub fails_now : {K : Type 0} → Refusal → State K → Bool
fails_now r l = not l.halted && (is_none l.failure && fails r)

-- a failure of the channel is saved
abbrev pub SavesFailure : {K : Type 0} → Refusal → State K → StoreView → StoreView → Type 0
SavesFailure r l before behind =
    SavesIf (fails_now r l) (refused r l).failure (saved_end (refused r l).stage) before behind

-- or else the link halts
abbrev pub HaltsRefused : {K : Type 0} → Refusal → Result Done Refusal → State K → State K → StoreView
    → StoreView → Type 0
HaltsRefused e (Ok d) l new before behind = ⊥
HaltsRefused e (Err r) l new before behind =
    (fails_now r l ≡ true) × HaltsUnsaved e (refused r l) new before behind

-- a message, by what is said of it: a refusal by which the channel fails is kept and saved
abbrev pub AnswersMessage : {K V : Type 0} → (V → List Output) → Result Done Refusal → State K → Message
    → Result V Refusal → State K → StoreView → StoreView → Type 0
AnswersMessage outs said l m (Ok v) new before behind =
    HandsOut (taken_alone (is_update m)) outs said l v new before behind
AnswersMessage outs said l m (Err e) new before behind =
    HaltsEarly (makes_view l m) e said l new before behind
    ⊎ (HaltsBehind (taken_alone (is_update m)) e said l new before behind
    ⊎ (HaltsRefused e said l new before behind
    ⊎ ((said ≡ Err e) × StandsFor new (refused e l) × SavesFailure e l before behind)))

-- ---- a channel that the store knows

-- the store has a record of it
abbrev pub is_known : Option (List ℕ) → Records → Bool
is_known None rs = false
is_known (Some channel) rs = is_some (map.get rs channel)

-- 21 to a message that opens such a channel
abbrev pub handled_beside : {K : Type 0} → Records → Signer → State K → Message → Result Done Refusal
handled_beside rs keys l m = if is_known (opened l m) rs then Err refusal.OutOfPlace else handled keys l m

-- the store can't tell: no memory, or it failed, which it counts
abbrev pub CannotTell : Refusal → Option (List ℕ) → ℕ → ℕ → Type 0
CannotTell e None before behind = ⊥
CannotTell e (Some channel) before behind =
    ((e ≡ refusal.Memory) × (behind ≡ before)) ⊎ ((e ≡ refusal.Store) × HasRisen before behind)

-- the link halts then
pub record IsUntold {K : Type 0} (e : Refusal) (channel : Option (List ℕ)) (l new : State K) (before behind : StoreView)
    : Type 0 where
  pub cause : CannotTell e channel before.failed behind.failed
  pub halts : StandsFor new (halts l)
  pub records : behind.records ≡ before.records
  pub fresh : behind.is_fresh ≡ before.is_fresh

-- a message, over a store
abbrev pub AnswersOver : {K V : Type 0} → (V → List Output) → Signer → State K → Message → Result V Refusal → State K
    → StoreView → StoreView → Type 0
AnswersOver outs keys l m (Ok v) new before behind =
    AnswersMessage outs (handled_beside before.records keys l m) l m (Ok v) new before behind
AnswersOver outs keys l m (Err e) new before behind =
    IsUntold e (opened l m) l new before behind
    ⊎ AnswersMessage outs (handled_beside before.records keys l m) l m (Err e) new before behind
