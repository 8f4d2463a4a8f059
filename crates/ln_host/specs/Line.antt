-- The line in which what a link hands out waits for its host: a record before all that it covers, then messages, then
-- what is told.
use Rattle.std.specs.Prelude.{List, [], ◌∷◌, ◌++◌, Bool, true, false, Option, Some, None, is_some, ◌≡◌, ⊤}
use Rattle.std.specs.Prelude.{if◌then◌else◌}
use Rattle.ln_host.specs.declared.filling.Filling.{Filling}
use Rattle.ln_host.specs.declared.line.Outgoing.{Outgoing}
use Rattle.ln_host.specs.declared.line.Told.{Told}
use Rattle.ln_host.specs.declared.blank.Blank.{Blank}
use Rattle.ln_host.specs.declared.line.Head.{Head}
use Rattle.ln_host.specs.declared.line.Head.TheVariants as head
use Rattle.ln_host.specs.Blank.{filled}

pub record Waiting : Type 0 where
  pub record_waits : Bool  -- the newest record isn't saved yet
  pub messages : List Outgoing  -- with their blanks
  pub told : List Told

abbrev pub empty : Waiting
empty = record { record_waits = false; messages = []; told = [] }

-- ---- what a call adds: the newest record stands for all before it

abbrev pub covered_by : Bool → Bool → Bool
covered_by true waits = true
covered_by false waits = waits

abbrev pub with_record : Bool → Waiting → Waiting
with_record saved w = record w { record_waits = covered_by saved w.record_waits }

abbrev pub with_message : Outgoing → Waiting → Waiting
with_message m w = record w { messages = w.messages ++ m ∷ [] }

abbrev pub with_told : Told → Waiting → Waiting
with_told t w = record w { told = w.told ++ t ∷ [] }

-- ---- what a host takes off

-- the first message, filled
abbrev pub first_filled : Filling → List Outgoing → List Outgoing
first_filled f [] = []
first_filled f (m ∷ ms) = record { message = filled f m.message; blank = None } ∷ ms

abbrev pub rest : {A : Type 0} → List A → List A
rest [] = []
rest (x ∷ xs) = xs

abbrev pub unless_blank : Option Blank → List Outgoing → List Outgoing → List Outgoing
unless_blank None gone all = gone
unless_blank (Some b) gone all = all

-- the first message where there is one, which stays while it has a blank; else what is told first
abbrev pub without_first : List Outgoing → List Told → Waiting
without_first [] told = record { record_waits = false; messages = []; told = rest told }
without_first (m ∷ ms) told =
    record { record_waits = false; messages = unless_blank m.blank ms (m ∷ ms); told = told }

abbrev pub is_blank_first : List Outgoing → Bool
is_blank_first [] = false
is_blank_first (m ∷ ms) = is_some m.blank

-- the record where it waits, else what stands first
abbrev pub without_head : Waiting → Waiting
without_head w =
    if w.record_waits then record w { record_waits = false } else without_first w.messages w.told

-- a lost connection takes its messages, and no record and nothing that is told
abbrev pub lost : Waiting → Waiting
lost w = record w { messages = [] }

-- ---- what stands first

abbrev pub IsMessageHead : Outgoing → Option Blank → Head → Type 0
IsMessageHead m None (head.Send message) = message.now ≡ m.message
IsMessageHead m (Some b) (head.Blank blank) = blank.now ≡ b
IsMessageHead m b h = ⊥

abbrev pub IsToldHead : List Told → Option Head → Type 0
IsToldHead [] None = ⊤
IsToldHead (t ∷ ts) (Some (head.Told told)) = told.now ≡ t
IsToldHead ts h = ⊥

abbrev pub IsFirst : List Outgoing → List Told → Option Head → Type 0
IsFirst [] told h = IsToldHead told h
IsFirst (m ∷ ms) told None = ⊥
IsFirst (m ∷ ms) told (Some h) = IsMessageHead m m.blank h

abbrev pub IsRecordHead : Option Head → Type 0
IsRecordHead (Some head.Record) = ⊤
IsRecordHead h = ⊥

-- the record where it waits, else the first message's blank or the message, else what is told first
abbrev pub IsHeadOf : Bool → List Outgoing → List Told → Option Head → Type 0
IsHeadOf true messages told h = IsRecordHead h
IsHeadOf false messages told h = IsFirst messages told h

abbrev pub IsHead : Waiting → Option Head → Type 0
IsHead w h = IsHeadOf w.record_waits w.messages w.told h
