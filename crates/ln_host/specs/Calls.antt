-- Calls of a line in any order, and what leaves it.
use Rattle.std.specs.Prelude.{ℕ, ◌+◌, ◌≤◌, List, [], ◌∷◌, ◌++◌, true, Option, Some, None, ⊤, if◌then◌else◌}
use Rattle.ln_host.specs.declared.blank.Blank.{Blank}
use Rattle.ln_host.specs.declared.filling.Filling.{Filling}
use Rattle.ln_host.specs.declared.line.Outgoing.{Outgoing}
use Rattle.ln_host.specs.declared.line.Told.{Told}
use Rattle.ln_host.specs.Line.{Waiting, empty, with_record, with_message, with_told, without_head, lost, first_filled}

pub data Call : Type 0 where
  Saves : Call  -- a call of the link has saved a record
  Sends : (message : Outgoing) → Call
  Tells : (told : Told) → Call
  Fills : (filling : Filling) → Call
  Takes : Call  -- the host takes off what stands first
  Loses : Call  -- the connection is lost

abbrev pub after : Call → Waiting → Waiting
after Saves w = with_record true w
after (Sends m) w = with_message m w
after (Tells t) w = with_told t w
after (Fills f) w = record w { messages = first_filled f w.messages }
after Takes w = without_head w
after Loses w = lost w

-- a message that waits: its number among all messages, and the number of the record that was saved last when it came
pub record Covered : Type 0 where
  pub message : ℕ
  pub by_record : ℕ

-- one that has left: up to which record the host had saved then
pub record Gone : Type 0 where
  pub message : ℕ
  pub by_record : ℕ
  pub saved : ℕ

-- a line with its past
pub record Past : Type 0 where
  pub line : Waiting
  pub records : ℕ  -- how many records calls have saved
  pub saved : ℕ  -- up to which of them the host has
  pub messages : ℕ  -- how many messages have come
  pub waiting : List Covered
  pub sent : List Gone
  pub heard : List Told  -- what the host was told

abbrev pub begun : Past
begun = record { line = empty; records = 0; saved = 0; messages = 0; waiting = []; sent = []; heard = [] }

-- the first message leaves, if it has no blank
abbrev pub leaves : Option Blank → List Covered → Past → Past
leaves None [] p = p
leaves None (c ∷ cs) p = record p {
  line = without_head p.line;
  waiting = cs;
  sent = p.sent ++ record { message = c.message; by_record = c.by_record; saved = p.saved } ∷ [];
}
leaves (Some b) cs p = p

-- what is told first leaves
abbrev pub hears : List Told → Past → Past
hears [] p = p
hears (t ∷ ts) p = record p { line = without_head p.line; heard = p.heard ++ t ∷ [] }

abbrev pub takes_first : List Outgoing → Past → Past
takes_first [] p = hears p.line.told p
takes_first (m ∷ ms) p = leaves m.blank p.waiting p

abbrev pub takes : Past → Past
takes p =
    if p.line.record_waits then record p { line = without_head p.line; saved = p.records }
    else takes_first p.line.messages p

abbrev pub happens : Call → Past → Past
happens Saves p = record p { line = after Saves p.line; records = p.records + 1 }
happens (Sends m) p = record p {
  line = after (Sends m) p.line;
  messages = p.messages + 1;
  waiting = p.waiting ++ record { message = p.messages; by_record = p.records } ∷ [];
}
happens (Tells t) p = record p { line = after (Tells t) p.line }
happens (Fills f) p = record p { line = after (Fills f) p.line }
happens Takes p = takes p
happens Loses p = record p { line = after Loses p.line; waiting = [] }

abbrev pub run : List Call → Past → Past
run [] p = p
run (c ∷ cs) p = run cs (happens c p)

-- all that calls have told
abbrev pub told_by : List Call → List Told
told_by [] = []
told_by (Saves ∷ cs) = told_by cs
told_by (Sends m ∷ cs) = told_by cs
told_by (Tells t ∷ cs) = t ∷ told_by cs
told_by (Fills f ∷ cs) = told_by cs
told_by (Takes ∷ cs) = told_by cs
told_by (Loses ∷ cs) = told_by cs

-- ---- what the laws say

-- each message left only once the host had saved the record that was saved last when it came
abbrev pub AreSaved : List Gone → Type 0
AreSaved [] = ⊤
AreSaved (g ∷ gs) = (g.by_record ≤ g.saved) × AreSaved gs

-- numbers of messages rise from this one on, so each left once, and in the order in which they came
abbrev pub AreRising : ℕ → List Gone → Type 0
AreRising least [] = ⊤
AreRising least (g ∷ gs) = (least ≤ g.message) × AreRising (g.message + 1) gs
