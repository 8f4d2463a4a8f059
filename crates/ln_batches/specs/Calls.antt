-- Calls of the lines of many channels in any order, and what leaves.
use Rattle.std.specs.Prelude.{ℕ, ◌+◌, ◌≤◌, List, [], ◌∷◌, ◌++◌, Bool, true, false, Option, Some, None, ⊤, ◌==◌, ◌&&◌}
use Rattle.std.specs.Prelude.{slice_get, if◌then◌else◌}
use Rattle.ln_batches.specs.declared.row.Waiting.{Waiting}
use Rattle.ln_batches.specs.Queues.{Queues, no_queue, with_channel, changed, pushed, lost, first_at, may_leave, handed}
use Rattle.ln_batches.specs.Queues.{is_with_host, sent, filled, can_close, closed, saved, is_closed}

pub data Call (M : Type 0) : Type 0 where
  Adds : (events : ℕ) → Call M  -- a further channel
  Changes : (channel events : ℕ) → Call M  -- its record has changed
  Comes : (channel : ℕ) (message : M) → Call M
  Hands : (channel : ℕ) → Call M  -- its first message is handed to the host
  Fills : (channel : ℕ) (filling : M → M) → Call M
  Sends : (channel number : ℕ) → Call M  -- the host has sent it
  Loses : (channel : ℕ) → Call M
  Closes : Call M
  Saves : (batch : ℕ) → Call M

-- one that has left: how many records had changed as it came, and how many changes the host had saved as it left
pub record Gone : Type 0 where
  pub channel : ℕ
  pub number : ℕ
  pub records : ℕ
  pub saved : ℕ

pub record Past (M : Type 0) : Type 0 where
  pub queues : Queues M
  pub gone : List Gone

abbrev pub begun : {M : Type 0} → Past M
begun = record { queues = no_queue; gone = [] }

abbrev pub gone_by : {M : Type 0} → ℕ → ℕ → Option (Waiting M) → List Gone
gone_by c s None = []
gone_by c s (Some w) = record { channel = c; number = w.number; records = w.records; saved = s } ∷ []

abbrev pub sends : {M : Type 0} → Bool → ℕ → Past M → Past M
sends false c p = p
sends true c p = record {
  queues = sent c p.queues;
  gone = p.gone ++ gone_by c p.queues.saved_records (first_at c p.queues);
}

abbrev pub if_so : {M : Type 0} → Bool → Queues M → Queues M → Queues M
if_so true new old = new
if_so false new old = old

-- a call that is refused changes nothing
abbrev pub happens : {M : Type 0} → Call M → Past M → Past M
happens (Adds n) p = record p { queues = with_channel n p.queues }
happens (Changes c n) p = record p { queues = changed c n p.queues }
happens (Comes c m) p = record p { queues = pushed c m p.queues }
happens (Hands c) p =
    record p { queues = if_so (may_leave p.queues (first_at c p.queues)) (handed c p.queues) p.queues }
happens (Fills c f) p = record p { queues = filled c f p.queues }
happens (Sends c n) p = sends (is_with_host c n p.queues && may_leave p.queues (first_at c p.queues)) c p
happens (Loses c) p = record p { queues = lost c p.queues }
happens Closes p = record p { queues = if_so (can_close p.queues) (closed p.queues) p.queues }
happens (Saves b) p = record p { queues = if_so (is_closed b p.queues) (saved p.queues) p.queues }

abbrev pub run : {M : Type 0} → List (Call M) → Past M → Past M
run [] p = p
run (c ∷ cs) p = run cs (happens c p)

-- ---- what the laws say

-- each left once all was saved that had changed as it came
abbrev pub AreSaved : List Gone → Type 0
AreSaved [] = ⊤
AreSaved (g ∷ gs) = (g.records ≤ g.saved) × AreSaved gs

abbrev pub if_of : Bool → Gone → List Gone → List Gone
if_of true g gs = g ∷ gs
if_of false g gs = gs

abbrev pub of_channel : ℕ → List Gone → List Gone
of_channel c [] = []
of_channel c (g ∷ gs) = if_of (g.channel == c) g (of_channel c gs)

-- numbers rise from this one on, so each left once, and in the order in which they came
abbrev pub AreRising : ℕ → List Gone → Type 0
AreRising least [] = ⊤
AreRising least (g ∷ gs) = (least ≤ g.number) × AreRising (g.number + 1) gs
