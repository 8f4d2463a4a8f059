-- Lines of many channels, and the batches of records that stand before their messages.
use Rattle.std.specs.Prelude.{◌≡◌, ◌⊎◌, ℕ, ◌+◌, ◌-◌, ◌^◌, List, [], ◌∷◌, ◌++◌, Bool, true, false, Option, Some, None}
use Rattle.std.specs.Prelude.{◌==◌, ◌&&◌, nat_le, not, slice_get, slice_set, if◌then◌else◌}
use Rattle.ln_refusals.specs.declared.refusal.Refusal.{Refusal}
use Rattle.ln_refusals.specs.declared.refusal.Refusal.TheVariants as refusal
use Rattle.ln_batches.specs.declared.row.Waiting.{Waiting}

-- what waits in one channel
pub record Row (M : Type 0) : Type 0 where
  pub messages : List (Waiting M)
  pub is_out : Bool  -- the first message is with the host
  pub is_changed : Bool  -- its record stands in the open batch
  pub events : ℕ  -- told by its newest record
  pub closed_events : ℕ  -- by that of the closed batch
  pub saved_events : ℕ  -- and by the saved one

pub record Queues (M : Type 0) : Type 0 where
  pub rows : List (Row M)  -- by their channels
  pub next_number : ℕ  -- of the next message
  pub records : ℕ  -- how many records have changed
  pub closed_records : ℕ  -- how many had as a batch was closed last
  pub saved_records : ℕ  -- up to which of them the host has saved
  pub batches : ℕ  -- how many batches were closed
  pub open_channels : List ℕ  -- whose records stand in the open batch
  pub closed_channels : List ℕ  -- in the closed one, while it isn't saved

abbrev pub no_queue : {M : Type 0} → Queues M
no_queue = record {
  rows = [];
  next_number = 0;
  records = 0;
  closed_records = 0;
  saved_records = 0;
  batches = 0;
  open_channels = [];
  closed_channels = [];
}

-- numbers are of 64 bits
abbrev pub last_number : ℕ
last_number = 2 ^ 64 - 1

-- 60, or 46 where the last number is reached
abbrev pub IsSpent : ℕ → Refusal → Type 0
IsSpent n e = (e ≡ refusal.Memory) ⊎ ((e ≡ refusal.NumbersSpent) × (n ≡ last_number))

-- of a channel whose saved record tells of so many events
abbrev pub new_row : {M : Type 0} → ℕ → Row M
new_row n = record {
  messages = [];
  is_out = false;
  is_changed = false;
  events = n;
  closed_events = n;
  saved_events = n;
}

abbrev pub with_channel : {M : Type 0} → ℕ → Queues M → Queues M
with_channel n q = record q { rows = q.rows ++ new_row n ∷ [] }

-- ---- a record has changed, and belongs to the open batch

abbrev pub unless_there : Bool → ℕ → List ℕ → List ℕ
unless_there true c cs = cs
unless_there false c cs = cs ++ c ∷ []

abbrev pub changed_at : {M : Type 0} → ℕ → ℕ → Option (Row M) → Queues M → Queues M
changed_at c n None q = q
changed_at c n (Some r) q = record q {
  rows = slice_set q.rows c (record r { is_changed = true; events = n });
  records = q.records + 1;
  open_channels = unless_there r.is_changed c q.open_channels;
}

abbrev pub changed : {M : Type 0} → ℕ → ℕ → Queues M → Queues M
changed c n q = changed_at c n (slice_get q.rows c) q

-- ---- a message comes, leaves, is filled, or is lost with the connection

abbrev pub pushed_at : {M : Type 0} → ℕ → M → Option (Row M) → Queues M → Queues M
pushed_at c m None q = q
pushed_at c m (Some r) q = record q {
  rows = slice_set q.rows c (record r {
    messages = r.messages ++ record { number = q.next_number; records = q.records; message = m } ∷ [];
  });
  next_number = q.next_number + 1;
}

abbrev pub pushed : {M : Type 0} → ℕ → M → Queues M → Queues M
pushed c m q = pushed_at c m (slice_get q.rows c) q

abbrev pub lost_at : {M : Type 0} → ℕ → Option (Row M) → Queues M → Queues M
lost_at c None q = q
lost_at c (Some r) q = record q { rows = slice_set q.rows c (record r { messages = []; is_out = false }) }

abbrev pub lost : {M : Type 0} → ℕ → Queues M → Queues M
lost c q = lost_at c (slice_get q.rows c) q

-- the first message of a channel
abbrev pub first_in : {M : Type 0} → List (Waiting M) → Option (Waiting M)
first_in [] = None
first_in (w ∷ ws) = Some w

abbrev pub first_of : {M : Type 0} → Option (Row M) → Option (Waiting M)
first_of None = None
first_of (Some r) = first_in r.messages

abbrev pub first_at : {M : Type 0} → ℕ → Queues M → Option (Waiting M)
first_at c q = first_of (slice_get q.rows c)

-- it may leave: the records are saved that had changed as it came
abbrev pub may_leave : {M : Type 0} → Queues M → Option (Waiting M) → Bool
may_leave q None = false
may_leave q (Some w) = nat_le w.records q.saved_records

abbrev pub is_out_in : {M : Type 0} → Option (Row M) → Bool
is_out_in None = false
is_out_in (Some r) = r.is_out

abbrev pub is_out : {M : Type 0} → ℕ → Queues M → Bool
is_out c q = is_out_in (slice_get q.rows c)

abbrev pub handed_at : {M : Type 0} → ℕ → Option (Row M) → Queues M → Queues M
handed_at c None q = q
handed_at c (Some r) q = record q { rows = slice_set q.rows c (record r { is_out = true }) }

-- the first message of a channel is with the host
abbrev pub handed : {M : Type 0} → ℕ → Queues M → Queues M
handed c q = handed_at c (slice_get q.rows c) q

abbrev pub is_numbered : {M : Type 0} → ℕ → List (Waiting M) → Bool
is_numbered n [] = false
is_numbered n (w ∷ ws) = w.number == n

abbrev pub is_out_at : {M : Type 0} → ℕ → Option (Row M) → Bool
is_out_at n None = false
is_out_at n (Some r) = r.is_out && is_numbered n r.messages

-- the message of this number is the first of a channel, and with the host
abbrev pub is_with_host : {M : Type 0} → ℕ → ℕ → Queues M → Bool
is_with_host c n q = is_out_at n (slice_get q.rows c)

abbrev pub rest : {A : Type 0} → List A → List A
rest [] = []
rest (x ∷ xs) = xs

abbrev pub sent_at : {M : Type 0} → ℕ → Option (Row M) → Queues M → Queues M
sent_at c None q = q
sent_at c (Some r) q =
    record q { rows = slice_set q.rows c (record r { messages = rest r.messages; is_out = false }) }

-- the first message of a channel has left
abbrev pub sent : {M : Type 0} → ℕ → Queues M → Queues M
sent c q = sent_at c (slice_get q.rows c) q

abbrev pub first_filled : {M : Type 0} → (M → M) → List (Waiting M) → List (Waiting M)
first_filled f [] = []
first_filled f (w ∷ ws) = record w { message = f w.message } ∷ ws

abbrev pub filled_at : {M : Type 0} → ℕ → (M → M) → Option (Row M) → Queues M → Queues M
filled_at c f None q = q
filled_at c f (Some r) q =
    record q { rows = slice_set q.rows c (record r { messages = first_filled f r.messages; is_out = false }) }

-- it is filled, and comes again
abbrev pub filled : {M : Type 0} → ℕ → (M → M) → Queues M → Queues M
filled c f q = filled_at c f (slice_get q.rows c) q

-- ---- batches

abbrev pub has_any : {A : Type 0} → List A → Bool
has_any [] = false
has_any (x ∷ xs) = true

-- the batch before is saved, and a record has changed since
abbrev pub can_close : {M : Type 0} → Queues M → Bool
can_close q = (q.closed_records == q.saved_records) && has_any q.open_channels

abbrev pub row_closed : {M : Type 0} → Option (Row M) → ℕ → List (Row M) → List (Row M)
row_closed None c rs = rs
row_closed (Some r) c rs = slice_set rs c (record r { is_changed = false; closed_events = r.events })

abbrev pub rows_closed : {M : Type 0} → List ℕ → List (Row M) → List (Row M)
rows_closed [] rs = rs
rows_closed (c ∷ cs) rs = rows_closed cs (row_closed (slice_get rs c) c rs)

abbrev pub closed : {M : Type 0} → Queues M → Queues M
closed q = record q {
  rows = rows_closed q.open_channels q.rows;
  closed_records = q.records;
  batches = q.batches + 1;
  open_channels = [];
  closed_channels = q.open_channels;
}

abbrev pub row_saved : {M : Type 0} → Option (Row M) → ℕ → List (Row M) → List (Row M)
row_saved None c rs = rs
row_saved (Some r) c rs = slice_set rs c (record r { saved_events = r.closed_events })

abbrev pub rows_saved : {M : Type 0} → List ℕ → List (Row M) → List (Row M)
rows_saved [] rs = rs
rows_saved (c ∷ cs) rs = rows_saved cs (row_saved (slice_get rs c) c rs)

abbrev pub saved : {M : Type 0} → Queues M → Queues M
saved q = record q {
  rows = rows_saved q.closed_channels q.rows;
  saved_records = q.closed_records;
  closed_channels = [];
}

-- the batch of this number is closed, and not saved yet
abbrev pub is_closed : {M : Type 0} → ℕ → Queues M → Bool
is_closed b q = not (q.closed_records == q.saved_records) && (b == q.batches)

abbrev pub events_at : {M : Type 0} → Option (Row M) → ℕ
events_at None = 0
events_at (Some r) = r.saved_events

abbrev pub saved_events : {M : Type 0} → ℕ → Queues M → ℕ
saved_events c q = events_at (slice_get q.rows c)
