-- The events that a worker tells of in its turns, beside the events of its channel.
use Rattle.std.specs.Prelude.{◌≡◌, ◌≤◌, ◌+◌, ◌-◌, ℕ, suc, zero, List, [], ◌∷◌, Option, Some, None}
use Rattle.ln_hooks.specs.declared.event.ChannelEvent.{ChannelEvent}

-- so many events of a channel, from this number on
abbrev pub segment : (ℕ → ChannelEvent) → ℕ → ℕ → List (ℕ × ChannelEvent)
segment event zero n = []
segment event (suc count) n = (n, event n) ∷ segment event count (n + 1)

-- the number after the last one that was put; that of the first event where none was
abbrev pub next_of : ℕ → Option ℕ → ℕ
next_of first None = first
next_of first (Some last) = last + 1

-- the number after all that was told
abbrev pub reached : ℕ → ℕ → ℕ
reached next behind = next + (behind - next)

-- Each of these lists tells of events one after the other, of none before the first, and leaves none out after those
-- that were told: from the next number on they reach the end.
abbrev pub Tells : (ℕ → ChannelEvent) → ℕ → ℕ → List (List (ℕ × ChannelEvent)) → ℕ → Type 0
Tells event first next [] end = end ≡ next
Tells event first next (es ∷ more) end =
    (count : ℕ) × (from : ℕ) × (es ≡ segment event count from) × (first ≤ from) × (from ≤ next)
    × Tells event first (reached next (from + count)) more end
