-- The channels of a node that starts again, and what they have of payments.
use Rattle.std.specs.Prelude.{◌≡◌, ℕ, List, [], ◌∷◌, ◌++◌, Option, Some, None, Ok, slice_get}
use Rattle.std.specs.FinMap as map
use Rattle.ln_channel.specs.End.{End}
use Rattle.ln_channel.specs.Record.{saved_end}
use Rattle.ln_channel.specs.State.{State}
use Rattle.ln_store.specs.Store.{Records, StoreView}
use Rattle.ln_store.specs.Record.{record_at}
use Rattle.ln_link.specs.Loading.{Loads}
use Rattle.ln_book.specs.Rebuild.{ChannelSnapshot, rebuilt}
use Rattle.ln_book.specs.Snapshots.{snapshot_by}
use Rattle.ln_book_tables.specs.declared.entry.Entry.{Entry}
use Rattle.ln_history.specs.History.{History, begun_with}
use Rattle.ln_book_tables.specs.Replay.{Table, no_table}
use Rattle.ln_node_loops.specs.Saved.{record_in}
use Rattle.ln_node.specs.declared.stored.Loaded.{Loaded}
use Rattle.ln_node.specs.declared.stored.Stored.{Stored}

-- ---- which links come back

-- the first record in a store
abbrev pub first_record : Records → Option (List ℕ)
first_record rs = record_in rs (slice_get (map.keys rs) 0)

-- a link comes back from this record
abbrev pub ComesFrom : {K : Type 0} → K → Option (List ℕ) → State K → Type 0
ComesFrom keys None link = ⊥
ComesFrom keys (Some bytes) link = Loads keys (record_at bytes) (Ok link)

module _ {K S T : Type 0} (store_view : S → StoreView) where
  abbrev pub IsLoaded : Stored K S T → Loaded K S T → Type 0
  IsLoaded s l = ComesFrom s.keys (first_record (store_view s.store).records) l.end.saved.value.link

  -- all of them, in their order
  abbrev pub AreLoaded : List (Stored K S T) → List (Loaded K S T) → Type 0
  AreLoaded [] [] = Unit {0}
  AreLoaded [] (l ∷ ls) = ⊥
  AreLoaded (s ∷ ss) [] = ⊥
  AreLoaded (s ∷ ss) (l ∷ ls) = IsLoaded s l × AreLoaded ss ls

-- ---- what they have of payments

-- its end, as its record has told it
abbrev pub loaded_end : {K S T : Type 0} → Loaded K S T → Option End
loaded_end l = saved_end l.end.saved.value.link.stage

-- of all of them, in their order
abbrev pub channel_snapshots_of : {K S T : Type 0} → List (Loaded K S T) → List ChannelSnapshot
channel_snapshots_of [] = []
channel_snapshots_of (l ∷ ls) = snapshot_by (loaded_end l) ++ channel_snapshots_of ls

-- a book that begins with what the links have that come back from these stores
abbrev pub BeginsWithAll : {K S T : Type 0} → (S → StoreView) → List (Stored K S T) → History Table Entry → Type 0
BeginsWithAll {K} {S} {T} store_view stored b =
    (ls : List (Loaded K S T)) × AreLoaded store_view stored ls
    × (b ≡ begun_with (rebuilt no_table (channel_snapshots_of ls)))
