-- What a contract sees of the seats of no relay.
use Rattle.std.specs.Prelude.{◌-◌, List, length, take}
use Rattle.std.specs.Vec.Iter.{into_iter_items}
use Rattle.ln_relay.specs.declared.memory.MemorySend.{MemorySend}
use Rattle.ln_relay.specs.declared.memory.MemoryRecv.{MemoryRecv}
use Rattle.ln_relay.specs.History.{First, Receiver}
use Rattle.ln_relay.specs.Position.{Position}

module _ {T : Type 0} where
  -- what was put, oldest first
  abbrev pub kept : MemorySend T → List T
  kept s = s.items.items

  abbrev pub sender_position : MemorySend T → Position (Unit {0})
  sender_position s = record { relay = tt; room = s.room; seat = First }

  -- what can still be taken
  abbrev pub left : MemoryRecv T → List T
  left s = into_iter_items s.rest

  -- what was taken: all that isn't left
  abbrev pub given : MemoryRecv T → List T
  given s = take (length s.all.value.items - length (left s)) s.all.value.items

  abbrev pub receiver_position : MemoryRecv T → Position (Unit {0})
  receiver_position s = record { relay = tt; room = length s.all.value.items; seat = Receiver }
