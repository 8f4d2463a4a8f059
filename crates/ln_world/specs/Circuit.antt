-- What goes out of a node of a world for an HTLC that came in (BOLT 2, "Forwarding HTLCs"): the node at one moment, and
-- what ln_payment_circuits says of it.
use Rattle.std.specs.Prelude.{ℕ, Bool, false, Option, Some, None}
use Rattle.ln_channel.specs.End.{End as ChannelEnd}
use Rattle.ln_channel.specs.State.{State}
use Rattle.ln_world_channels.specs.declared.step.Node.{Node}
use Rattle.ln_world_channels.specs.Settings.{channel_id_of}
use Rattle.ln_world_channels.specs.World.{channel}
use Rattle.ln_book_tables.specs.Replay.{table_of}
use Rattle.ln_world.specs.Node.{node_at}
use Rattle.ln_world.specs.World.{World, end_at, link_there}
use Rattle.ln_payment_circuits.specs.Snapshot.{Snapshot, Incoming}
use Rattle.ln_payment_circuits.specs.Circuit as circuit

-- the end of a node in the channel of this number, where both have signed its opening
abbrev pub end_of : {K : Type 0} → Node → ℕ → World K → Option ChannelEnd
end_of n c w = end_at (record { node = n; channel = c }) w.dispatchers

abbrev pub has_halted : {K : Type 0} → Option (State K) → Bool
has_halted None = false
has_halted (Some l) = l.halted

-- the node: its ends, which of their links have halted, and what its book has
abbrev pub snapshot_of : {K : Type 0} → Node → World K → Snapshot
snapshot_of n w = record {
  ends = λ c. end_of n c w;
  halted = λ c. has_halted (link_there n (channel c w.dispatchers.channels.channels));
  book = (table_of (node_at n w.nodes).book).htlcs;
}

-- the HTLC of this id that the node has offered in this channel forwards h, and a signature covers it
abbrev pub IsCovered : {K : Type 0} → Node → Incoming → ℕ → ℕ → World K → Type 0
IsCovered n h c i w = circuit.IsCovered channel_id_of h (snapshot_of n w) c i

-- what is promised of a node and an HTLC that came in
abbrev pub PaysOnce : {K : Type 0} → Node → Incoming → World K → Type 0
PaysOnce n h w = circuit.PaysOnce channel_id_of h (snapshot_of n w)
