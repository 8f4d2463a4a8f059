-- A node's book follows its ends: which short channel ids name its channels, and which of these take payments; and what
-- it reads off them as the node starts.
use Rattle.std.specs.Prelude.{ℕ, zero, suc, List, [], ◌++◌, Option, Some, None}
use Rattle.ln_keys.specs.declared.role.Role.{Role}
use Rattle.ln_forward.specs.declared.checks.Policy.{Policy}
use Rattle.ln_channel.specs.End.{End as ChannelEnd}
use Rattle.ln_channel.specs.Record.{saved_end}
use Rattle.ln_channel.specs.State.{State}
use Rattle.ln_history.specs.History.{begun_with}
use Rattle.ln_book_tables.specs.Replay.{table_of}
use Rattle.ln_book.specs.Rebuild.{ChannelSnapshot, rebuilt}
use Rattle.ln_book.specs.Uses.{use_of, with_use}
use Rattle.ln_book.specs.Snapshots.{snapshot_by}
use Rattle.ln_world_channels.specs.declared.step.Node.{Node}
use Rattle.ln_world_channels.specs.WorldChannel.{WorldChannel, side_of, place_of}
use Rattle.ln_world_channels.specs.World.{channel}
use Rattle.ln_world.specs.declared.node.NodeBook.{NodeBook}
use Rattle.ln_world.specs.Node.{Book, with_book}

-- ---- one end

-- what is said of it, where both have signed its opening
abbrev pub with_end : {K : Type 0} → Policy → State K → Option ChannelEnd → Book → Book
with_end p l None b = b
with_end p l (Some e) b = with_use p (use_of l e) b

abbrev pub with_side : {K : Type 0} → Policy → WorldChannel K → Option Role → Book → Book
with_side p c None b = b
with_side p c (Some side) b =
    with_end p (place_of side c.both).link (saved_end (place_of side c.both).link.stage) b

-- the node's end in a channel, where it has one
abbrev pub with_channel : {K : Type 0} → Node → Policy → Option (WorldChannel K) → Book → Book
with_channel n p None b = b
with_channel n p (Some c) b = with_side p c (side_of n c) b

-- ---- all ends of a node, by rising number: of two channels with one short id the greater number has it

unfoldable pub followed_below : {K : Type 0} → ℕ → Node → Policy → List (WorldChannel K) → Book → Book
followed_below zero n p cs b = b
followed_below (suc m) n p cs b = with_channel n p (channel m cs) (followed_below m n p cs b)

abbrev pub followed : {K : Type 0} → List (WorldChannel K) → NodeBook → NodeBook
followed cs x = with_book (followed_below 256 x.node x.policy cs x.book) x

-- ---- what the book begins with, as the node starts

abbrev pub side_snapshot : {K : Type 0} → WorldChannel K → Option Role → List ChannelSnapshot → List ChannelSnapshot
side_snapshot c None rs = rs
side_snapshot c (Some side) rs = rs ++ snapshot_by (saved_end (place_of side c.both).link.stage)

abbrev pub snapshot_in : {K : Type 0} → Node → Option (WorldChannel K) → List ChannelSnapshot → List ChannelSnapshot
snapshot_in n None rs = rs
snapshot_in n (Some c) rs = side_snapshot c (side_of n c) rs

-- of the node's ends, in the order of the channels' numbers
unfoldable pub snapshots_below : {K : Type 0} → ℕ → Node → List (WorldChannel K) → List ChannelSnapshot
snapshots_below zero n cs = []
snapshots_below (suc m) n cs = snapshot_in n (channel m cs) (snapshots_below m n cs)

-- settings stay
abbrev pub begun_anew : {K : Type 0} → List (WorldChannel K) → NodeBook → NodeBook
begun_anew cs x = with_book (begun_with (rebuilt (table_of x.book) (snapshots_below 256 x.node cs))) x
