-- What a node has beside its channels: what it asks for forwarding, and its book of payments.
use Rattle.std.specs.Prelude.{List, [], ◌∷◌, if◌then◌else◌}
use Rattle.ln_keys.specs.ToyOnion.{toy_services}
use Rattle.ln_forward.specs.declared.checks.Policy.{Policy}
use Rattle.ln_book_tables.specs.declared.entry.Entry.{Entry}
use Rattle.ln_book_tables.specs.declared.entry.Entry.TheVariants as entry
use Rattle.ln_history.specs.History.{History, begun_with, with_entry}
use Rattle.ln_book_tables.specs.Replay.{Table, no_table}
use Rattle.ln_keys.specs.Services.{Services}
use Rattle.ln_world_channels.specs.declared.step.Node.{Node}
use Rattle.ln_world_channels.specs.WorldChannel.{is_node}
use Rattle.ln_world.specs.declared.node.NodeBook.{NodeBook}

-- what was entered in a book of forwarded payments
abbrev pub Book : Type 0
Book = History Table Entry

-- the services of every node: toy onions, whose failures are passed on as they are
abbrev pub services : Services
services = toy_services

-- ---- a node of which nothing was said: it asks for 1000 msat, 100 millionths of the amount and 40 blocks, and the
-- block height is 100

abbrev pub new_policy : Policy
new_policy = record { base = 1000; proportional = 100; delta = 40 }

abbrev pub new_book : Book
new_book = with_entry (entry.Height 100) (begun_with no_table)

abbrev pub new_node : Node → NodeBook
new_node n = record { node = n; policy = new_policy; book = new_book }

-- ---- nodes by their letters

abbrev pub node_at : Node → List NodeBook → NodeBook
node_at n [] = new_node n
node_at n (x ∷ xs) = if is_node x.node n then x else node_at n xs

-- the node changes so; one of which nothing was said joins the others
abbrev pub changed : Node → (NodeBook → NodeBook) → List NodeBook → List NodeBook
changed n f [] = f (new_node n) ∷ []
changed n f (x ∷ xs) = if is_node x.node n then f x ∷ xs else x ∷ changed n f xs

abbrev pub with_policy : Policy → NodeBook → NodeBook
with_policy p x = record { node = x.node; policy = p; book = x.book }

abbrev pub with_book : Book → NodeBook → NodeBook
with_book b x = record { node = x.node; policy = x.policy; book = b }
