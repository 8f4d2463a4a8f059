-- How a node greets its peers, and what it asks of their greeting (BOLT 1, "The init Message"; BOLT 9).
use Rattle.std.specs.Prelude.{ℕ, List, [], ◌∷◌, Option, Some, None}
use Rattle.ln_msgs.specs.declared.messages.message.Message.{Message}
use Rattle.ln_msgs.specs.declared.messages.message.Message.TheVariants as message
use Rattle.ln_msgs.specs.declared.messages.setup.Init.{Init}
use Rattle.ln_node.specs.declared.greeting.Greeting.{Greeting}

-- the init that greets peers
abbrev pub own_init : Greeting → Message
own_init g = g.own

-- the even bits that a peer may set
abbrev pub knows : Greeting → List ℕ
knows g = g.peer.known.items

-- the features that it has to offer, each by either of its two bits
abbrev pub wants : Greeting → List ℕ
wants g = g.peer.wanted.items

-- the init by which a peer has greeted, where it has
abbrev pub init_of : Option Message → Option Init
init_of (Some (message.Init init)) = Some init
init_of m = None

-- bits 1, 7, 9, 13, 15, 27 and 45, the lowest in the last byte
abbrev pub usual_init : Init
usual_init = record {
  global_features = [];
  features = 32 ∷ 0 ∷ 8 ∷ 0 ∷ 162 ∷ 130 ∷ [];
  records = [];
}

-- the even bit of each of these features
abbrev pub usual_known : List ℕ
usual_known = 0 ∷ 6 ∷ 8 ∷ 12 ∷ 14 ∷ 26 ∷ 44 ∷ []
