-- What is noted of a worker's turns for whoever watches its node.
use Rattle.std.specs.Prelude.{List, [], ◌∷◌, ◌++◌, Option, Some, None, Result, Ok, Err, Bool, true, false, not, ◌&&◌}
use Rattle.ln_msgs.specs.declared.messages.message.Message.{Message}
use Rattle.ln_refusals.specs.declared.refusal.Refusal.{Refusal}
use Rattle.ln_node_loops.specs.declared.noted.Noted.{Noted}
use Rattle.ln_node_loops.specs.declared.noted.Noted.TheVariants.{Meets, Tells}
use Rattle.ln_node_loops.specs.declared.notice.Notice.{Notice}
use Rattle.ln_node_loops.specs.declared.notice.Notice.TheVariants as notice
use Rattle.ln_node_loops.specs.declared.worker.Phase.{Phase}
use Rattle.ln_node_loops.specs.declared.worker.Phase.TheVariants.{Unconnected, AwaitsInit, Open}

-- the init of a peer that is met
abbrev pub meets : Option Message → List Noted
meets None = []
meets (Some init) = Meets init ∷ []

abbrev pub init_of : Noted → Option Message
init_of (Meets init) = Some init
init_of (Tells n) = None

abbrev pub tells : Option Notice → List Noted
tells None = []
tells (Some n) = Tells n ∷ []

abbrev pub tells_if : Bool → Notice → List Noted
tells_if true n = Tells n ∷ []
tells_if false n = []

-- what the end has refused, or why not all was written
abbrev pub tells_refusal : Result (Unit {0}) Refusal → List Noted
tells_refusal (Ok u) = []
tells_refusal (Err r) = Tells (notice.Refused r) ∷ []

abbrev pub is_unconnected : Phase → Bool
is_unconnected Unconnected = true
is_unconnected AwaitsInit = false
is_unconnected Open = false

abbrev pub awaits_init : Phase → Bool
awaits_init Unconnected = false
awaits_init AwaitsInit = true
awaits_init Open = false

-- What is told of a turn: by what it was refused, that its connection is over before the peer's init, and that its end
-- has halted; by whether the init was awaited and the end had halted before it, and how far both are after it.
abbrev pub became : (awaited halted : Bool) → Result (Unit {0}) Refusal → Phase → Bool → List Noted
became awaited halted said p halts =
    tells_refusal said
    ++ (tells_if (awaited && is_unconnected p) notice.NoInit ++ tells_if (not halted && halts) notice.Halted)

-- the same of a command of the book; nothing where it waits
abbrev pub became_unless : Bool → (halted : Bool) → Result (Unit {0}) Refusal → Phase → Bool → List Noted
became_unless true halted said p halts = []
became_unless false halted said p halts = became false halted said p halts

abbrev pub load_notes : Result (Unit {0}) Refusal → List Noted
load_notes (Ok u) = Tells notice.Loaded ∷ []
load_notes (Err r) = []

-- of an order is told by what not all was written, as its end's answer is the reply to it
abbrev pub beside_reply : {A : Type 0} → Option A → (answer written : Result (Unit {0}) Refusal)
    → Result (Unit {0}) Refusal
beside_reply None answer written = answer
beside_reply (Some x) answer written = written
