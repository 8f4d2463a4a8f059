-- How far the connection of a worker is (BOLT 1, "The init Message").
use Rattle.std.specs.Prelude.{◌≡◌, ◌⊎◌, ◌==◌, ◌||◌, ℕ, Option, Some, None, Result, Ok, Err, Bool, true, false}
use Rattle.std.specs.Prelude.{if◌then◌else◌}
use Rattle.ln_msgs.specs.declared.messages.message.Message.{Message}
use Rattle.ln_msgs.specs.declared.messages.message.Message.TheVariants as message
use Rattle.ln_msgs.specs.declared.messages.setup.Init.{Init}
use Rattle.ln_refusals.specs.declared.refusal.Refusal.{Refusal}
use Rattle.ln_refusals.specs.Refusal.{refusal_number}
use Rattle.ln_node_loops.specs.Reserved.{is_reserved}
use Rattle.ln_node_loops.specs.Connection.{Latest, closed}
use Rattle.ln_node_loops.specs.Features.{Fits, Misfits}
use Rattle.ln_node_loops.specs.declared.features.PeerFeatures.{PeerFeatures}
use Rattle.ln_node_loops.specs.declared.item.Item.{Item}
use Rattle.ln_node_loops.specs.declared.item.Item.TheVariants as item
use Rattle.ln_node_loops.specs.declared.worker.Phase.{Phase}
use Rattle.ln_node_loops.specs.declared.worker.Phase.TheVariants.{Unconnected, AwaitsInit, Open}

-- ---- which items are served

-- messages are, once the peer's init came; an order is obeyed or passed over
abbrev pub is_on : Phase → Bool
is_on Unconnected = false
is_on AwaitsInit = false
is_on Open = true

abbrev pub is_served : {J : Type 0} → Phase → Item J → Bool
is_served p (item.Joined j) = true
is_served p (item.Read m) = is_on p
is_served p item.Broken = true
is_served p (item.Order c) = false
is_served p item.Stop = false

-- ---- how far a connection is after an item that isn't served

abbrev pub init_in : Message → Option Init
init_in (message.Init m) = Some m
init_in m = None

-- the first message of a connection: an init that fits, or else the connection is over
abbrev pub Greets : PeerFeatures → Option Init → Phase → Type 0
Greets peer None p = p ≡ Unconnected
Greets peer (Some init) p = ((p ≡ Open) × Fits peer init) ⊎ ((p ≡ Unconnected) × Misfits peer init)

-- without a connection messages are passed over
abbrev pub Hears : PeerFeatures → Phase → Message → Phase → Type 0
Hears peer Unconnected m p = p ≡ Unconnected
Hears peer AwaitsInit m p = Greets peer (init_in m) p
Hears peer Open m p = p ≡ Open

-- what is reserved for the book isn't ordered
abbrev pub PassesOver : {J : Type 0} → PeerFeatures → Phase → Item J → Phase → Type 0
PassesOver peer p (item.Joined j) p' = p' ≡ p
PassesOver peer p (item.Read m) p' = Hears peer p m p'
PassesOver peer p item.Broken p' = p' ≡ p
PassesOver peer p (item.Order c) p' = (is_reserved c ≡ true) × (p' ≡ p)
PassesOver peer p item.Stop p' = p' ≡ p

-- the peer's first message, where the connection is open by it: then it is an init
abbrev pub first_after : Phase → Message → Option Message
first_after Unconnected m = None
first_after AwaitsInit m = None
first_after Open m = Some m

abbrev pub met_by : {J : Type 0} → Phase → Item J → Phase → Option Message
met_by Unconnected i p = None
met_by AwaitsInit (item.Joined j) p = None
met_by AwaitsInit (item.Read m) p = first_after p m
met_by AwaitsInit item.Broken p = None
met_by AwaitsInit (item.Order c) p = None
met_by AwaitsInit item.Stop p = None
met_by Open i p = None

-- ---- how far it is after one that is served

abbrev pub begun : {J : Type 0} → Phase → Item J → Phase
begun p (item.Joined j) = AwaitsInit
begun p (item.Read m) = p
begun p item.Broken = Unconnected
begun p (item.Order c) = p
begun p item.Stop = p

-- 7, 60 and 63: not all was written
abbrev pub is_loss : ℕ → Bool
is_loss n = (n == 7 || n == 60) || n == 63

abbrev pub is_lost : Result (Unit {0}) Refusal → Bool
is_lost (Ok u) = false
is_lost (Err r) = is_loss (refusal_number r)

abbrev pub is_refused : Result (Unit {0}) Refusal → Bool
is_refused (Ok u) = false
is_refused (Err r) = true

-- A turn after which nothing more is written: not all was, or the end takes no connection.
abbrev pub is_over : {J : Type 0} → Item J → Result (Unit {0}) Refusal → Bool
is_over (item.Joined j) answer = is_refused answer
is_over (item.Read m) answer = is_lost answer
is_over item.Broken answer = is_lost answer
is_over (item.Order c) answer = is_lost answer
is_over item.Stop answer = is_lost answer

abbrev pub unless_over : Bool → Phase → Phase
unless_over over p = if over then Unconnected else p

-- the connection that is left; it is closed where it is cut off
abbrev pub kept_connection : Phase → Latest → Latest
kept_connection Unconnected connection = closed connection
kept_connection AwaitsInit connection = connection
kept_connection Open connection = connection
