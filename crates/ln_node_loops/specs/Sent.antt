-- What a worker sends for an item.
use Rattle.std.specs.Prelude.{ℕ, List, [], ◌∷◌}
use Rattle.std.specs.Prelude.{Result, Ok, Err, option_to_list, if◌then◌else◌, nat_lt}
use Rattle.std.specs.List.{flat_map}
use Rattle.std.specs.Borrow.{Bor}
use Rattle.ln_msgs.specs.declared.messages.message.Message.{Message}
use Rattle.ln_refusals.specs.declared.refusal.Refusal.{Refusal}
use Rattle.ln_msgs.specs.Frames.Frame.{frame}
use Rattle.ln_msgs.specs.Messages.Message.{Wire, wire_bytes}
use Rattle.ln_msgs.specs.Messages.Typed.{wire}
use Rattle.ln_msgs.specs.Pings.Answer.{pong}
use Rattle.ln_msgs.specs.Messages.Reply.{reply_to}
use Rattle.ln_channel.specs.declared.output.Output.{Output}
use Rattle.ln_channel.specs.declared.output.Output.TheVariants as output
use Rattle.ln_node_loops.specs.declared.item.Item.{Item}
use Rattle.ln_node_loops.specs.declared.item.Item.TheVariants as item

-- the frame of a message
unfoldable pub frame_of : Wire → List ℕ
frame_of w = frame (wire_bytes w)

-- the frames of messages, in their order
abbrev pub frames_of : List Wire → List ℕ
frames_of ws = flat_map frame_of ws

-- an answer by its list
abbrev pub listed : {V A E : Type 0} → (V → List A) → Result V E → Result (List A) E
listed items (Ok v) = Ok (items v)
listed items (Err e) = Err e

-- the outputs of an answer; none where it is refused
abbrev pub outputs_of : Result (List Output) Refusal → List Output
outputs_of (Ok os) = os
outputs_of (Err e) = []

abbrev pub answer_of : Result (List Output) Refusal → Result (Unit {0}) Refusal
answer_of (Ok os) = Ok tt
answer_of (Err e) = Err e

-- one that hands out nothing
abbrev pub loaded : Result (Unit {0}) Refusal → Result (List Output) Refusal
loaded (Ok u) = Ok []
loaded (Err e) = Err e

-- the messages among outputs, in their order
abbrev pub sent : List Output → List Wire
sent [] = []
sent (output.Send m ∷ os) = wire m ∷ sent os
sent (output.Signed n ∷ os) = sent os
sent (output.Committed own peer ∷ os) = sent os
sent (output.Event n e ∷ os) = sent os
sent (output.Closed fee ∷ os) = sent os

-- what is sent for an answer to a message with this channel's id: what the link sends, or how its peer is told that the
-- message is refused (BOLT 1, "The error and warning Messages")
abbrev pub sent_for : List ℕ → Result (List Output) Refusal → List Wire
sent_for id (Ok os) = sent os
sent_for id (Err r) = option_to_list (reply_to r id)

-- a ping's answer, where it asks for fewer than 65,532 bytes (BOLT 1, "The ping and pong Messages")
abbrev pub pongs : ℕ → List Wire
pongs n = if nat_lt n 65532 then pong n ∷ [] else []

-- an item with what is after a reference
abbrev pub shown : Item (Bor Message) → Item Message
shown (item.Joined g) = item.Joined g.now
shown (item.Read m) = item.Read m
shown item.Broken = item.Broken
shown (item.Order c) = item.Order c
shown item.Stop = item.Stop
