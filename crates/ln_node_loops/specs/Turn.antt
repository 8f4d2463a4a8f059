-- One turn of a worker: what an item makes of an end of a channel, and what is written for it.
use Rattle.std.specs.Prelude.{◌≡◌, ◌⊎◌, ◌<◌, List, [], ◌∷◌, length, Result, Ok, Err, Bool, true, false}
use Rattle.ln_msgs.specs.declared.messages.message.Message.{Message}
use Rattle.ln_refusals.specs.declared.refusal.Refusal.{Refusal}
use Rattle.ln_refusals.specs.declared.refusal.Refusal.TheVariants as refusal
use Rattle.ln_msgs.specs.Codec.Writing.{CanBeWritten}
use Rattle.ln_msgs.specs.Messages.Message.{Wire, wire_bytes}
use Rattle.ln_msgs.specs.Messages.Typed.{wire}
use Rattle.ln_channel.specs.declared.command.Command.{Command}
use Rattle.ln_channel.specs.declared.output.Output.{Output}
use Rattle.ln_node_loops.specs.Reserved.{is_reserved}
use Rattle.ln_node_loops.specs.declared.item.Item.{Item}
use Rattle.ln_node_loops.specs.declared.item.Item.TheVariants as item
use Rattle.ln_node_loops.specs.declared.kind.Kind.{Kind}
use Rattle.ln_node_loops.specs.declared.kind.Kind.TheVariants.{OfConnection, Ping, OfFailure, OfChannel}
use Rattle.ln_node_loops.specs.Kind.{kind_of}
use Rattle.ln_node_loops.specs.Connection.{Latest, Wrote, Broke}
use Rattle.ln_node_loops.specs.Act.{Act, Handles, Obeys, Connects, Drops}
use Rattle.ln_node_loops.specs.Sent.{frames_of, outputs_of, answer_of, sent, sent_for, pongs}

-- ---- what is written

-- a message that can't be sent: it is of more than 65,535 bytes, or its records may not follow its fields
abbrev pub IsUnsendable : Wire → Type 0
IsUnsendable w = (65535 < length (wire_bytes w)) ⊎ (CanBeWritten w → ⊥)

-- one of these messages is such
abbrev pub HasUnsendable : List Wire → Type 0
HasUnsendable [] = ⊥
HasUnsendable (w ∷ ws) = IsUnsendable w ⊎ HasUnsendable ws

-- why none of these messages is written: there is no memory for all of them, or one can't be sent
abbrev pub SendsNone : List Wire → Refusal → Type 0
SendsNone ws r = (r ≡ refusal.Memory) ⊎ ((r ≡ refusal.TooLong) × HasUnsendable ws)

-- Why not all of these messages were written, and what was: by 60 or 7 nothing, as they are gathered first; by 63 a
-- prefix, as a call of the writer failed.
abbrev pub Lost : List Wire → Refusal → Latest → Latest → Type 0
Lost ws r before after =
    (SendsNone ws r × (after ≡ before)) ⊎ ((r ≡ refusal.Io) × Broke before after (frames_of ws))

-- all of these messages were written, or not
abbrev pub Goes : List Wire → Result (Unit {0}) Refusal → Latest → Latest → Type 0
Goes ws (Ok u) before after = Wrote before after (frames_of ws)
Goes ws (Err r) before after = Lost ws r before after

-- all of the messages were written, and the turn answers so; or not, and it answers why
abbrev pub Writes : List Wire → Result (Unit {0}) Refusal → Result (Unit {0}) Refusal → Latest → Latest
    → Type 0
Writes ws said answer before after =
    ((answer ≡ said) × Wrote before after (frames_of ws))
    ⊎ ((r : Refusal) × (answer ≡ Err r) × Lost ws r before after)

-- ---- what becomes of an end

module _ {S : Type 0} (acts : S → Act → Result (List Output) Refusal → S → Type 0) where
  -- nothing becomes of it, and nothing is handed out
  abbrev pub Rests : S → Result (List Output) Refusal → S → Type 0
  Rests s said s' = (said ≡ Ok []) × (s' ≡ s)

  -- a message of a channel is handed to it, and what the peer tells of a failure
  abbrev pub HearsOf : Kind → S → Message → Result (List Output) Refusal → S → Type 0
  HearsOf OfConnection s m said s' = Rests s said s'
  HearsOf (Ping n) s m said s' = Rests s said s'
  HearsOf OfFailure s m said s' = acts s (Handles m) said s'
  HearsOf (OfChannel id) s m said s' = acts s (Handles m) said s'

  -- what is reserved for the book isn't ordered (40)
  abbrev pub ObeysOrder : Bool → S → Command → Result (List Output) Refusal → S → Type 0
  ObeysOrder true s c said s' = (said ≡ Err refusal.NotReady) × (s' ≡ s)
  ObeysOrder false s c said s' = acts s (Obeys c) said s'

  abbrev pub Serves : {J : Type 0} → S → Item J → Result (List Output) Refusal → S → Type 0
  Serves s (item.Joined j) said s' = acts s Connects said s'
  Serves s (item.Read m) said s' = HearsOf (kind_of m) s m said s'
  Serves s item.Broken said s' = (said ≡ Ok []) × acts s Drops said s'
  Serves s (item.Order c) said s' = ObeysOrder (is_reserved c) s c said s'
  Serves s item.Stop said s' = Rests s said s'

-- ---- what is sent

-- after what the peer tells of a failure a refusal isn't told to it (BOLT 1, "The error and warning Messages")
abbrev pub due_for : Kind → Result (List Output) Refusal → List Wire
due_for OfConnection said = []
due_for (Ping n) said = pongs n
due_for OfFailure said = sent (outputs_of said)
due_for (OfChannel id) said = sent_for id said

-- the messages that are sent for an item; a connection is greeted first
abbrev pub due : Item Message → Result (List Output) Refusal → List Wire
due (item.Joined own_init) said = wire own_init ∷ sent (outputs_of said)
due (item.Read m) said = due_for (kind_of m) said
due item.Broken said = []
due (item.Order c) said = sent (outputs_of said)
due item.Stop said = []

-- ---- a turn

module _ {S : Type 0} (acts : S → Act → Result (List Output) Refusal → S → Type 0) where
  -- an item makes this of an end, these outputs are handed out, all of them, and their messages are written
  pub record IsTurn (s : S) (i : Item Message) (outputs : List Output) (answer : Result (Unit {0}) Refusal) (s' : S)
      (before after : Latest) : Type 0 where
    pub said : Result (List Output) Refusal
    pub serves : Serves acts s i said s'
    pub hands_out : outputs ≡ outputs_of said
    pub writes : Writes (due i said) (answer_of said) answer before after

  -- A command of the book: the end obeys it and answers so, these outputs are handed out, and their messages go out so.
  pub record IsObeyed (s : S) (c : Command) (outputs : List Output) (answer written : Result (Unit {0}) Refusal)
      (s' : S) (before after : Latest) : Type 0 where
    pub said : Result (List Output) Refusal
    pub obeys : acts s (Obeys c) said s'
    pub hands_out : outputs ≡ outputs_of said
    pub answers : answer ≡ answer_of said
    pub goes : Goes (sent (outputs_of said)) written before after
