-- What is replied to those who order a channel's end to do something.
use Rattle.std.specs.Prelude.{◌≡◌, ◌⊎◌, ℕ, List, [], ◌∷◌, Option, Some, None, Result, Ok, Err, true, false, ⊤}
use Rattle.ln_refusals.specs.declared.refusal.Refusal.{Refusal}
use Rattle.ln_refusals.specs.declared.refusal.Refusal.TheVariants as refusal
use Rattle.ln_channel.specs.declared.command.Command.{Command}
use Rattle.ln_channel.specs.declared.output.Output.{Output}
use Rattle.ln_book.specs.Answers.{command_subject}
use Rattle.ln_book.specs.Seen.{Seen, next_htlc}
use Rattle.ln_node_loops.specs.Reserved.{is_reserved}
use Rattle.ln_node_loops.specs.Act.{Act, Obeys}
use Rattle.ln_node_loops.specs.Sent.{answer_of}
use Rattle.ln_node_loops.specs.declared.item.Item.{Item}
use Rattle.ln_node_loops.specs.declared.item.Item.TheVariants as item

-- the id of the HTLC that an order is about, 0 where it is about none; or by what the end has refused it
abbrev pub Reply : Type 0
Reply = Result ℕ Refusal

-- what an order is about, by the id of the next HTLC; other items are none
abbrev pub subject_in : {J : Type 0} → ℕ → Item J → Option ℕ
subject_in next (item.Joined j) = None
subject_in next (item.Read m) = None
subject_in next item.Broken = None
subject_in next (item.Order c) = Some (command_subject next c)
subject_in next item.Stop = None

abbrev pub reply_of : ℕ → Result (Unit {0}) Refusal → Reply
reply_of id (Ok u) = Ok id
reply_of id (Err r) = Err r

-- one reply to an order, and none to another item
abbrev pub replies_to : Option ℕ → Result (Unit {0}) Refusal → List Reply
replies_to None a = []
replies_to (Some id) a = reply_of id a ∷ []

-- the orders among items
abbrev pub orders_in : {J : Type 0} → List (Item J) → List Command
orders_in [] = []
orders_in (item.Joined j ∷ is) = orders_in is
orders_in (item.Read m ∷ is) = orders_in is
orders_in (item.Broken ∷ is) = orders_in is
orders_in (item.Order c ∷ is) = c ∷ orders_in is
orders_in (item.Stop ∷ is) = orders_in is

module _ {S : Type 0} (acts : S → Act → Result (List Output) Refusal → S → Type 0) (seen : S → Option Seen) where
  -- the reply to an order: 40 where it is reserved for the book, else by what an end has answered to it
  abbrev pub IsReplyTo : Command → Reply → Type 0
  IsReplyTo c r =
      ((is_reserved c ≡ true) × (r ≡ Err refusal.NotReady))
      ⊎ ((before : S) × (said : Result (List Output) Refusal) × (after : S) × (is_reserved c ≡ false)
      × acts before (Obeys c) said after
      × (r ≡ reply_of (command_subject (next_htlc (seen before)) c) (answer_of said)))

  -- one reply to each of these orders, in their order
  abbrev pub AreRepliesTo : List Command → List Reply → Type 0
  AreRepliesTo [] [] = ⊤
  AreRepliesTo [] (r ∷ rs) = ⊥
  AreRepliesTo (c ∷ cs) [] = ⊥
  AreRepliesTo (c ∷ cs) (r ∷ rs) = IsReplyTo c r × AreRepliesTo cs rs
