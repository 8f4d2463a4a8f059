-- Each order is replied to.
use Rattle.std.proofs.Common.{◌≡◌, ◌++◌, ◌∷◌, [], ℕ, List, Option, Bool, Result}
use Rattle.std.proofs.Common.{refl, sym, ap, ◌∙◌, subst, inl, inr}
use Rattle.ln_msgs.specs.declared.messages.message.Message.{Message}
use Rattle.ln_refusals.specs.declared.refusal.Refusal.{Refusal}
use Rattle.ln_hooks.specs.declared.event.ChannelEvent.{ChannelEvent}
use Rattle.ln_channel.specs.declared.command.Command.{Command}
use Rattle.ln_channel.specs.declared.output.Output.{Output}
use Rattle.ln_book.specs.declared.switch.saying.Saying.{Saying}
use Rattle.ln_book.specs.Answers.{command_subject}
use Rattle.ln_book.specs.Seen.{Seen, next_htlc}
use Rattle.ln_node_loops.specs.declared.features.PeerFeatures.{PeerFeatures}
use Rattle.ln_node_loops.specs.declared.item.Item.{Item}
use Rattle.ln_node_loops.specs.declared.item.Item.TheVariants as item
use Rattle.ln_node_loops.specs.Act.{Act}
use Rattle.ln_node_loops.specs.Orders.{Reply, reply_of, orders_in, AreRepliesTo}
use Rattle.ln_node_loops.specs.Turns.{Turn, Serves, Passes, Obeys, Loads, StaysHalted, Rests, OfBook, OfUser, OfWorker}
use Rattle.ln_node_loops.specs.Turns.{Stand, Step, Leads, News, items_of, is_load, replies, replies_in}
use Rattle.ln_node_loops.proofs.Running.{items-append}

orders-append : {W : Type 0} (is js : List (Item W)) → orders_in (is ++ js) ≡ orders_in is ++ orders_in js
orders-append [] js = refl
orders-append (item.Joined w ∷ is) js = orders-append is js
orders-append (item.Read m ∷ is) js = orders-append is js
orders-append (item.Broken ∷ is) js = orders-append is js
orders-append (item.Order c ∷ is) js = ap (λ l. c ∷ l) (orders-append is js)
orders-append (item.Stop ∷ is) js = orders-append is js

-- one turn more
orders-first : {W : Type 0} (t : Turn W) (ts : List (Turn W))
    → orders_in (items_of (t ∷ ts)) ≡ orders_in (items_of (t ∷ [])) ++ orders_in (items_of ts)
orders-first t ts =
    ap orders_in (items-append (t ∷ []) ts) ∙ orders-append (items_of (t ∷ [])) (items_of ts)

module _ {S : Type 0} (acts : S → Act → Result (List Output) Refusal → S → Type 0) (seen : S → Option Seen) where
  replies-append : (cs ds : List Command) (rs ss : List Reply) → AreRepliesTo acts seen cs rs
      → AreRepliesTo acts seen ds ss → AreRepliesTo acts seen (cs ++ ds) (rs ++ ss)
  replies-append [] ds [] ss one two = two
  replies-append [] ds (r ∷ rs) ss one two = elim one [ ]
  replies-append (c ∷ cs) ds [] ss one two = elim one [ ]
  replies-append (c ∷ cs) ds (r ∷ rs) ss one two = (one.0, replies-append cs ds rs ss one.1 two)

module _ {S W : Type 0} (acts : S → Act → Result (List Output) Refusal → S → Type 0) (halted : S → Bool)
    (pending : S → List (ℕ × ChannelEvent)) (owes : S → Bool) (seen : S → Option Seen) (contents : W → Option (List ℕ))
    (own_init : Message) (peer : PeerFeatures) where
  -- what is replied for a turn is so to its order
  replies-one : (s : Stand S) (t : Turn W) (s' : Stand S) → Step acts halted pending owes contents own_init peer s t s'
      → AreRepliesTo acts seen (orders_in (items_of (t ∷ []))) (replies seen s.end t)
  replies-one s (Serves (item.Joined w) os a) s' step = tt
  replies-one s (Serves (item.Read m) os a) s' step = tt
  replies-one s (Serves item.Broken os a) s' step = tt
  replies-one s (Serves (item.Order c) os a) s' step = absurd (cc step.0)
  replies-one s (Serves item.Stop os a) s' step = tt
  replies-one s (Passes (item.Joined w)) s' step = tt
  replies-one s (Passes (item.Read m)) s' step = tt
  replies-one s (Passes item.Broken) s' step = tt
  replies-one s (Passes (item.Order c)) s' step = (inl (step.2.0, refl), tt)
  replies-one s (Passes item.Stop) s' step = tt
  replies-one s (Obeys OfBook c os a w) s' step = tt
  replies-one s (Obeys OfUser c os a w) s' step = (
    inr (
      s.end,
      step.2.said,
      s'.end,
      step.0,
      step.2.obeys,
      ap (λ b. reply_of (command_subject (next_htlc (seen s.end)) c) b) step.2.answers,
    ),
    tt,
  )
  replies-one s (Obeys OfWorker c os a w) s' step = tt
  replies-one s (Loads es) s' step = tt
  replies-one s (StaysHalted r) s' step = tt
  replies-one s (Rests allowed) s' step = tt

  pub replies-all : (tried : Bool) (s : Stand S) (ts : List (Turn W)) (words : List Saying) (news : List News)
      (s' : Stand S) → Leads acts halted pending owes seen contents own_init peer tried s ts words news s'
      → AreRepliesTo acts seen (orders_in (items_of ts)) (replies_in news)
  replies-all tried s [] words news s' l = subst (λ n. AreRepliesTo acts seen [] (replies_in n)) (sym l.2) tt
  replies-all tried s (t ∷ ts) words news s' l =
      subst (λ n. AreRepliesTo acts seen (orders_in (items_of (t ∷ ts))) (replies_in n)) (sym l.6)
      (subst (λ cs. AreRepliesTo acts seen cs (replies seen s.end t ++ replies_in l.2)) (sym (orders-first t ts))
      (replies-append acts seen (orders_in (items_of (t ∷ []))) (orders_in (items_of ts)) (replies seen s.end t)
      (replies_in l.2) (replies-one s t l.0 l.3) (replies-all (is_load t) l.0 ts l.1 l.2 s' l.7)))
