-- What removes and forwards HTLCs comes from the book.
use Rattle.std.proofs.Common.{◌≡◌, ◌||◌, ◌∷◌, [], List, ℕ, Option, Bool, true, false, Result, refl, ap}
use Rattle.ln_msgs.specs.declared.messages.message.Message.{Message}
use Rattle.ln_refusals.specs.declared.refusal.Refusal.{Refusal}
use Rattle.ln_hooks.specs.declared.event.ChannelEvent.{ChannelEvent}
use Rattle.ln_channel.specs.declared.command.Command.{Command}
use Rattle.ln_channel.specs.declared.output.Output.{Output}
use Rattle.ln_channel.specs.Step.{is_of_records}
use Rattle.ln_book.specs.declared.switch.saying.Saying.{Saying}
use Rattle.ln_book.specs.Alone.{is_books}
use Rattle.ln_book.specs.Seen.{Seen}
use Rattle.ln_node_loops.specs.Act.{Act}
use Rattle.ln_node_loops.specs.Reserved.{is_reserved}
use Rattle.ln_node_loops.specs.Turns.{Turn, Serves, Passes, Obeys, Loads, StaysHalted, Rests, OfBook, OfUser, OfWorker}
use Rattle.ln_node_loops.specs.Turns.{Giver, MayGive, Stand, Leads, News, RemoveByBookAlone}
use Rattle.ln_node_loops.specs.declared.features.PeerFeatures.{PeerFeatures}

later : (a b : Bool) → (a || b) ≡ false → b ≡ false
later true b e = absurd (cc e)
later false b e = e

-- what isn't reserved for the book removes and forwards nothing
unreserved : (c : Command) → is_reserved c ≡ false → is_books c ≡ false
unreserved c e = later (is_of_records c) (is_books c) e

module _ {S : Type 0} (owes : S → Bool) where
  by-book : (s : S) (by : Giver) (c : Command) → MayGive owes s by c → is_books c ≡ true → by ≡ OfBook
  by-book s OfBook c may e = refl
  by-book s OfUser c may e = absurd (cc (unreserved c may, e))
  by-book s OfWorker c may e = absurd (cc (ap is_books may.0, e))

module _ {S W : Type 0} (acts : S → Act → Result (List Output) Refusal → S → Type 0) (halted : S → Bool)
    (pending : S → List (ℕ × ChannelEvent)) (owes : S → Bool) (seen : S → Option Seen) (contents : W → Option (List ℕ))
    (own_init : Message) (peer : PeerFeatures) where
  pub by-book-all : (tried : Bool) (s : Stand S) (ts : List (Turn W)) (words : List Saying) (news : List News)
      (s' : Stand S) → Leads acts halted pending owes seen contents own_init peer tried s ts words news s'
      → RemoveByBookAlone ts
  by-book-all tried s [] words news s' l = tt
  by-book-all tried s (Serves i os a ∷ ts) words news s' l = by-book-all false l.0 ts l.1 l.2 s' l.7
  by-book-all tried s (Passes i ∷ ts) words news s' l = by-book-all false l.0 ts l.1 l.2 s' l.7
  by-book-all tried s (Obeys by c os a w ∷ ts) words news s' l =
      (by-book owes s.end by c l.3.0, by-book-all false l.0 ts l.1 l.2 s' l.7)
  by-book-all tried s (Loads es ∷ ts) words news s' l = by-book-all true l.0 ts l.1 l.2 s' l.7
  by-book-all tried s (StaysHalted r ∷ ts) words news s' l = by-book-all true l.0 ts l.1 l.2 s' l.7
  by-book-all tried s (Rests allowed ∷ ts) words news s' l = by-book-all false l.0 ts l.1 l.2 s' l.7
