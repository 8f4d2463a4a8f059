-- No turn writes anything after the connection was cut off.
use Rattle.std.specs.Prelude.{◌≡◌, ◌||◌, ℕ, List, [], ◌∷◌, Option, Result, Bool, true, false}
use Rattle.std.proofs.Common.{refl, sym, ap, ◌∙◌, subst}
use Rattle.ln_msgs.specs.declared.messages.message.Message.{Message}
use Rattle.ln_refusals.specs.declared.refusal.Refusal.{Refusal}
use Rattle.ln_hooks.specs.declared.event.ChannelEvent.{ChannelEvent}
use Rattle.ln_channel.specs.declared.output.Output.{Output}
use Rattle.ln_book.specs.declared.switch.saying.Saying.{Saying}
use Rattle.ln_book.specs.Seen.{Seen}
use Rattle.ln_node_loops.specs.declared.features.PeerFeatures.{PeerFeatures}
use Rattle.ln_node_loops.specs.declared.item.Item.{Item}
use Rattle.ln_node_loops.specs.declared.item.Item.TheVariants as item
use Rattle.ln_node_loops.specs.declared.worker.Phase.{Phase}
use Rattle.ln_node_loops.specs.declared.worker.Phase.TheVariants.{Unconnected}
use Rattle.ln_node_loops.specs.Act.{Act}
use Rattle.ln_node_loops.specs.Connection.{Latest, NoneYet, Open, Closed, is_open, closed}
use Rattle.ln_node_loops.specs.Phase.{PassesOver, Hears, begun, unless_over, kept_connection, is_over, is_lost}
use Rattle.ln_node_loops.specs.Turns.{Turn, Serves, Passes, Obeys, Loads, StaysHalted, Rests, Stand, Step, Leads}
use Rattle.ln_node_loops.specs.Turns.{OfBook, OfUser, OfWorker, News, IsCutOff, cuts_off, is_joined, JoinNone, is_load}
use Rattle.ln_node_loops.specs.Turns.{items_of}

stays_over : (over : Bool) (p : Phase) → p ≡ Unconnected → unless_over over p ≡ Unconnected
stays_over true p is = refl
stays_over false p is = is

begun_cut : {W : Type 0} (i : Item W) (p : Phase) → is_joined i ≡ false → p ≡ Unconnected → begun p i ≡ Unconnected
begun_cut (item.Joined w) p none is = cc
begun_cut (item.Read m) p none is = is
begun_cut item.Broken p none is = refl
begun_cut (item.Order c) p none is = is
begun_cut item.Stop p none is = is

passed_cut : {W : Type 0} (peer : PeerFeatures) (i : Item W) (p p' : Phase) → p ≡ Unconnected → PassesOver peer p i p'
    → p' ≡ Unconnected
passed_cut peer (item.Joined w) p p' is over = over ∙ is
passed_cut peer (item.Read m) p p' is over = subst (λ q. Hears peer q m p') is over
passed_cut peer item.Broken p p' is over = over ∙ is
passed_cut peer (item.Order c) p p' is over = over.1 ∙ is
passed_cut peer item.Stop p p' is over = over ∙ is

none_open : (connection : Latest) → is_open (closed connection) ≡ false
none_open NoneYet = refl
none_open (Open l) = refl
none_open Closed = refl

closed_off : (connection connection' : Latest) → connection' ≡ closed connection → is_open connection' ≡ false
closed_off connection connection' is = ap is_open is ∙ none_open connection

cut_off : {S : Type 0} (s : Stand S) (p : Phase) (connection : Latest) → p ≡ Unconnected → s.phase ≡ p
    → s.connection ≡ kept_connection s.phase connection → IsCutOff s
cut_off s p connection is at left =
    (at ∙ is, closed_off connection s.connection (left ∙ ap (λ q. kept_connection q connection) (at ∙ is)))

joins_first : {W : Type 0} (t : Turn W) (ts : List (Turn W)) → JoinNone (items_of (t ∷ ts))
    → JoinNone (items_of (t ∷ []))
joins_first (Serves i os a) ts none = (none.0, tt)
joins_first (Passes i) ts none = (none.0, tt)
joins_first (Obeys OfBook c os a w) ts none = tt
joins_first (Obeys OfUser c os a w) ts none = (none.0, tt)
joins_first (Obeys OfWorker c os a w) ts none = tt
joins_first (Loads es) ts none = tt
joins_first (StaysHalted r) ts none = tt
joins_first (Rests allowed) ts none = tt

joins_rest : {W : Type 0} (t : Turn W) (ts : List (Turn W)) → JoinNone (items_of (t ∷ ts)) → JoinNone (items_of ts)
joins_rest (Serves i os a) ts none = none.1
joins_rest (Passes i) ts none = none.1
joins_rest (Obeys OfBook c os a w) ts none = none
joins_rest (Obeys OfUser c os a w) ts none = none.1
joins_rest (Obeys OfWorker c os a w) ts none = none
joins_rest (Loads es) ts none = none
joins_rest (StaysHalted r) ts none = none
joins_rest (Rests allowed) ts none = none

module _ {S W : Type 0} (acts : S → Act → Result (List Output) Refusal → S → Type 0) (halted : S → Bool)
    (pending : S → List (ℕ × ChannelEvent)) (owes : S → Bool) (contents : W → Option (List ℕ)) (own_init : Message)
    (peer : PeerFeatures) where
  -- a turn that cuts it off
  pub is_cut : (s : Stand S) (t : Turn W) (s' : Stand S) → cuts_off t ≡ true
      → Step acts halted pending owes contents own_init peer s t s' → IsCutOff s'
  is_cut s (Serves i os a) s' cuts step =
      cut_off s' (unless_over (is_over i a || halted s'.end) (begun s.phase i)) step.1
      (ap (λ b. unless_over (b || halted s'.end) (begun s.phase i)) cuts) step.3.0 step.3.1
  is_cut s (Passes i) s' cuts step = absurd cc
  is_cut s (Obeys by c os a w) s' cuts step =
      cut_off s' (unless_over (is_lost w || halted s'.end) s.phase) step.1
      (ap (λ b. unless_over (b || halted s'.end) s.phase) cuts) step.3.0 step.3.1
  is_cut s (Loads es) s' cuts step = (step.3, closed_off s.connection s'.connection step.4)
  is_cut s (StaysHalted r) s' cuts step = absurd cc
  is_cut s (Rests allowed) s' cuts step = absurd cc

  -- a turn after it was
  still_cut : (s : Stand S) (t : Turn W) (s' : Stand S) → JoinNone (items_of (t ∷ [])) → IsCutOff s
      → Step acts halted pending owes contents own_init peer s t s' → IsCutOff s'
  still_cut s (Serves i os a) s' none is step =
      cut_off s' (unless_over (is_over i a || halted s'.end) (begun s.phase i)) step.1
      (stays_over (is_over i a || halted s'.end) (begun s.phase i) (begun_cut i s.phase none.0 is.0)) step.3.0 step.3.1
  still_cut s (Passes i) s' none is step =
      cut_off s' s'.phase s.connection (passed_cut peer i s.phase s'.phase is.0 step.2) refl step.3
  still_cut s (Obeys by c os a w) s' none is step =
      cut_off s' (unless_over (is_lost w || halted s'.end) s.phase) step.1
      (stays_over (is_lost w || halted s'.end) s.phase is.0) step.3.0 step.3.1
  still_cut s (Loads es) s' none is step = (step.3, closed_off s.connection s'.connection step.4)
  still_cut s (StaysHalted r) s' none is step = (step.2 ∙ is.0, ap is_open step.3 ∙ is.1)
  still_cut s (Rests allowed) s' none is step = subst IsCutOff (sym step.1) is

module _ {S W : Type 0} (acts : S → Act → Result (List Output) Refusal → S → Type 0) (halted : S → Bool)
    (pending : S → List (ℕ × ChannelEvent)) (owes : S → Bool) (seen : S → Option Seen) (contents : W → Option (List ℕ))
    (own_init : Message) (peer : PeerFeatures) where
  pub stays_cut : (tried : Bool) (s : Stand S) (ts : List (Turn W)) (words : List Saying) (news : List News)
      (s' : Stand S) → JoinNone (items_of ts) → IsCutOff s
      → Leads acts halted pending owes seen contents own_init peer tried s ts words news s' → IsCutOff s'
  stays_cut tried s [] words news s' none is same = subst IsCutOff (sym same.0) is
  stays_cut tried s (t ∷ ts) words news s' none is leads =
      stays_cut (is_load t) leads.0 ts leads.1 leads.2 s' (joins_rest t ts none)
      (still_cut acts halted pending owes contents own_init peer s t leads.0 (joins_first t ts none) is leads.3)
      leads.7
