-- Where a node stops after an act of its end, that end is as the act leaves it, and then the node's ends come back.
-- Where the end halts after its act, it is as the act leaves it, and then halts.
use Rattle.std.proofs.Common.{◌≡◌, ℕ, List, [], ◌∷◌, refl, sym, ap, ◌∙◌, subst, Bool, true, false, cond, ◌==◌}
use Rattle.std.proofs.Common.{Option, Some, None}
use Rattle.ln_msgs.specs.declared.messages.message.Message.{Message}
use Rattle.ln_keys.specs.declared.role.Role.{Role}
use Rattle.ln_keys.specs.declared.role.Role.TheVariants.{Funder, Fundee}
use Rattle.ln_keys.specs.Signer.{Signer}
use Rattle.ln_world_channels.specs.declared.step.Act.{Act}
use Rattle.ln_world_channels.specs.declared.step.Act.TheVariants as act
use Rattle.ln_world_channels.specs.declared.step.End.{End}
use Rattle.ln_world_channels.specs.Settings.{channel_id_of}
use Rattle.ln_world_channels.specs.Both.{Both, SimEnd, By, Halts, Restarts, Stops, HaltsAfter, moves, swapped, delivers}
use Rattle.ln_world_channels.specs.Both.{acts, halted, restarted, delivered_unheard, unheard}
use Rattle.ln_world_channels.specs.Both.{run as run_both}
use Rattle.ln_world_channels.specs.WorldChannel.{WorldChannel, by, side_of, place_of, moved, restart_moves, stop_moves}
use Rattle.ln_world_channels.specs.WorldChannel.{halt_moves, halt_after_moves, side_unheard, acted_unheard}
use Rattle.ln_world_channels.specs.World.{all_moved, moved_at, moved_if, changed_if, unheard_at}
use Rattle.ln_world_channels.specs.Failing.{LinkLacks}

module _ {K : Type 0} (signer : K → Signer) where
  -- ---- an act, told of its end alone

  delivered_so : (id : List ℕ) (ms : List Message) (p : Both K)
      → (delivers signer id ms p).x ≡ delivered_unheard signer ms p.x
  delivered_so id [] p = refl
  delivered_so id (m ∷ ms) p = refl

  unheard_so : (id : List ℕ) (a : Act) (p : Both K) → (acts signer id a p).x ≡ unheard signer a p.x
  unheard_so id act.Deliver p = delivered_so id p.x.inbox p
  unheard_so id (act.Send c) p = refl

  -- it lacks a record where it lacks one after the act
  pub lacks_acted : (side : Role) (id : List ℕ) (a : Act) (p : Both K)
      → LinkLacks (unheard signer a (place_of side p)).link
      → LinkLacks (place_of side (moves signer id (By side a) p)).link
  unfolding moves
  lacks_acted Funder id a p lacks = subst (λ (x : SimEnd K). LinkLacks x.link) (sym (unheard_so id a p)) lacks
  lacks_acted Fundee id a p lacks = subst (λ (x : SimEnd K). LinkLacks x.link) (sym (unheard_so id a (swapped p))) lacks

  -- ---- the node's end comes back from what the act has saved

  abbrev as_both : SimEnd K → SimEnd K → Both K
  as_both x y = record { x = x; y = y }

  both_stopped : (id : List ℕ) (a : Act) (o : Option Role) (p : Both K)
      → run_both signer id (by o Restarts) (side_unheard signer a o p)
      ≡ run_both signer id (by o (λ side. Stops side a)) p
  unfolding moves
  both_stopped id a None p = refl
  both_stopped id a (Some Funder) p =
      ap (λ (x : SimEnd K). as_both (restarted x) p.y) (sym (unheard_so id a p))
  both_stopped id a (Some Fundee) p =
      ap (λ (y : SimEnd K). as_both p.x (restarted y)) (sym (unheard_so id a (swapped p)))

  one_stopped : (e : End) (a : Act) (b : Bool) (c : WorldChannel K)
      → moved signer (restart_moves e.node) (cond b (acted_unheard signer e.node a c) c)
      ≡ record {
        number = c.number;
        funder = c.funder;
        fundee = c.fundee;
        both = run_both signer (channel_id_of c.number)
            (cond b (by (side_of e.node c) (λ side. Stops side a)) (restart_moves e.node c)) c.both;
      }
  one_stopped e a false c = refl
  one_stopped e a true c =
      ap (λ p. record { number = c.number; funder = c.funder; fundee = c.fundee; both = p })
      (both_stopped (channel_id_of c.number) a (side_of e.node c) c.both)

  pub all_stopped : (e : End) (a : Act) (cs : List (WorldChannel K))
      → all_moved signer (restart_moves e.node) (unheard_at signer e a cs) ≡ all_moved signer (stop_moves e a) cs
  all_stopped e a [] = refl
  all_stopped e a (c ∷ cs) =
      ap (λ d. d ∷ all_moved signer (restart_moves e.node) (unheard_at signer e a cs))
      (one_stopped e a (c.number == e.channel) c)
      ∙ ap (λ ds. moved signer (stop_moves e a) c ∷ ds) (all_stopped e a cs)

  -- ---- the end halts as the act leaves it

  both_halted : (id : List ℕ) (a : Act) (o : Option Role) (p : Both K)
      → run_both signer id (by o Halts) (side_unheard signer a o p)
      ≡ run_both signer id (by o (λ side. HaltsAfter side a)) p
  unfolding moves
  both_halted id a None p = refl
  both_halted id a (Some Funder) p =
      ap (λ (x : SimEnd K). as_both (halted x) p.y) (sym (unheard_so id a p))
  both_halted id a (Some Fundee) p =
      ap (λ (y : SimEnd K). as_both p.x (halted y)) (sym (unheard_so id a (swapped p)))

  one_halted : (e : End) (a : Act) (b : Bool) (c : WorldChannel K)
      → cond b (moved signer (halt_moves e.node) (cond b (acted_unheard signer e.node a c) c))
      (cond b (acted_unheard signer e.node a c) c)
      ≡ cond b (moved signer (halt_after_moves e.node a) c) c
  one_halted e a false c = refl
  one_halted e a true c =
      ap (λ p. record { number = c.number; funder = c.funder; fundee = c.fundee; both = p })
      (both_halted (channel_id_of c.number) a (side_of e.node c) c.both)

  same_number : (e : End) (a : Act) (b : Bool) (c : WorldChannel K)
      → (cond b (acted_unheard signer e.node a c) c).number ≡ c.number
  same_number e a true c = refl
  same_number e a false c = refl

  one_halted_if : (e : End) (a : Act) (c : WorldChannel K)
      → moved_if signer e.channel (halt_moves e.node) (changed_if e.channel (acted_unheard signer e.node a) c)
      ≡ moved_if signer e.channel (halt_after_moves e.node a) c
  one_halted_if e a c =
      let d = changed_if e.channel (acted_unheard signer e.node a) c in
      ap (λ n. cond (n == e.channel) (moved signer (halt_moves e.node) d) d)
      (same_number e a (c.number == e.channel) c)
      ∙ one_halted e a (c.number == e.channel) c

  pub halted_there : (e : End) (a : Act) (cs : List (WorldChannel K))
      → moved_at signer e.channel (halt_moves e.node) (unheard_at signer e a cs)
      ≡ moved_at signer e.channel (halt_after_moves e.node a) cs
  halted_there e a [] = refl
  halted_there e a (c ∷ cs) =
      ap (λ d. d ∷ moved_at signer e.channel (halt_moves e.node) (unheard_at signer e a cs)) (one_halted_if e a c)
      ∙ ap (λ ds. moved_if signer e.channel (halt_after_moves e.node a) c ∷ ds) (halted_there e a cs)
