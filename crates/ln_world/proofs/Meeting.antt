-- A new connection of a channel: no payment has a part in it.
use Rattle.std.proofs.Common.{◌≡◌, inl, inr, ℕ, List, [], ◌∷◌, refl, sym, ap, ◌∙◌, subst, Bool, true, false}
use Rattle.std.proofs.Common.{cond, ◌==◌, Option, Some, None}
use Rattle.std.specs.Prelude.{option_map}
use Rattle.std.proofs.lemmas.Bool.{eqb-true}
use Rattle.ln_keys.specs.declared.keys.ChannelKeys.{Ghosts}
use Rattle.ln_keys.specs.declared.role.Role.{Role}
use Rattle.ln_keys.specs.declared.role.Role.TheVariants.{Funder, Fundee}
use Rattle.ln_hooks.specs.declared.verdict.Verdict.{Verdict}
use Rattle.ln_channel.specs.Record.{saved_end}
use Rattle.ln_channel.specs.State.{State}
use Rattle.ln_world_channels.specs.declared.step.Node.{Node}
use Rattle.ln_world_channels.specs.Settings.{channel_id_of}
use Rattle.ln_world_channels.specs.Both.{Meet, moves, run as run_both}
use Rattle.ln_world_channels.specs.WorldChannel.{WorldChannel, place_of, side_of, moved, may_meet, up_moves}
use Rattle.ln_world_channels.specs.World.{channel, moved_if}
use Rattle.ln_world_channels.proofs.Kept.{IsOpen, up_kept}
use Rattle.ln_world_channels.proofs.Promised.{moved_so}
use Rattle.ln_world_dispatch.specs.World.{World as Dispatchers}
use Rattle.ln_world.specs.declared.node.NodeBook.{NodeBook}
use Rattle.ln_world.specs.declared.step.Step.TheVariants as step
use Rattle.ln_world.specs.Node.{node_at, changed}
use Rattle.ln_world.specs.Follow.{followed}
use Rattle.ln_world.specs.World.{World, happens, link_by, link_there, saved_of, met}
use Rattle.ln_payment_circuits.proofs.Shifts.{side_of as read_side}
use Rattle.ln_world.specs.Circuit.{has_halted}
use Rattle.ln_world.proofs.Anew.{small_all}
use Rattle.ln_world.proofs.Answering.{LinkIs}
use Rattle.ln_world.proofs.Ends.{IsLink, is_link}
use Rattle.ln_world.proofs.Moving.{greeted_is, met_x, met_y}
use Rattle.ln_world.proofs.Scene.{scene_of, link_in, now, elsewhere, there, same_number, each_found}
use Rattle.ln_world.proofs.Scene.{either}
use Rattle.ln_world.proofs.Books.{follow_alike, alike, alike_then, IsAlike}
use Rattle.ln_world.proofs.Same.{IsSame, same_paid, same_agrees, same_past}
use Rattle.ln_world.proofs.PendingCommands.{calm_alike}
use Rattle.ln_world.proofs.Wells.{IsWell, book_in, changed_alike}

-- two links at the same end
pub record Alike {K : Type 0} (a b : Option (State K)) : Type 0 where
  pub end : saved_of b ≡ saved_of a
  pub halted : has_halted b ≡ has_halted a

alike_link : {K : Type 0} (id : List ℕ) (s t : State K) (h : IsLink id s) → LinkIs t h.end h.halted
    → Alike (Some s) (Some t)
alike_link id s t h k = record {
  end = ap saved_end k.stage ∙ sym (ap (λ (z : State _). saved_end z.stage) h.link);
  halted = k.halted ∙ sym (ap (λ (z : State _). z.halted) h.link);
}

module _ {K : Type 0} (k : Ghosts K) (n : Node) (c : ℕ) (v : Verdict) (w : World K) (h : IsWell k n w) where
  abbrev cs : List (WorldChannel K)
  cs = w.dispatchers.channels.channels

  abbrev pub new : List (WorldChannel K)
  new = now k.signer n c up_moves cs

  meets : (x : WorldChannel K) → IsOpen k.signer x → (r : Role)
      → Alike (Some (place_of r x.both).link) (Some (place_of r
      (moves k.signer (channel_id_of x.number) Meet x.both)).link)
  meets x o Funder = let l = is_link k.signer (channel_id_of x.number) x.both o Funder in
      alike_link (channel_id_of x.number) x.both.x.link (moves k.signer (channel_id_of x.number) Meet x.both).x.link l
      (subst (λ z. LinkIs z l.end l.halted) (sym (met_x k.signer (channel_id_of x.number) x.both))
      (greeted_is (channel_id_of x.number) x.both.x.link l k.signer))
  meets x o Fundee = let l = is_link k.signer (channel_id_of x.number) x.both o Fundee in
      alike_link (channel_id_of x.number) x.both.y.link (moves k.signer (channel_id_of x.number) Meet x.both).y.link l
      (subst (λ z. LinkIs z l.end l.halted) (sym (met_y k.signer (channel_id_of x.number) x.both))
      (greeted_is (channel_id_of x.number) x.both.y.link l k.signer))

  same_at : Alike (link_in n c cs) (link_in n c new)
  same_at = subst (Alike (link_in n c cs)) (sym (there k.signer n c up_moves cs)) (cases (channel c cs) refl)
    where
      moved_so_far : (x : WorldChannel K) → IsOpen k.signer x → (b : Bool) → (q : Option Role)
          → Alike (link_by x q) (link_by (record x {
            both = run_both k.signer (channel_id_of x.number)
                (cond b (Meet ∷ []) []) x.both;
          }) q)
      moved_so_far x o b None = record { end = refl; halted = refl }
      moved_so_far x o true (Some r) = meets x o r
      moved_so_far x o false (Some r) = record { end = refl; halted = refl }

      cases : (o : Option (WorldChannel K)) → channel c cs ≡ o
          → Alike (link_there n o) (link_there n (option_map (moved k.signer up_moves) o))
      cases None e = record { end = refl; halted = refl }
      cases (Some x) e = moved_so_far x (each_found (IsOpen k.signer) c cs x h.open_ e) (may_meet x.both) (side_of n x)

  pub all_same : (d : ℕ) → Alike (link_in n d cs) (link_in n d new)
  all_same d = elim (either (d == c)) [
    | inl is ↦ subst (λ j. Alike (link_in n j cs) (link_in n j new)) (sym (eqb-true d c is)) same_at
    | inr isnt ↦ record {
      end = ap saved_of (elsewhere k.signer n c up_moves d isnt cs);
      halted = ap has_halted (elsewhere k.signer n c up_moves d isnt cs);
    }
  ]

  pub met_alike : (d : Dispatchers K) (o : Option (WorldChannel K)) (xs : List NodeBook)
      → IsAlike (node_at n xs).book (node_at n (met d o xs)).book
  met_alike d None xs = alike (node_at n xs).book
  met_alike d (Some x) xs =
      let f = followed d.channels.channels in
      let ys = changed x.funder f xs in
      alike_then (node_at n xs).book (node_at n ys).book (node_at n (changed x.fundee f ys)).book
      (changed_alike k n x.funder f (λ z. refl) (follow_alike d.channels.channels) xs)
      (changed_alike k n x.fundee f (λ z. refl) (follow_alike d.channels.channels) ys)

  pub up_well : IsWell k n (happens k v (step.Up c) w)
  up_well =
      let u = happens k v (step.Up c) w in
      let b = met_alike u.dispatchers (channel c new) w.nodes in
      let same : IsSame (scene_of n w) (scene_of n u) = record {
        sides = λ d. ap (option_map read_side) (all_same d).end;
        halted = λ d. (all_same d).halted;
        book = b.htlcs;
      } in
      record {
        open_ = moved_so k (IsOpen k.signer) c up_moves (up_kept k.signer) cs h.open_;
        small = small_all (moved_if k.signer c up_moves) (same_number k.signer n c up_moves) cs h.small;
        calm = calm_alike (book_in n w) (book_in n u) b h.calm;
        paid = same_paid channel_id_of (scene_of n w) (scene_of n u) same h.paid;
        agrees = same_agrees channel_id_of (scene_of n w) (scene_of n u) same h.agrees;
        past = same_past channel_id_of (scene_of n w) (scene_of n u) same h.past;
      }
