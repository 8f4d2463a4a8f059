-- What lost connections, halts, restarts and new connections make of a node's links.
use Rattle.std.proofs.Common.{◌≡◌, inl, inr, ℕ, List, refl, sym, ap, ◌∙◌, subst}
use Rattle.std.proofs.Common.{Bool, true, false, ◌==◌, ◌||◌, Option, Some, None}
use Rattle.std.specs.Prelude.{option_map}
use Rattle.std.proofs.lemmas.Bool.{eqb-true}
use Rattle.ln_keys.specs.Signer.{Signer}
use Rattle.ln_keys.specs.declared.role.Role.{Role}
use Rattle.ln_channel.specs.End.{End as ChannelEnd, end_dropped}
use Rattle.ln_channel.specs.Record.{saved_end}
use Rattle.ln_channel.specs.State.{State}
use Rattle.ln_world_channels.specs.declared.step.Node.{Node}
use Rattle.ln_world_channels.specs.Settings.{channel_id_of}
use Rattle.ln_world_channels.proofs.Mirror.{link_at}
use Rattle.ln_world_channels.specs.Both.{Both, Move, Disconnects, Halts, moves}
use Rattle.ln_world_channels.specs.WorldChannel.{WorldChannel, is_node, place_of, side_of, disconnect_moves, halt_moves}
use Rattle.ln_world_channels.specs.World.{channel}
use Rattle.ln_world_channels.specs.Promises.{Each}
use Rattle.ln_world_channels.proofs.Kept.{IsOpen}
use Rattle.ln_world.specs.World.{link_by, link_there, saved_of}
use Rattle.ln_payment.specs.Moves.{is_of}
use Rattle.ln_payment_circuits.proofs.Losses.{Drops, IsSoundSide, all_dropped}
use Rattle.ln_payment_circuits.proofs.Shifts.{side_of as read_side}
use Rattle.ln_world.specs.Circuit.{has_halted}
use Rattle.ln_world.proofs.Answering.{LinkIs}
use Rattle.ln_world.proofs.Ends.{IsLink, is_link}
use Rattle.ln_world.proofs.Moving.{IsOfSide, drops_is, halts_is, own_falls, own_halts}
use Rattle.ln_world.proofs.Scene.{link_in, links_of, linked, either, found_number, each_found}
use Rattle.ln_world.proofs.Scene.{now, elsewhere, of_node, own_node, no_node}
use Rattle.ln_world.proofs.Moving.{falls_side, halts_side}

-- the place of a link among the channels
pub record Place {K : Type 0} (n : Node) (c : ℕ) (cs : List (WorldChannel K)) (s : State K) : Type 0 where
  pub found : WorldChannel K
  pub side : Role
  pub is : channel c cs ≡ Some found
  pub of : side_of n found ≡ Some side
  pub link : s ≡ (place_of side found.both).link

pub place : {K : Type 0} (n : Node) (c : ℕ) (cs : List (WorldChannel K)) (s : State K) → link_in n c cs ≡ Some s
    → Place n c cs s
place n c cs s e = cases (channel c cs) refl e
  where
    sides : (x : WorldChannel _) → channel c cs ≡ Some x → (q : Option Role) → side_of n x ≡ q → link_by x q ≡ Some s
        → Place n c cs s
    sides x is None f g = absurd (cc)
    sides x is (Some r) f g = record {
      found = x;
      side = r;
      is = is;
      of = f;
      link = (let same : (place_of r x.both).link ≡ s = cc in sym same);
    }

    cases : (o : Option (WorldChannel _)) → channel c cs ≡ o → link_there n o ≡ Some s → Place n c cs s
    cases None is f = absurd (cc)
    cases (Some x) is f = sides x is (side_of n x) refl f

module _ {K : Type 0} (signer : K → Signer) (n : Node) (cs : List (WorldChannel K)) (open_ : Each (IsOpen signer) cs)
  where
    -- each link of a node is of an open channel
    pub link_is : (c : ℕ) (s : State K) → link_in n c cs ≡ Some s → IsLink (channel_id_of c) s
    link_is c s e =
        let p = place n c cs s e in
        subst (IsLink (channel_id_of c)) (sym p.link)
        (subst (λ k. IsLink (channel_id_of k) (place_of p.side p.found.both).link) (found_number c cs p.found p.is)
        (is_link signer (channel_id_of p.found.number) p.found.both (each_found (IsOpen signer) c cs p.found open_ p.is)
        p.side))

    -- what its side is
    pub side_is : (c : ℕ) (s : State K) (e : link_in n c cs ≡ Some s)
        → (links_of n cs).sides c ≡ Some (read_side (link_is c s e).end)
    side_is c s e = ap (λ o. option_map read_side (saved_of o)) (e ∙ ap Some (link_is c s e).link)

    pub halted_is : (c : ℕ) (s : State K) (e : link_in n c cs ≡ Some s)
        → (links_of n cs).halted c ≡ (link_is c s e).halted
    halted_is c s e = ap has_halted (e ∙ ap Some (link_is c s e).link)

    pub all_sound : (d : ℕ) → IsSoundSide ((links_of n cs).sides d)
    all_sound d = cases (link_in n d cs) refl
      where
        cases : (o : Option (State K)) → link_in n d cs ≡ o → IsSoundSide ((links_of n cs).sides d)
        cases None e = subst (λ o. IsSoundSide (option_map read_side (saved_of o))) (sym e) tt
        cases (Some s) e = subst IsSoundSide (sym (side_is d s e)) (link_is d s e).is.fit.sound

    -- ---- a node's end disconnects, or halts

    dropped_now : (c : ℕ) (s new : State K) (e : link_in n c cs ≡ Some s) (h : Bool)
        → LinkIs new (end_dropped (link_is c s e).end) h
        → option_map read_side (saved_of (Some new)) ≡ all_dropped ((links_of n cs).sides c)
    dropped_now c s new e h k = ap (option_map read_side) (linked new (end_dropped (link_is c s e).end) h k)
        ∙ ap all_dropped (sym (side_is c s e))

    -- by a move of a side that leaves the link so
    module _ (m : Node) (own : is_node m n ≡ true) (at : ℕ) (act : Role → Move) (of : (s : Role) → IsOfSide (act s) s)
        (after : Bool → Bool)
        (leaves : (id : List ℕ) (r : Role) (p : Both K) (h : IsLink id (place_of r p).link)
        → LinkIs (place_of r (moves signer id (act r) p)).link (end_dropped h.end) (after h.halted)) where
      abbrev new : List (WorldChannel K)
      new = now signer n at (of_node signer m act of) cs

      pub link_now : (s : State K) (e : link_in n at cs ≡ Some s)
          → (t : State K) × (link_in n at new ≡ Some t) × LinkIs t (end_dropped (link_is at s e).end)
          (after (link_is at s e).halted)
      link_now s e =
          let p = place n at cs s e in
          let h =
          is_link signer (channel_id_of p.found.number) p.found.both
          (each_found (IsOpen signer) at cs p.found open_ p.is)
          p.side in
          let k = leaves (channel_id_of p.found.number) p.side p.found.both h in
          let mine = link_is at s e in
          let same_link : link_at h.halted h.keys h.connection h.end
          ≡ link_at mine.halted mine.keys mine.connection mine.end =
          sym h.link ∙ sym p.link ∙ mine.link in
          let ends : h.end ≡ mine.end =
          ap (λ (o : Option ChannelEnd). end_or mine.end o) (ap (λ (l : State K). saved_end l.stage) same_link) in
          let halts : h.halted ≡ mine.halted = ap (λ (l : State K). l.halted) same_link in (
            _,
            own_node signer m act of n at cs own p.found p.side p.is p.of,
            subst (λ z. LinkIs (place_of p.side (moves signer (channel_id_of p.found.number) (act p.side)
                p.found.both)).link
                (end_dropped z) (after mine.halted)) ends
                (subst (λ b. LinkIs (place_of p.side (moves signer (channel_id_of p.found.number) (act p.side)
                p.found.both)).link
                (end_dropped h.end) (after b)) halts k),
          )
        where
          end_or : ChannelEnd → Option ChannelEnd → ChannelEnd
          end_or d None = d
          end_or d (Some z) = z

      lost_at : (links_of n new).sides at ≡ all_dropped ((links_of n cs).sides at)
      lost_at = cases (link_in n at cs) refl
        where
          cases : (o : Option (State K)) → link_in n at cs ≡ o
              → (links_of n new).sides at ≡ all_dropped ((links_of n cs).sides at)
          cases None e = ap (λ o. option_map read_side (saved_of o)) (no_node signer m act of n at cs own e)
              ∙ ap (λ o. all_dropped (option_map read_side (saved_of o))) (sym e)
          cases (Some s) e = let k = link_now s e in
              ap (λ o. option_map read_side (saved_of o)) k.1
              ∙ dropped_now at s k.0 e (after (link_is at s e).halted) k.2

      pub all_drop : Drops (is_of at) (links_of n cs) (links_of n new)
      all_drop = record {
        lost =
            λ d is. subst (λ k. (links_of n new).sides k ≡ all_dropped ((links_of n cs).sides k))
            (sym (eqb-true d at is)) lost_at;
        others =
            λ d isnt. ap (λ o. option_map read_side (saved_of o))
            (elsewhere signer n at (of_node signer m act of) d isnt cs);
        sound = all_sound;
      }

      pub halted_else : (d : ℕ) → (d == at) ≡ false → (links_of n new).halted d ≡ (links_of n cs).halted d
      halted_else d isnt = ap has_halted (elsewhere signer n at (of_node signer m act of) d isnt cs)

      pub halted_at : (s : State K) → link_in n at cs ≡ Some s
          → (links_of n new).halted at ≡ after ((links_of n cs).halted at)
      halted_at s e = let k = link_now s e in ap has_halted k.1 ∙ k.2.halted ∙ ap after (sym (halted_is at s e))

    -- ---- Down

    pub fall_leaves : (id : List ℕ) (r : Role) (p : Both K) (h : IsLink id (place_of r p).link)
        → LinkIs (place_of r (moves signer id (Disconnects r) p)).link (end_dropped h.end) h.halted
    fall_leaves id r p h = subst (λ l. LinkIs l (end_dropped h.end) h.halted) (sym (own_falls signer id r p))
        (drops_is id (place_of r p).link h)

    pub halt_leaves : (id : List ℕ) (r : Role) (p : Both K) (h : IsLink id (place_of r p).link)
        → LinkIs (place_of r (moves signer id (Halts r) p)).link (end_dropped h.end) true
    halt_leaves id r p h = subst (λ l. LinkIs l (end_dropped h.end) true) (sym (own_halts signer id r p))
        (halts_is id (place_of r p).link h)

    module _ (m : Node) (own : is_node m n ≡ true) (at : ℕ) where
      -- the connection is lost
      pub down_drops : Drops (is_of at) (links_of n cs) (links_of n (now signer n at (disconnect_moves m) cs))
      down_drops = all_drop m own at Disconnects falls_side (λ b. b) fall_leaves

      pub down_halted : (d : ℕ) → (links_of n (now signer n at (disconnect_moves m) cs)).halted d
          ≡ (links_of n cs).halted d
      down_halted d = elim (either (d == at)) [
        | inr isnt ↦ halted_else m own at Disconnects falls_side (λ b. b) fall_leaves d isnt
        | inl is ↦ subst (λ k. (links_of n (now signer n at (disconnect_moves m) cs)).halted k
            ≡ (links_of n cs).halted k)
            (sym (eqb-true d at is)) (cases (link_in n at cs) refl)
      ]
        where
          cases : (o : Option (State K)) → link_in n at cs ≡ o
              → (links_of n (now signer n at (disconnect_moves m) cs)).halted at ≡ (links_of n cs).halted at
          cases None e = ap has_halted (no_node signer m Disconnects falls_side n at cs own e) ∙ ap has_halted (sym e)
          cases (Some s) e = halted_at m own at Disconnects falls_side (λ b. b) fall_leaves s e

      -- there is no memory
      pub halt_drops : Drops (is_of at) (links_of n cs) (links_of n (now signer n at (halt_moves m) cs))
      halt_drops = all_drop m own at Halts halts_side (λ b. true) halt_leaves

      pub halt_halted : (s : State K) → link_in n at cs ≡ Some s → (d : ℕ)
          → (links_of n (now signer n at (halt_moves m) cs)).halted d ≡ ((d == at) || (links_of n cs).halted d)
      halt_halted s e d = elim (either (d == at)) [
        | inr isnt ↦ halted_else m own at Halts halts_side (λ b. true) halt_leaves d isnt
            ∙ sym (ap (λ b. b || (links_of n cs).halted d) isnt)
        | inl is ↦ ap (links_of n (now signer n at (halt_moves m) cs)).halted (eqb-true d at is)
            ∙ halted_at m own at Halts halts_side (λ b. true) halt_leaves s e
            ∙ sym (ap (λ b. b || (links_of n cs).halted d) is)
      ]
