-- A restart of a node: its ends come back, and its book is read off them.
use Rattle.std.proofs.Common.{◌≡◌, inl, inr, ℕ, zero, suc, ◌<◌, List, [], ◌∷◌, ◌++◌, map, take, refl, sym, ap}
use Rattle.std.proofs.Common.{◌∙◌, subst, arith, Bool, true, false, ◌==◌, Option, Some, None, append-nil, nat_lt}
use Rattle.std.specs.Prelude.{option_map}
use Rattle.std.proofs.lemmas.List.{take-take}
use Rattle.std.proofs.lemmas.Bool.{eqb-true, eq-eqb, ltb-true, ltb-false}
use Rattle.ln_keys.specs.Signer.{Signer}
use Rattle.ln_keys.specs.declared.role.Role.{Role}
use Rattle.ln_channel.specs.End.{End as ChannelEnd, end_dropped}
use Rattle.ln_channel.specs.Record.{saved_end}
use Rattle.ln_channel.specs.State.{State}
use Rattle.ln_world_channels.specs.declared.step.Node.{Node}
use Rattle.ln_world_channels.specs.Settings.{channel_id_of}
use Rattle.ln_world_channels.specs.Both.{Restarts, run as run_both, moves}
use Rattle.ln_world_channels.specs.WorldChannel.{WorldChannel, is_node, place_of, side_of, moved, by, restart_moves}
use Rattle.ln_world_channels.specs.World.{channel}
use Rattle.ln_world_channels.specs.Promises.{Each}
use Rattle.ln_world_channels.proofs.Mirror.{link_at}
use Rattle.ln_world_channels.proofs.Kept.{IsOpen}
use Rattle.ln_book.specs.Rebuild.{ChannelSnapshot, channel_snapshot_of}
use Rattle.ln_world.specs.World.{link_by, link_there, saved_of}
use Rattle.ln_book.specs.Snapshots.{snapshot_by}
use Rattle.ln_world.specs.Follow.{side_snapshot, snapshot_in, snapshots_below}
use Rattle.ln_payment.specs.Rebuild.{everywhere}
use Rattle.ln_payment_circuits.specs.Snapshot.{IsFit, All, IsIn, AreDistinct, snapshots}
use Rattle.ln_payment_circuits.proofs.Links.{Side}
use Rattle.ln_payment_circuits.proofs.Losses.{Drops, all_dropped}
use Rattle.ln_payment_circuits.proofs.Shifts.{side_of as read_side, IsTidy}
use Rattle.ln_payment_circuits.proofs.OutgoingLegs.{IsIncoming, AreBack}
use Rattle.ln_world.specs.Circuit.{has_halted}
use Rattle.ln_world.proofs.Answering.{LinkIs}
use Rattle.ln_world.proofs.Ends.{is_link}
use Rattle.ln_world.proofs.Moving.{back_is, own_restarts}
use Rattle.ln_world.proofs.Scene.{link_in, links_of, linked, lookup_map, found_number, each_found}
use Rattle.ln_world.proofs.Scene.{side_same}
use Rattle.ln_world.proofs.Lost.{place, link_is, side_is, all_sound}

map-append : {A B : Type 0} (f : A → B) (xs ys : List A) → map f (xs ++ ys) ≡ map f xs ++ map f ys
map-append f [] ys = refl
map-append f (x ∷ xs) ys = ap (λ zs. f x ∷ zs) (map-append f xs ys)

-- ---- the ends of a node with a number below this one

abbrev pub one_end : ℕ → Option ChannelEnd → List (ℕ × ChannelEnd)
one_end c None = []
one_end c (Some e) = (c, e) ∷ []

abbrev pub ends_below : {K : Type 0} → ℕ → Node → List (WorldChannel K) → List (ℕ × ChannelEnd)
ends_below zero n cs = []
ends_below (suc m) n cs = ends_below m n cs ++ one_end m (saved_of (link_in n m cs))

module _ {K : Type 0} (n : Node) (cs : List (WorldChannel K)) where
  snapshot_so : (m : ℕ) (o : Option (WorldChannel K)) (rs : List ChannelSnapshot)
      → snapshot_in n o rs ≡ rs ++ snapshots (one_end m (saved_of (link_there n o)))
  snapshot_so m None rs = sym (append-nil rs)
  snapshot_so m (Some c) rs = cases (side_of n c)
    where
      ends : (o : Option ChannelEnd) → rs ++ snapshot_by o ≡ rs ++ snapshots (one_end m o)
      ends None = refl
      ends (Some e) = refl

      cases : (q : Option Role) → side_snapshot c q rs ≡ rs ++ snapshots (one_end m (saved_of (link_by c q)))
      cases None = sym (append-nil rs)
      cases (Some side) = ends (saved_end (place_of side c.both).link.stage)

  pub snapshots_so : (m : ℕ) → snapshots_below m n cs ≡ snapshots (ends_below m n cs)
  unfolding snapshots_below
  snapshots_so zero = refl
  snapshots_so (suc m) = snapshot_so m (channel m cs) (snapshots_below m n cs)
      ∙ ap (λ rs. rs ++ snapshots (one_end m (saved_of (link_in n m cs)))) (snapshots_so m)
      ∙ sym (map-append (λ (x : ℕ × ChannelEnd). channel_snapshot_of x.1) (ends_below m n cs)
      (one_end m (saved_of (link_in n m cs))))

  all_append : (P : ℕ × ChannelEnd → Type 0) (xs ys : List (ℕ × ChannelEnd)) → All P xs → All P ys → All P (xs ++ ys)
  all_append P [] ys h k = k
  all_append P (x ∷ xs) ys h k = (h.0, all_append P xs ys h.1 k)

  pub all_ends : (P : ℕ × ChannelEnd → Type 0)
      → ((c : ℕ) (e : ChannelEnd) → saved_of (link_in n c cs) ≡ Some e → P (c, e))
      → (m : ℕ) → All P (ends_below m n cs)
  all_ends P h zero = tt
  all_ends P h (suc m) = all_append P (ends_below m n cs) (one_end m (saved_of (link_in n m cs))) (all_ends P h m)
      (cases (saved_of (link_in n m cs)) refl)
    where
      cases : (o : Option ChannelEnd) → saved_of (link_in n m cs) ≡ o → All P (one_end m o)
      cases None is = tt
      cases (Some e) is = (h m e is, tt)

  below : (m : ℕ) → All (λ (y : ℕ × ChannelEnd). y.0 < m) (ends_below m n cs)
  below zero = tt
  below (suc m) = all_append (λ y. y.0 < suc m) (ends_below m n cs) (one_end m (saved_of (link_in n m cs)))
      (more (ends_below m n cs) (below m)) (cases (saved_of (link_in n m cs)))
    where
      more : (xs : List (ℕ × ChannelEnd)) → All (λ (y : ℕ × ChannelEnd). y.0 < m) xs
          → All (λ (y : ℕ × ChannelEnd). y.0 < suc m) xs
      more [] h = tt
      more (x ∷ xs) h = (let lt = h.0 in omega (arith, lt), more xs h.1)

      cases : (o : Option ChannelEnd) → All (λ (y : ℕ × ChannelEnd). y.0 < suc m) (one_end m o)
      cases None = tt
      cases (Some e) = (omega arith, tt)

  apart : (a m : ℕ) → a < m → (m == a) ≡ false
  apart a m lt = cases (m == a) refl
    where
      cases : (b : Bool) → (m == a) ≡ b → (m == a) ≡ false
      cases false e = e
      cases true e = absurd (let same = eqb-true m a e in omega (arith, same, lt))

  distinct_one : (m : ℕ) (o : Option ChannelEnd) (xs : List (ℕ × ChannelEnd)) → All (λ (y : ℕ × ChannelEnd). y.0 < m) xs
      → AreDistinct xs → AreDistinct (xs ++ one_end m o)
  distinct_one m None xs h d = subst AreDistinct (sym (append-nil xs)) d
  distinct_one m (Some e) [] h d = (tt, tt)
  distinct_one m (Some e) (x ∷ xs) h d = (
    all_append (λ y. (y.0 == x.0) ≡ false) xs ((m, e) ∷ []) d.0 (apart x.0 m h.0, tt),
    distinct_one m (Some e) xs
        h.1 d.1,
  )

  distinct : (m : ℕ) → AreDistinct (ends_below m n cs)
  distinct zero = tt
  distinct (suc m) = distinct_one m (saved_of (link_in n m cs)) (ends_below m n cs) (below m) (distinct m)

  member_append : (x : ℕ × ChannelEnd) (xs ys : List (ℕ × ChannelEnd)) → IsIn x xs → IsIn x (xs ++ ys)
  member_append x [] ys h = absurd h
  member_append x (y ∷ xs) ys (inl e) = inl e
  member_append x (y ∷ xs) ys (inr h) = inr (member_append x xs ys h)

  member_last : (x : ℕ × ChannelEnd) (xs : List (ℕ × ChannelEnd)) → IsIn x (xs ++ x ∷ [])
  member_last x [] = inl refl
  member_last x (y ∷ xs) = inr (member_last x xs)

  pub is_member : (m c : ℕ) (e : ChannelEnd) → c < m → saved_of (link_in n c cs) ≡ Some e
      → IsIn (c, e) (ends_below m n cs)
  is_member zero c e lt is = absurd (omega (arith, lt))
  is_member (suc m) c e lt is = cases (c == m) refl (λ k. is_member m c e k is)
    where
      cases : (b : Bool) → (c == m) ≡ b → (c < m → IsIn (c, e) (ends_below m n cs))
          → IsIn (c, e) (ends_below (suc m) n cs)
      cases true f rest =
          let same = eqb-true c m f in
          subst (λ o. IsIn (c, e) (ends_below m n cs ++ one_end m o))
          (sym (ap (λ k. saved_of (link_in n k cs)) (sym same) ∙ is))
          (subst (λ k. IsIn (c, e) (ends_below m n cs ++ (k, e) ∷ [])) same (member_last (c, e) (ends_below m n cs)))
      cases false f rest = member_append (c, e) (ends_below m n cs) (one_end m (saved_of (link_in n m cs)))
          (rest (less c m lt f))
        where
          less : (a b : ℕ) → a < suc b → (a == b) ≡ false → a < b
          less a b lt f = by_lt (nat_lt a b) refl
            where
              by_lt : (t : Bool) → nat_lt a b ≡ t → a < b
              by_lt true k = ltb-true a b k
              by_lt false k = absurd (let ge = ltb-false a b k in
                  let same : a ≡ b = omega (arith, lt, ge) in
                  let no : true ≡ false = sym (eq-eqb a b same) ∙ f in cc)

-- ---- they are back

abbrev pub AreSmall : {K : Type 0} → List (WorldChannel K) → Type 0
AreSmall cs = Each (λ c. c.number < 256) cs

-- numbers stay
pub small_all : {K : Type 0} (f : WorldChannel K → WorldChannel K) → ((c : WorldChannel K) → (f c).number ≡ c.number)
    → (cs : List (WorldChannel K)) → AreSmall cs → AreSmall (map f cs)
small_all f same [] h = tt
small_all f same (c ∷ cs) h = (subst (λ k. k < 256) (sym (same c)) h.0, small_all f same cs h.1)

module _ {K : Type 0} (signer : K → Signer) (n : Node) (cs : List (WorldChannel K)) (open_ : Each (IsOpen signer) cs)
    (small : AreSmall cs)
    (signed : (c : ℕ) (e : ChannelEnd) → saved_of (link_in n c cs) ≡ Some e
    → take e.dance.log.signed.own e.dance.log.own ≡ e.dance.log.own) where
  is_back : (c : ℕ) (e : ChannelEnd) → saved_of (link_in n c cs) ≡ Some e
      → IsIncoming channel_id_of (links_of n cs) (c, e)
  is_back c e is = cases (link_in n c cs) refl is
    where
      cases : (o : Option (State K)) → link_in n c cs ≡ o → saved_of o ≡ Some e
          → IsIncoming channel_id_of (links_of n cs) (c, e)
      cases None f g = absurd (cc)
      cases (Some s) f g =
          let l = link_is signer n cs open_ c s f in
          let some : Some l.end ≡ Some e = sym (ap (λ (z : State K). saved_end z.stage) l.link) ∙ g in
          let same : l.end ≡ e = cc in
          record {
            side = side_is signer n cs open_ c s f ∙ ap (λ z. Some (read_side z)) same;
            channel = ap (λ (z : ChannelEnd). z.dance.channel) (sym same) ∙ l.channel;
            tidy = subst (λ (z : ChannelEnd). IsTidy z) same l.is.keeps.tidy;
            fit = subst (λ (z : ChannelEnd). IsFit z) same l.is.fit;
            all_signed = signed c e is;
          }

  pub are_back : AreBack channel_id_of (links_of n cs) (ends_below 256 n cs)
  are_back = record {
    once = distinct n cs 256;
    each = all_ends n cs (IsIncoming channel_id_of (links_of n cs)) is_back 256;
    every = λ c s is. has_link c s (link_in n c cs) refl (ap (λ o. o) is);
  }
    where
      small_so : (c : ℕ) (s : State K) → link_in n c cs ≡ Some s → c < 256
      small_so c s e = let p = place n c cs s e in
          subst (λ k. k < 256) (found_number c cs p.found p.is)
          (each_found (λ z. z.number < 256) c cs p.found small p.is)

      has_link : (c : ℕ) (s : Side) (o : Option (State K)) → link_in n c cs ≡ o → (links_of n cs).sides c ≡ Some s
          → (e : ChannelEnd) × IsIn (c, e) (ends_below 256 n cs)
      has_link c s None f e =
          absurd (let no : None ≡ Some s = sym (ap (λ o. option_map read_side (saved_of o)) f) ∙ e in cc)
      has_link c s (Some l) f e =
          let k = link_is signer n cs open_ c l f in (
            k.end,
            is_member n cs 256 c k.end (small_so c l f)
                (ap saved_of f ∙ ap (λ (z : State K). saved_end z.stage) k.link),
          )

-- ---- all of a node's ends come back

module _ {K : Type 0} (signer : K → Signer) (n m : Node) (own : is_node m n ≡ true) (cs : List (WorldChannel K))
    (open_ : Each (IsOpen signer) cs) where
  abbrev pub anew : List (WorldChannel K)
  anew = map (moved signer (restart_moves m)) cs

  lookup : (d : ℕ) → link_in n d anew ≡ link_there n (option_map (moved signer (restart_moves m)) (channel d cs))
  lookup d = ap (link_there n) (lookup_map (moved signer (restart_moves m)) (λ c. refl) d cs)

  none_there : (d : ℕ) → link_in n d cs ≡ None → link_in n d anew ≡ None
  none_there d e = lookup d ∙ cases (channel d cs) e
    where
      cases : (o : Option (WorldChannel K)) → link_there n o ≡ None
          → link_there n (option_map (moved signer (restart_moves m)) o) ≡ None
      cases None f = refl
      cases (Some c) f = sides (side_of n c) f
        where
          sides : (q : Option Role) → link_by c q ≡ None → link_by (moved signer (restart_moves m) c) q ≡ None
          sides None g = refl
          sides (Some r) g = absurd (cc)

  pub back_there : (d : ℕ) (s : State K) (e : link_in n d cs ≡ Some s)
      → (t : State K) × (link_in n d anew ≡ Some t) × LinkIs t (end_dropped (link_is signer n cs open_ d s e).end) false
  back_there d s e =
      let p = place n d cs s e in
      let c = p.found in
      let h = is_link signer (channel_id_of c.number) c.both (each_found (IsOpen signer) d cs c open_ p.is) p.side in
      let mine = link_is signer n cs open_ d s e in
      let same_link : link_at h.halted h.keys h.connection h.end
      ≡ link_at mine.halted mine.keys mine.connection mine.end =
      sym h.link ∙ sym p.link ∙ mine.link in
      let some : Some h.end ≡ Some mine.end = ap (λ (l : State K). saved_end l.stage) same_link in
      let ends : h.end ≡ mine.end = cc in
      let l = (place_of p.side (moves signer (channel_id_of c.number) (Restarts p.side) c.both)).link in (
        l,
        lookup d ∙ ap (λ o. link_there n (option_map (moved signer (restart_moves m)) o)) p.is
            ∙ ap (link_by (moved signer (restart_moves m) c)) p.of
            ∙ ap (λ o. Some (place_of p.side (run_both signer (channel_id_of c.number) (by o Restarts) c.both)).link)
            (sym (side_same m n c own) ∙ p.of),
        subst (λ z. LinkIs l (end_dropped z) false) ends
            (subst (λ z. LinkIs z (end_dropped h.end) false)
            (sym (own_restarts signer (channel_id_of c.number) p.side c.both))
            (back_is (channel_id_of c.number) (place_of p.side c.both).link h (place_of p.side c.both).keys)),
      )

  pub anew_drops : Drops everywhere (links_of n cs) (links_of n anew)
  anew_drops = record {
    lost = λ d is. cases d (link_in n d cs) refl;
    others = λ d isnt. absurd (cc);
    sound = all_sound signer n cs open_;
  }
    where
      cases : (d : ℕ) (o : Option (State K)) → link_in n d cs ≡ o
          → (links_of n anew).sides d ≡ all_dropped ((links_of n cs).sides d)
      cases d None e = ap (λ o. option_map read_side (saved_of o)) (none_there d e)
          ∙ ap (λ o. all_dropped (option_map read_side (saved_of o))) (sym e)
      cases d (Some s) e =
          let k = back_there d s e in
          ap (λ o. option_map read_side (saved_of o)) k.1
          ∙ ap (option_map read_side) (linked k.0 (end_dropped (link_is signer n cs open_ d s e).end) false k.2)
          ∙ ap all_dropped (sym (side_is signer n cs open_ d s e))

  pub anew_halted : (d : ℕ) → (links_of n anew).halted d ≡ false
  anew_halted d = cases (link_in n d cs) refl
    where
      cases : (o : Option (State K)) → link_in n d cs ≡ o → (links_of n anew).halted d ≡ false
      cases None e = ap has_halted (none_there d e)
      cases (Some s) e = let k = back_there d s e in ap has_halted k.1 ∙ k.2.halted

  pub anew_signed : (c : ℕ) (e : ChannelEnd) → saved_of (link_in n c anew) ≡ Some e
      → take e.dance.log.signed.own e.dance.log.own ≡ e.dance.log.own
  anew_signed c e is = cases (link_in n c cs) refl
    where
      cases : (o : Option (State K)) → link_in n c cs ≡ o → take e.dance.log.signed.own
          e.dance.log.own ≡ e.dance.log.own
      cases None f = absurd (let no : None ≡ Some e = sym (ap saved_of (none_there c f)) ∙ is in cc)
      cases (Some s) f =
          let k = back_there c s f in
          let x = (link_is signer n cs open_ c s f).end in
          let some : Some (end_dropped x) ≡ Some e =
          sym (ap saved_of k.1 ∙ linked k.0 (end_dropped x) false k.2) ∙ is in
          let same : end_dropped x ≡ e = cc in
          subst (λ (z : ChannelEnd). take z.dance.log.signed.own z.dance.log.own ≡ z.dance.log.own) same
          (take-take x.dance.log.signed.own x.dance.log.signed.own x.dance.log.own (omega arith))
