-- What an act of the node's own end makes of its links: of that end alone; and of its payments where the act is none of
-- the book's.
use Rattle.std.proofs.Common.{◌≡◌, inl, inr, ℕ, ◌≤◌, List, refl, sym, ap, ◌∙◌, subst, Bool, true}
use Rattle.std.proofs.Common.{cond, ◌==◌, Some, Result}
use Rattle.std.specs.Prelude.{option_map}
use Rattle.std.proofs.lemmas.Bool.{eqb-true, eq-eqb}
use Rattle.ln_refusals.specs.declared.refusal.Refusal.{Refusal}
use Rattle.ln_keys.specs.Signer.{Signer}
use Rattle.ln_channel.specs.End.{End as ChannelEnd}
use Rattle.ln_channel.specs.Base.{based}
use Rattle.ln_channel.specs.Record.{saved_end}
use Rattle.ln_channel.specs.State.{State}
use Rattle.ln_channel.specs.Step.{Done}
use Rattle.ln_world_channels.specs.declared.step.Act.{Act}
use Rattle.ln_world_channels.specs.declared.step.Node.{Node}
use Rattle.ln_world_channels.specs.Settings.{channel_id_of}
use Rattle.ln_world_channels.specs.Both.{By, moves}
use Rattle.ln_world_channels.specs.WorldChannel.{WorldChannel, is_node, place_of, act_moves}
use Rattle.ln_world_channels.specs.Promises.{Each}
use Rattle.ln_world_channels.proofs.Mirror.{link_at}
use Rattle.ln_world_channels.proofs.Kept.{IsOpen}
use Rattle.ln_world.specs.World.{saved_of}
use Rattle.ln_payment_circuits.specs.Shift.{Shift, IsPlain}
use Rattle.ln_payment_circuits.specs.Snapshot.{IsFit, origin, IsIn}
use Rattle.ln_payment_circuits.proofs.Links.{Side, Links, Changed}
use Rattle.ln_payment_circuits.proofs.Shifts.{side_of as read_side, plain_shift, base_shift, goes_then}
use Rattle.ln_payment_circuits.proofs.Scenes.{Scene, HavePayments, links_go}
use Rattle.ln_payment_circuits.proofs.Resumed.{HoldAlike}
use Rattle.ln_payment_circuits.proofs.Agrees.{agrees_fewer}
use Rattle.ln_log.specs.declared.mark.Decision.{Decision}
use Rattle.ln_book_tables.specs.declared.htlc.Htlc.{Htlc}
use Rattle.ln_world.specs.Circuit.{has_halted}
use Rattle.ln_world.proofs.Hearing.{AreKin}
use Rattle.ln_world.proofs.Answering.{Steps, RowSteps}
use Rattle.ln_world.proofs.Ends.{is_link}
use Rattle.ln_world.proofs.Moving.{row_of, Acted, own_acts}
use Rattle.ln_world.proofs.Scene.{link_in, links_of, linked, now, elsewhere, own_node, each_found, either}
use Rattle.ln_world.proofs.Lost.{place, link_is, side_is, halted_is}
use Rattle.ln_world.proofs.Moving.{acts_side}

module _ {K : Type 0} (signer : K → Signer) (n m : Node) (own : is_node m n ≡ true) (cs : List (WorldChannel K))
    (open_ : Each (IsOpen signer) cs) (at : ℕ) (a : Act) (s : State K) (there : link_in n at cs ≡ Some s) where
  abbrev pub new : List (WorldChannel K)
  new = now signer n at (act_moves m a) cs

  -- what the end answers, and where it stands then
  pub record Turns (row : Result Done Refusal) : Type 0 where
    pub end : ChannelEnd
    pub steps : RowSteps (link_is signer n cs open_ at s there).end end row
    pub saved : saved_of (link_in n at new) ≡ Some end
    pub changed : Changed (origin channel_id_of) at (read_side (link_is signer n cs open_ at s there).end)
        (read_side end)
        (links_of n cs) (links_of n new)

  pub turns : (row : Result Done Refusal)
      → row_of signer a (place_of (place n at cs s there).side (place n at cs s there).found.both) ≡ Some row
      → Turns row
  turns row is =
      let p = place n at cs s there in
      let c = p.found in
      let mine = link_is signer n cs open_ at s there in
      let h = is_link signer (channel_id_of c.number) c.both (each_found (IsOpen signer) at cs c open_ p.is) p.side in
      let same_link : link_at h.halted h.keys h.connection h.end
      ≡ link_at mine.halted mine.keys mine.connection mine.end =
      sym h.link ∙ sym p.link ∙ mine.link in
      let some : Some h.end ≡ Some mine.end = ap (λ (l : State K). saved_end l.stage) same_link in
      let ends : h.end ≡ mine.end = cc in
      let halts : h.halted ≡ mine.halted = ap (λ (l : State K). l.halted) same_link in
      let l = (place_of p.side (moves signer (channel_id_of c.number) (By p.side a) c.both)).link in
      let t : Steps row h.end h.halted l =
      subst (λ o. Acted o (place_of p.side c.both).link h.end h.halted l) is
      (own_acts signer (channel_id_of c.number) p.side a c.both h) in
      let is_now : link_in n at new ≡ Some l =
      own_node signer m (λ r. By r a) (acts_side a) n at cs own c p.side p.is p.of in
      record {
        end = t.end;
        steps = subst (λ z. RowSteps z t.end row) ends t.steps;
        saved = ap saved_of is_now ∙ linked l t.end h.halted t.link;
        changed = record {
          before = side_is signer n cs open_ at s there;
          behind =
              ap (λ o. option_map read_side (saved_of o)) is_now
              ∙ ap (option_map read_side) (linked l t.end h.halted t.link);
          others =
              λ d isnt. ap (λ o. option_map read_side (saved_of o)) (elsewhere signer n at (act_moves m a) d isnt cs);
          halted = λ d. halted_so (is_now) t.link.halted halts d;
        };
      }
    where
      halted_so : {l : State K} {g : Bool} → link_in n at new ≡ Some l → l.halted ≡ g
          → g ≡ (link_is signer n cs open_ at s there).halted → (d : ℕ)
          → (links_of n new).halted d ≡ (links_of n cs).halted d
      halted_so is f g d = elim (either (d == at)) [
        | inr isnt ↦ ap has_halted (elsewhere signer n at (act_moves m a) d isnt cs)
        | inl it ↦ ap (links_of n new).halted (eqb-true d at it) ∙ ap has_halted is ∙ f ∙ g
            ∙ sym (halted_is signer n cs open_ at s there) ∙ sym (ap (links_of n cs).halted (eqb-true d at it))
      ]

-- ---- an end goes on, and is saved, where the book has no part in it

-- where one end stands so
pub between : (at : ℕ) (f : Side) (s : Links) → Links
between at f s = record { sides = λ d. cond (d == at) (Some f) (s.sides d); halted = s.halted }

module _ (at : ℕ) (x f : ChannelEnd) (s t : Scene)
    (g : Changed (origin channel_id_of) at (read_side x) (read_side (based f)) s.links t.links) (book : t.book ≡ s.book)
    (fit : IsFit x) (le : f.dance.log.first.own ≤ f.dance.log.current.own) (shift : Shift x f) (none : IsPlain shift)
  where
    pub to_between : Changed (origin channel_id_of) at (read_side x) (read_side f) s.links
        (between at (read_side f) s.links)
    unfolding between
    to_between = record {
      before = g.before;
      behind = ap (λ b. cond b (Some (read_side f)) (s.links.sides at)) (eq-eqb at at refl);
      others = λ d isnt. ap (λ b. cond b (Some (read_side f)) (s.links.sides d)) isnt;
      halted = λ d. refl;
    }

    pub from_between : Changed (origin channel_id_of) at (read_side f) (read_side (based f))
        (between at (read_side f) s.links) t.links
    unfolding between
    from_between = record {
      before = ap (λ b. cond b (Some (read_side f)) (s.links.sides at)) (eq-eqb at at refl);
      behind = g.behind;
      others = λ d isnt. g.others d isnt ∙ sym (ap (λ b. cond b (Some (read_side f)) (s.links.sides d)) isnt);
      halted = g.halted;
    }

    pub plain_paid : HavePayments channel_id_of s → HavePayments channel_id_of t
    plain_paid k h = links_go channel_id_of h s t book (k h)
        (goes_then (origin channel_id_of) h (between at (read_side f) s.links) t.links (k h).0
        (plain_shift (origin channel_id_of) h at x f s.links (between at (read_side f) s.links) to_between fit shift
        none
        (k h).0
        (k h).1.of_links)
        (λ q st. base_shift (origin channel_id_of) h at f (between at (read_side f) s.links) t.links from_between le q
        st))

-- ---- in between: an end has gone on, and isn't saved yet

module _ (at : ℕ) (x f : ChannelEnd) (s t : Links)
    (g : Changed (origin channel_id_of) at (read_side x) (read_side (based f)) s t) where
  pub goes_on : Changed (origin channel_id_of) at (read_side x) (read_side f) s (between at (read_side f) s)
  unfolding between
  goes_on = record {
    before = g.before;
    behind = ap (λ b. cond b (Some (read_side f)) (s.sides at)) (eq-eqb at at refl);
    others = λ d isnt. ap (λ b. cond b (Some (read_side f)) (s.sides d)) isnt;
    halted = λ d. refl;
  }

  pub is_saved : Changed (origin channel_id_of) at (read_side f) (read_side (based f)) (between at (read_side f) s) t
  unfolding between
  is_saved = record {
    before = ap (λ b. cond b (Some (read_side f)) (s.sides at)) (eq-eqb at at refl);
    behind = g.behind;
    others = λ d isnt. g.others d isnt ∙ sym (ap (λ b. cond b (Some (read_side f)) (s.sides d)) isnt);
    halted = g.halted;
  }

  pub saved_paid : f.dance.log.first.own ≤ f.dance.log.current.own → (hs : List Htlc)
      → HavePayments channel_id_of (record { links = between at (read_side f) s; book = hs })
      → HavePayments channel_id_of (record { links = t; book = hs })
  saved_paid le hs k h = links_go channel_id_of h (record { links = between at (read_side f) s; book = hs })
      (record { links = t; book = hs }) refl (k h)
      (base_shift (origin channel_id_of) h at f (between at (read_side f) s) t is_saved le (k h).0 (k h).1.of_links)

-- where its decisions are among those that there were
pub kin_agrees : (at : ℕ) (x y : ChannelEnd) (s t : Links) (xs ys : List Htlc)
    → Changed (origin channel_id_of) at (read_side x) (read_side y) s t
    → ((d : Decision) → IsIn d y.ledger.decisions → IsIn d x.ledger.decisions) → AreKin xs ys
    → HoldAlike channel_id_of (record { links = s; book = xs })
    → HoldAlike channel_id_of (record { links = t; book = ys })
kin_agrees at x y s t xs ys g fewer kin = agrees_fewer channel_id_of (record { links = s; book = xs })
    (record { links = t; book = ys }) (record {
      links = λ c Y is q m. elim (either (c == at)) [
        | inr isnt ↦ (Y, sym (g.others c isnt) ∙ is, m)
        | inl it ↦ (
          read_side x,
          ap s.sides (eqb-true c at it) ∙ g.before,
          fewer q (subst (λ (Z : Side). IsIn q Z.decisions) (let some : Some Y ≡ Some (read_side y) =
              sym is ∙ ap t.sides (eqb-true c at it) ∙ g.behind in
              let is_it : Y ≡ read_side y = cc in is_it) m),
        )
      ];
      book = λ q m. let was = kin q m in (
        was.0,
        was.1,
        record { key = sym was.2.key; mark = sym was.2.mark; decided = λ c. sym was.2.decided ∙ c },
      );
    })
