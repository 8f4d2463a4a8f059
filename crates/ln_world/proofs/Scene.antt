-- What a payment of a node is read off, in a world: its ends by their channels, which have halted, and its book.
use Rattle.std.proofs.Common.{◌≡◌, ◌⊎◌, inl, inr, ℕ, List, [], ◌∷◌, map, refl, sym, ap, ◌∙◌, subst}
use Rattle.std.proofs.Common.{Bool, true, false, cond, ◌==◌, Option, Some, None}
use Rattle.std.specs.Prelude.{option_map}
use Rattle.std.proofs.lemmas.Bool.{eqb-true, eq-eqb}
use Rattle.ln_keys.specs.Signer.{Signer}
use Rattle.ln_keys.specs.declared.role.Role.{Role}
use Rattle.ln_keys.specs.declared.role.Role.TheVariants.{Funder, Fundee}
use Rattle.ln_channel.specs.Record.{saved_end}
use Rattle.ln_channel.specs.End.{End as ChannelEnd}
use Rattle.ln_channel.specs.State.{State}
use Rattle.ln_world_channels.specs.declared.step.Node.{Node}
use Rattle.ln_world_channels.specs.Settings.{channel_id_of}
use Rattle.ln_world_channels.specs.Both.{Move, run as run_both, moves}
use Rattle.ln_world_channels.specs.WorldChannel.{WorldChannel, is_node, place_of, side_of, moved, by}
use Rattle.ln_world_channels.specs.World.{channel, moved_if}
use Rattle.ln_world_channels.specs.Promises.{Each}
use Rattle.ln_book_tables.specs.Replay.{table_of}
use Rattle.ln_world.specs.World.{World, link_by, link_there, saved_of}
use Rattle.ln_world.specs.Node.{node_at}
use Rattle.ln_payment_circuits.proofs.Links.{Links}
use Rattle.ln_payment_circuits.proofs.Shifts.{side_of as read_side}
use Rattle.ln_payment_circuits.proofs.Scenes.{Scene}
use Rattle.ln_world.specs.Circuit.{has_halted}
use Rattle.ln_world.proofs.Answering.{LinkIs}
use Rattle.ln_world.proofs.Moving.{other, IsOfSide, other_stays}

-- a node's link in the channel of this number
abbrev pub link_in : {K : Type 0} → Node → ℕ → List (WorldChannel K) → Option (State K)
link_in n c cs = link_there n (channel c cs)

abbrev pub links_of : {K : Type 0} → Node → List (WorldChannel K) → Links
links_of n cs = record {
  sides = λ c. option_map read_side (saved_of (link_in n c cs));
  halted = λ c. has_halted (link_in n c cs);
}

abbrev pub scene_of : {K : Type 0} → Node → World K → Scene
scene_of n w = record {
  links = links_of n w.dispatchers.channels.channels;
  book = (table_of (node_at n w.nodes).book).htlcs;
}

-- a link at this end
pub linked : {K : Type 0} (s : State K) (e : ChannelEnd) (h : Bool) → LinkIs s e h → saved_of (Some s) ≡ Some e
linked s e h l = ap saved_end l.stage

-- ---- channels by their numbers

pub either : (b : Bool) → (b ≡ true) ⊎ (b ≡ false)
either true = inl refl
either false = inr refl

pub lookup_map : {K : Type 0} (f : WorldChannel K → WorldChannel K) → ((c : WorldChannel K) → (f c).number ≡ c.number)
    → (d : ℕ) (cs : List (WorldChannel K)) → channel d (map f cs) ≡ option_map f (channel d cs)
lookup_map f same d [] = refl
lookup_map f same d (c ∷ cs) =
    ap (λ n. cond (n == d) (Some (f c)) (channel d (map f cs))) (same c)
    ∙ ap (λ o. cond (c.number == d) (Some (f c)) o) (lookup_map f same d cs) ∙ by (c.number == d)
  where
    by : (b : Bool) → cond b (Some (f c)) (option_map f (channel d cs)) ≡ option_map f (cond b (Some c) (channel d cs))
    by true = refl
    by false = refl

pub found_number : {K : Type 0} (d : ℕ) (cs : List (WorldChannel K)) (c : WorldChannel K) → channel d cs ≡ Some c
    → c.number ≡ d
found_number d [] c e = absurd (cc)
found_number d (x ∷ cs) c e = cases (x.number == d) refl e (λ r. found_number d cs c r)
  where
    cases : (b : Bool) → (x.number == d) ≡ b → cond b (Some x) (channel d cs) ≡ Some c
        → (channel d cs ≡ Some c → c.number ≡ d)
        → c.number ≡ d
    cases true is f rest =
        let same : x ≡ c = cc in ap (λ (z : WorldChannel _). z.number) (sym same) ∙ eqb-true x.number d is
    cases false is f rest = rest f

pub each_found : {K : Type 0} (P : WorldChannel K → Type 0) (d : ℕ) (cs : List (WorldChannel K)) (c : WorldChannel K)
    → Each P cs → channel d cs ≡ Some c → P c
each_found P d [] c h e = absurd (cc)
each_found P d (x ∷ cs) c h e = cases (x.number == d) e (λ r. each_found P d cs c h.1 r)
  where
    cases : (b : Bool) → cond b (Some x) (channel d cs) ≡ Some c → (channel d cs ≡ Some c → P c) → P c
    cases true f rest = let same : x ≡ c = cc in subst P same h.0
    cases false f rest = rest f

-- ---- one channel moves

module _ {K : Type 0} (signer : K → Signer) (n : Node) (at : ℕ) (f : WorldChannel K → List Move) where
  abbrev pub now : List (WorldChannel K) → List (WorldChannel K)
  now cs = map (moved_if signer at f) cs

  pub same_number : (c : WorldChannel K) → (moved_if signer at f c).number ≡ c.number
  same_number c = cases (c.number == at)
    where
      cases : (b : Bool) → (cond b (moved signer f c) c).number ≡ c.number
      cases true = refl
      cases false = refl

  pub elsewhere : (d : ℕ) → (d == at) ≡ false → (cs : List (WorldChannel K)) → link_in n d (now cs) ≡ link_in n d cs
  elsewhere d isnt cs = ap (link_there n) (lookup_map (moved_if signer at f) same_number d cs)
      ∙ cases (channel d cs) refl
    where
      cases : (o : Option (WorldChannel K)) → channel d cs ≡ o
          → link_there n (option_map (moved_if signer at f) o) ≡ link_there n o
      cases None e = refl
      cases (Some c) e = ap (λ b. link_there n (Some (cond b (moved signer f c) c)))
          (ap (λ k. k == at) (found_number d cs c e) ∙ isnt)

  pub there : (cs : List (WorldChannel K))
      → link_in n at (now cs) ≡ link_there n (option_map (moved signer f) (channel at cs))
  there cs = ap (link_there n) (lookup_map (moved_if signer at f) same_number at cs) ∙ cases (channel at cs) refl
    where
      cases : (o : Option (WorldChannel K)) → channel at cs ≡ o
          → link_there n (option_map (moved_if signer at f) o) ≡ link_there n (option_map (moved signer f) o)
      cases None e = refl
      cases (Some c) e = ap (λ b. link_there n (Some (cond b (moved signer f c) c)))
          (eq-eqb c.number at (found_number at cs c e))

-- ---- nodes and sides

pub side_same : {K : Type 0} (m n : Node) (c : WorldChannel K) → is_node m n ≡ true → side_of n c ≡ side_of m c
side_same m n c e = ap (λ k. cond (c.funder.letter == k) (Some Funder) (cond (c.fundee.letter == k) (Some Fundee) None))
    (sym (eqb-true m.letter n.letter e))

pub side_apart : {K : Type 0} (m n : Node) (c : WorldChannel K) (r q : Role) → is_node m n ≡ false
    → side_of m c ≡ Some r → side_of n c ≡ Some q → q ≡ other r
side_apart m n c r q isnt e f = cases r q (is_node c.funder m) refl (is_node c.funder n) refl (is_node c.fundee m) refl
    (is_node c.fundee n) refl e f
  where
    same_letters : (x : Node) → is_node x m ≡ true → is_node x n ≡ true → ⊥
    same_letters x a b = absurd (let no : true ≡ false =
        sym (eq-eqb m.letter n.letter (sym (eqb-true x.letter m.letter a) ∙ eqb-true x.letter n.letter b)) ∙ isnt in cc)

    cases : (r q : Role) (a : Bool) → is_node c.funder m ≡ a → (b : Bool) → is_node c.funder n ≡ b → (g : Bool)
        → is_node c.fundee m ≡ g → (h : Bool) → is_node c.fundee n ≡ h
        → cond a (Some Funder) (cond g (Some Fundee) None) ≡ Some r
        → cond b (Some Funder) (cond h (Some Fundee) None) ≡ Some q → q ≡ other r
    cases Funder Fundee a ea b eb g eg h eh e f = refl
    cases Fundee Funder a ea b eb g eg h eh e f = refl
    cases Funder Funder true ea true eb g eg h eh e f = absurd (same_letters c.funder ea eb)
    cases Funder Funder true ea false eb g eg true eh e f = absurd (cc)
    cases Funder Funder true ea false eb g eg false eh e f = absurd (cc)
    cases Funder Funder false ea b eb true eg h eh e f = absurd (cc)
    cases Funder Funder false ea b eb false eg h eh e f = absurd (cc)
    cases Fundee Fundee true ea b eb g eg h eh e f = absurd (cc)
    cases Fundee Fundee false ea true eb g eg h eh e f = absurd (cc)
    cases Fundee Fundee false ea false eb true eg true eh e f = absurd (same_letters c.fundee eg eh)
    cases Fundee Fundee false ea false eb true eg false eh e f = absurd (cc)
    cases Fundee Fundee false ea false eb false eg h eh e f = absurd (cc)

-- ---- moves of a node's side: of another node nothing changes

module _ {K : Type 0} (signer : K → Signer) (m : Node) (act : Role → Move) (of : (s : Role) → IsOfSide (act s) s) where
  abbrev pub of_node : WorldChannel K → List Move
  of_node c = by (side_of m c) act

  other_there : (n : Node) → is_node m n ≡ false → (o : Option (WorldChannel K))
      → link_there n (option_map (moved signer of_node) o) ≡ link_there n o
  other_there n isnt None = refl
  other_there n isnt (Some c) = sides (side_of m c) (side_of n c) refl refl
    where
      sides : (r q : Option Role) → side_of m c ≡ r → side_of n c ≡ q
          → link_by (record c { both = run_both signer (channel_id_of c.number) (by r act) c.both }) q ≡ link_by c q
      sides r None e f = refl
      sides None (Some q) e f = refl
      sides (Some r) (Some q) e f = subst (λ z. ◌≡◌ {A = Option (State K)}
          (Some (place_of z (moves signer (channel_id_of c.number) (act r) c.both)).link)
          (Some (place_of z c.both).link))
          (sym (side_apart m n c r q isnt e f)) (ap Some (other_stays signer (channel_id_of c.number) act of r c.both))

  pub other_node : (n : Node) (at : ℕ) (cs : List (WorldChannel K)) → is_node m n ≡ false → (d : ℕ)
      → link_in n d (now signer n at of_node cs) ≡ link_in n d cs
  other_node n at cs isnt d = elim (either (d == at)) [
    | inr apart ↦ elsewhere signer n at of_node d apart cs
    | inl is ↦ subst (λ k. link_in n k (now signer n at of_node cs) ≡ link_in n k cs) (sym (eqb-true d at is))
        (there signer n at of_node cs ∙ other_there n isnt (channel at cs))
  ]

  -- and of the node itself
  pub own_node : (n : Node) (at : ℕ) (cs : List (WorldChannel K)) → is_node m n ≡ true → (c : WorldChannel K) (r : Role)
      → channel at cs ≡ Some c → side_of n c ≡ Some r → link_in n at (now signer n at of_node cs)
      ≡ Some (place_of r (moves signer (channel_id_of c.number) (act r) c.both)).link
  own_node n at cs is c r e f =
      there signer n at of_node cs ∙ ap (λ o. link_there n (option_map (moved signer of_node) o)) e
      ∙ ap (link_by (moved signer of_node c)) f
      ∙ ap (λ o. Some (place_of r (run_both signer (channel_id_of c.number) (by o act) c.both)).link)
      (sym (side_same m n c is) ∙ f)

  -- where the node has no end in it
  pub no_node : (n : Node) (at : ℕ) (cs : List (WorldChannel K)) → is_node m n ≡ true → link_in n at cs ≡ None
      → link_in n at (now signer n at of_node cs) ≡ None
  no_node n at cs is none = there signer n at of_node cs ∙ cases (channel at cs) none
    where
      cases : (o : Option (WorldChannel K)) → link_there n o ≡ None
          → link_there n (option_map (moved signer of_node) o) ≡ None
      cases None e = refl
      cases (Some c) e = sides (side_of n c) e
        where
          sides : (q : Option Role) → link_by c q ≡ None → link_by (moved signer of_node c) q ≡ None
          sides None f = refl
          sides (Some q) f = absurd (cc)

  -- where every channel moves so
  pub other_all : (n : Node) (cs : List (WorldChannel K)) → is_node m n ≡ false → (d : ℕ)
      → link_in n d (map (moved signer of_node) cs) ≡ link_in n d cs
  other_all n cs isnt d = ap (link_there n) (lookup_map (moved signer of_node) (λ c. refl) d cs)
      ∙ other_there n isnt (channel d cs)
