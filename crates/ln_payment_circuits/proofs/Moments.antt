-- A node at one moment as its payments see it, and what a change of one of its channels makes of that.
use Rattle.std.proofs.Common.{◌≡◌, inl, inr, ℕ, ◌≤◌, List, refl, sym, ap, ◌∙◌, subst, arith}
use Rattle.std.proofs.Common.{Bool, true, cond, ◌==◌, Option, Some, None}
use Rattle.std.specs.Prelude.{option_map}
use Rattle.std.proofs.lemmas.Bool.{eqb-true, eq-eqb}
use Rattle.ln_log.specs.declared.mark.Decision.{Decision as LogDecision}
use Rattle.ln_log.specs.Log.{Log}
use Rattle.ln_channel.specs.End.{End, end_dropped}
use Rattle.ln_channel.specs.Base.{based, entering, is_open}
use Rattle.ln_channel.specs.Ledger.{Ledger}
use Rattle.ln_payment_circuits.specs.Snapshot.{Snapshot, IsIn, IsFit, origin}
use Rattle.ln_payment_circuits.specs.Shift.{Shift, Stays, Takes, Proposes, Signs, Accepts, Learns, Closes, Notes}
use Rattle.ln_payment_circuits.specs.Shift.{IsPlain}
use Rattle.ln_payment_circuits.specs.Happens.{Goes, AreSame, Loses}
use Rattle.ln_payment_circuits.proofs.Lists.{either, of_picked}
use Rattle.ln_payment_circuits.proofs.Links.{Side, Links, Changed}
use Rattle.ln_payment_circuits.proofs.Losses.{Drops, IsSoundSide, all_dropped}
use Rattle.ln_payment_circuits.proofs.Shifts.{side_of, base_shift}
use Rattle.ln_payment_circuits.proofs.Scenes.{Scene, HavePayments, links_go}

abbrev pub links_of : Snapshot → Links
links_of s = record { sides = λ c. option_map side_of (s.ends c); halted = s.halted }

abbrev pub scene_of : Snapshot → Scene
scene_of s = record { links = links_of s; book = s.book }

-- ---- of each end

abbrev pub EachEnd : (End → Type 0) → Snapshot → Type 0
EachEnd P s = (c : ℕ) (e : End) → s.ends c ≡ Some e → P e

pub each_goes : (P : End → Type 0) (c : ℕ) (o : Option End) (f : End) (s t : Snapshot) → Goes c o f s t → P f
    → EachEnd P s → EachEnd P t
each_goes P c o f s t g new old d e is = elim (either (d == c)) [
  | inl here ↦ let some : Some f ≡ Some e = sym g.now ∙ ap t.ends (sym (eqb-true d c here)) ∙ is in
      let same : f ≡ e = cc in subst P same new
  | inr isnt ↦ old d e (sym (g.others d isnt) ∙ is)
]

pub each_same : (P : End → Type 0) (s t : Snapshot) → AreSame s t → EachEnd P s → EachEnd P t
each_same P s t g old d e is = old d e (sym (g.ends d) ∙ is)

pub each_loses : (P : End → Type 0) (lost : ℕ → Bool) (s t : Snapshot) → Loses lost s t
    → EachEnd (λ e. P (end_dropped e)) s → EachEnd P s → EachEnd P t
each_loses P lost s t g drops old d e is = elim (either (lost d)) [
  | inl gone ↦ cases (s.ends d) refl (sym (g.theirs d gone) ∙ is)
  | inr isnt ↦ old d e (sym (g.others d isnt) ∙ is)
]
  where
    cases : (o : Option End) → s.ends d ≡ o → option_map end_dropped o ≡ Some e → P e
    cases None was f = absurd (cc)
    cases (Some x) was f = let same : end_dropped x ≡ e = cc in subst P same (drops d x was)

-- ---- links

pub changed : (id_of : ℕ → List ℕ) (c : ℕ) (e f : End) (s t : Snapshot) → Goes c (Some e) f s t
    → Changed (origin id_of) c (side_of e) (side_of f) (links_of s) (links_of t)
changed id_of c e f s t g = record {
  before = ap (option_map side_of) g.before;
  behind = ap (option_map side_of) g.now;
  others = λ d isnt. ap (option_map side_of) (g.others d isnt);
  halted = g.halted;
}

pub drops : (lost : ℕ → Bool) (s t : Snapshot) → EachEnd IsFit s → Loses lost s t → Drops lost (links_of s) (links_of t)
drops lost s t fit g = record {
  lost = λ d is. ap (option_map side_of) (g.theirs d is) ∙ dropped_side (s.ends d);
  others = λ d isnt. ap (option_map side_of) (g.others d isnt);
  sound = λ d. sound_of d (s.ends d) refl;
}
  where
    dropped_side : (o : Option End) → option_map side_of (option_map end_dropped o) ≡ all_dropped (option_map side_of o)
    dropped_side None = refl
    dropped_side (Some e) = refl

    sound_of : (d : ℕ) (o : Option End) → s.ends d ≡ o → IsSoundSide (option_map side_of o)
    sound_of d None is = tt
    sound_of d (Some e) is = (fit d e is).sound

-- ---- an end goes on, and then is saved

-- where one end is so
abbrev pub with_side : ℕ → Side → Links → Links
with_side c x l = record { sides = λ d. cond (d == c) (Some x) (l.sides d); halted = l.halted }

module _ (id_of : ℕ → List ℕ) (c : ℕ) (e f : End) (s t : Snapshot) (g : Goes c (Some e) (based f) s t) where
  -- between both
  abbrev pub mid : Links
  mid = with_side c (side_of f) (links_of s)

  abbrev pub mid_scene : Scene
  mid_scene = record { links = mid; book = t.book }

  pub to_mid : Changed (origin id_of) c (side_of e) (side_of f) (links_of s) mid
  to_mid = record {
    before = ap (option_map side_of) g.before;
    behind = ap (λ b. cond b (Some (side_of f)) ((links_of s).sides c)) (eq-eqb c c refl);
    others = λ d isnt. ap (λ b. cond b (Some (side_of f)) ((links_of s).sides d)) isnt;
    halted = λ d. refl;
  }

  from_mid : Changed (origin id_of) c (side_of f) (side_of (based f)) mid (links_of t)
  from_mid = record {
    before = ap (λ b. cond b (Some (side_of f)) ((links_of s).sides c)) (eq-eqb c c refl);
    behind = ap (option_map side_of) g.now;
    others = λ d isnt. ap (option_map side_of) (g.others d isnt)
        ∙ sym (ap (λ b. cond b (Some (side_of f)) ((links_of s).sides d)) isnt);
    halted = g.halted;
  }

  pub saved : f.dance.log.first.own ≤ f.dance.log.current.own → HavePayments id_of mid_scene
      → HavePayments id_of (scene_of t)
  saved le k h = links_go id_of h mid_scene (scene_of t) refl (k h)
      (base_shift (origin id_of) h c f mid (links_of t) from_mid le (k h).0 (k h).1.of_links)

  -- each decision that is saved was there between
  pub fewer_saved : (b : ℕ) (Y : Side) → (links_of t).sides b ≡ Some Y → (d : LogDecision) → IsIn d Y.decisions
      → (X : Side) × (mid.sides b ≡ Some X) × IsIn d X.decisions
  fewer_saved b Y is d m = elim (either (b == c)) [
    | inl here ↦ (
      side_of f,
      ap (λ z. cond z (Some (side_of f)) ((links_of s).sides b)) here,
      of_picked (is_open (entering f)) d f.ledger.decisions (subst (λ (z : Side). IsIn d z.decisions)
          (saved_side here) m),
    )
    | inr isnt ↦ (
      Y,
      ap (λ z. cond z (Some (side_of f)) ((links_of s).sides b)) isnt
          ∙ sym (ap (option_map side_of) (g.others b isnt)) ∙ is,
      m,
    )
  ]
    where
      saved_side : (b == c) ≡ true → Y ≡ side_of (based f)
      saved_side here =
          let some : Some Y ≡ Some (side_of (based f)) =
          sym is ∙ ap (λ n. (links_of t).sides n) (eqb-true b c here) ∙ ap (option_map side_of) g.now in
          let same : Y ≡ side_of (based f) = cc in same

-- ---- what a shift leaves alone

pub first_kept : (e f : End) → IsFit e → Shift e f → f.dance.log.first.own ≤ f.dance.log.current.own
first_kept e f fit x = cases x
  where
    at : (l : Log) → f.dance.log ≡ l → l.first.own ≤ l.current.own → f.dance.log.first.own ≤ f.dance.log.current.own
    at l is le = subst (λ (z : Log). z.first.own ≤ z.current.own) (sym is) le

    cases : Shift e f → f.dance.log.first.own ≤ f.dance.log.current.own
    cases (Stays l g) = at e.dance.log l fit.sound.own_first
    cases (Takes u may l g) = at _ l fit.sound.own_first
    cases (Proposes u may next l g) = at _ l fit.sound.own_first
    cases (Signs l g) = at _ l fit.sound.own_first
    cases (Accepts l g) =
        let a = fit.sound.own_first in
        let b = fit.sound.within.own_current in
        at _ l (omega (arith, a, b))
    cases (Learns l g) = at _ l fit.sound.own_first
    cases (Closes l g) = at _ l fit.sound.own_first
    cases (Notes c l g) = at e.dance.log l fit.sound.own_first

pub plain_decisions : (e f : End) (x : Shift e f) → IsPlain x → f.ledger.decisions ≡ e.ledger.decisions
plain_decisions e f (Stays l g) p = ap (λ (z : Ledger). z.decisions) g
plain_decisions e f (Takes u may l g) p = ap (λ (z : Ledger). z.decisions) g
plain_decisions e f (Proposes u may next l g) p = ap (λ (z : Ledger). z.decisions) g
plain_decisions e f (Signs l g) p = ap (λ (z : Ledger). z.decisions) g
plain_decisions e f (Accepts l g) p = ap (λ (z : Ledger). z.decisions) g
plain_decisions e f (Learns l g) p = ap (λ (z : Ledger). z.decisions) g
plain_decisions e f (Closes l g) p = ap (λ (z : Ledger). z.decisions) g
plain_decisions e f (Notes c l g) p = absurd p
