-- What each kind of step makes of dispatchers and of their hooks leaves each hook at the end of its chain.
use Rattle.std.proofs.Common.{◌≡◌, ℕ, zero, suc, ◌≤◌, ◌==◌, List, [], ◌∷◌, ◌++◌, set, map}
use Rattle.std.proofs.Common.{refl, sym, ap, ◌∙◌, arith, subst, Bool, true, false, cond, ◌||◌, position}
use Rattle.std.proofs.Common.{Option, Some, None}
use Rattle.std.specs.List.{list_any}
use Rattle.std.proofs.lemmas.Bool.{eqb-true, eq-eqb}
use Rattle.ln_keys.specs.declared.role.Role.{Role}
use Rattle.ln_hooks.specs.declared.event.ChannelEvent.{ChannelEvent}
use Rattle.ln_hooks.specs.declared.verdict.Verdict.{Verdict}
use Rattle.ln_hooks.specs.declared.verdict.Verdict.TheVariants.{Continue}
use Rattle.ln_world_channels.specs.declared.step.End.{End}
use Rattle.ln_world_dispatch.specs.Dispatcher.{Dispatcher, fresh, restarted, serving, registered, is_at, dispatcher_at}
use Rattle.ln_world_dispatch.specs.Dispatcher.{at_dispatcher}
use Rattle.ln_world_dispatch.specs.World.{item}
use Rattle.ln_world_dispatch.specs.Slots.{Answers, says_at, one_at, calls_at, slots_of, Tables, CallsAt, SlotsAt}
use Rattle.ln_world_dispatch.specs.Slots.{set_aside, Once, Stand, Moved}
use Rattle.ln_world_dispatch.proofs.Serving.{serves_one}
use Rattle.ln_world_dispatch.proofs.Slotting.{slots_one}
use Rattle.ln_world_dispatch.proofs.Restarting.{anew_total, anew_slotted, joined_total, joined_slotted}
use Rattle.ln_world_dispatch.proofs.Once.{served_slots, slotted_slots, any_push, room}

-- ---- what is left of those that were handed in

taken_own : {H : Type 0} (p i : ℕ) (left : List (Option H)) (h : H) → item i (set left p None) ≡ Some (Some h)
    → item i left ≡ Some (Some h)
taken_own p i [] h is = is
taken_own zero zero (x ∷ xs) h is = absurd (cc)
taken_own zero (suc i) (x ∷ xs) h is = is
taken_own (suc p) zero (x ∷ xs) h is = is
taken_own (suc p) (suc i) (x ∷ xs) h is = taken_own p i xs h is

others_stay : {H : Type 0} (p i : ℕ) (left : List (Option H)) (o : Option (Option H)) → (p ≡ i → ⊥)
    → item i left ≡ o → item i (set left p None) ≡ o
others_stay p i [] o other is = is
others_stay zero zero (x ∷ xs) o other is = absurd (other refl)
others_stay zero (suc i) (x ∷ xs) o other is = is
others_stay (suc p) zero (x ∷ xs) o other is = is
others_stay (suc p) (suc i) (x ∷ xs) o other is = others_stay p i xs o (λ e. other (ap suc e)) is

neither : (b c : Bool) → b || c ≡ false → (b ≡ false) × (c ≡ false)
neither true c h = absurd (cc)
neither false c h = (refl, h)

not_same : (p i : ℕ) → (p == i) ≡ false → p ≡ i → ⊥
not_same p i h e = let same : (p == i) ≡ true = eq-eqb p i e in absurd (cc)

once_at : (used : List ℕ) (ds : List Dispatcher) → Once used ds → (i : ℕ) → slots_of i ds ≤ 1
once_at used ds once i = by (list_any (λ h. h == i) used) (once i)
  where
    by : (b : Bool) → slots_of i ds ≤ cond b 1 0 → slots_of i ds ≤ 1
    by true le = le
    by false le = omega (arith, le)

module _ {H : Type 0} (calls : H → ChannelEvent → Verdict → H → Type 0) (handed : List H) (a : Answers)
    (used : List ℕ) (ds : List Dispatcher) (ts : List (Tables calls)) (left : List (Option H))
    (k : Stand calls handed a used ds ts left) where
  -- nothing is done
  pub stays : Moved calls handed a ds (λ b. Continue) Continue used ds ts left
  stays = record { more = a; stand = k; told = λ b agree. (agree, refl) }

  -- the end's dispatcher serves an event
  pub serves : (e : End) (event : ChannelEvent) (v : Verdict) (i : ℕ) (x : Dispatcher) (ts' : List (Tables calls))
      → Some i ≡ position (is_at e) ds → CallsAt calls i ts event v ts'
      → Moved calls handed a ds (λ b. says_at b (dispatcher_at e ds)) v used (at_dispatcher e
      (serving event v) ds) ts' left
  serves e event v i x ts' is c =
      let s = serves_one calls handed e event v a ds ts ts' i x is c (once_at used ds k.once) k.slotted in
      record {
        more = s.more;
        stand = record {
          once = λ j. let o = k.once j in let same = served_slots j e event v ds in omega (arith, o, same);
          slotted = s.slotted;
          offered = k.offered;
        };
        told = s.told;
      }

  -- a hook that wasn't registered gets a slot
  pub slots : (e : End) (hook : ℕ) (h : H) (i : ℕ) (x : Dispatcher) (ts' : List (Tables calls))
      → list_any (λ u. u == hook) used ≡ false → item hook left ≡ Some (Some h)
      → Some i ≡ position (is_at e) ds → SlotsAt calls i ts h ts'
      → Moved calls handed a ds (λ b. Continue) Continue (used ++ hook ∷ []) (at_dispatcher e (registered hook) ds) ts'
      (set left hook None)
  slots e hook h i x ts' unused there is c =
      let s = slots_one calls handed a e hook h (k.offered.own hook h there) ds ts ts' i x is c k.slotted in
      record {
        more = a;
        stand = record {
          once = λ j. subst (λ b. slots_of j (at_dispatcher e (registered hook) ds) ≤ cond b 1 0) (sym
              (any_push j used hook))
              (room (slots_of j ds) (slots_of j (at_dispatcher e (registered hook) ds)) (list_any (λ u. u == j) used)
              (hook == j) (k.once j) (slotted_slots j e hook ds) (λ same.
              subst (λ m. list_any (λ u. u == m) used ≡ false) (eqb-true hook j same) unused));
          slotted = s.slotted;
          offered = record {
            own = λ j g at. k.offered.own j g (taken_own hook j left g at);
            there = λ j below free.
                let both = neither (list_any (λ u. u == j) used) (hook == j) (sym (any_push j used hook) ∙ free) in
                let g = k.offered.there j below both.0 in
                (g.0, others_stay hook j left (Some (Some g.0)) (not_same hook j both.1) g.1);
          };
        };
        told = λ b agree. (λ j m lt. agree j m (let same = s.as_often j in omega (arith, same, lt)), refl);
      }

  -- some dispatchers begin anew
  pub begin_anew : (anew : Dispatcher → Bool) (n : Dispatcher → ℕ)
      → Moved calls handed a ds (λ b. Continue) Continue used (map (λ d. cond (anew d) (restarted (n d) d) d) ds)
      (set_aside calls anew ds ts) left
  begin_anew anew n = record {
    more = a;
    stand = record {
      once = λ j. let o = k.once j in let same = anew_total anew n (one_at j) ds in omega (arith, o, same);
      slotted = anew_slotted calls handed a anew n ds ts k.slotted;
      offered = k.offered;
    };
    told = λ b agree. (
      λ j m lt. agree j m (let same = anew_total anew n (calls_at j) ds in omega (arith, same, lt)),
      refl,
    );
  }

  -- those of a channel join
  pub join : (x y : End) (r q : Role)
      → Moved calls handed a ds (λ b. Continue) Continue used (ds ++ fresh x r ∷ fresh y q ∷ [])
      (ts ++ ([], []) ∷ ([], []) ∷ []) left
  join x y r q = record {
    more = a;
    stand = record {
      once = λ j. let o = k.once j in let same = joined_total (one_at j) ds x y r q in omega (arith, o, same);
      slotted = joined_slotted calls handed a ds ts x y r q k.slotted;
      offered = k.offered;
    };
    told = λ b agree. (
      λ j m lt. agree j m (let same = joined_total (calls_at j) ds x y r q in omega (arith, same, lt)),
      refl,
    );
  }
