-- What a dispatcher reads of its end is the event of that number of the machine's moves; and these only grow.
use Rattle.std.proofs.Common.{◌≡◌, ℕ, zero, suc, ◌+◌, ◌-◌, ◌≤◌, List, [], ◌∷◌, ◌++◌, length, drop, refl, sym, ap, ◌∙◌}
use Rattle.std.proofs.Common.{arith, Bool, true, false, cond, nat_le, leb-true, Option, Some, None}
use Rattle.std.proofs.Common.{option_map, append_assoc}
use Rattle.std.specs.List.{cons_option}
use Rattle.std.proofs.lemmas.List.{length-drop}
use Rattle.ln_keys.specs.declared.keys.ChannelKeys.{Ghosts}
use Rattle.ln_keys.specs.declared.role.Role.{Role}
use Rattle.ln_log.specs.declared.mark.EventRef.{EventRef}
use Rattle.ln_log.specs.Events.{events}
use Rattle.ln_hooks.specs.declared.event.ChannelEvent.{ChannelEvent}
use Rattle.ln_channel.specs.declared.machine.Stage.{Stage}
use Rattle.ln_channel.specs.declared.machine.Stage.TheVariants as stage
use Rattle.ln_channel.specs.End.{End}
use Rattle.ln_channel.specs.Record.{saved_end}
use Rattle.ln_channel.specs.Pending.{named_by, pending_from}
use Rattle.ln_channel_laws.specs.Pending.{counted, IsInStep}
use Rattle.ln_channel_laws.specs.Told.{as_told}
use Rattle.ln_channel_laws.specs.Moves.{after_all}
use Rattle.ln_channel_laws.proofs.Offered.{told_append, events_append}
use Rattle.ln_world_channels.specs.declared.step.Step.{Step}
use Rattle.ln_world_channels.specs.WorldChannel.{WorldChannel, place_of}
use Rattle.ln_world_channels.specs.Promises.{AtEnd}
use Rattle.ln_world_channels.specs.Machine.{history, moves_in, AreInStep}
use Rattle.ln_world_channels.specs.World.{World, empty, happens, run}
use Rattle.ln_world_dispatch.specs.World.{item, named_at, undecided, saved_in, undecided_of}
use Rattle.ln_world_dispatch.specs.Dispatcher.{Begins}

-- ---- lists

pub item_below : {A : Type 0} (n : ℕ) (xs : List A) (x : A) → item n xs ≡ Some x → n + 1 ≤ length xs
item_below n [] x is = absurd (cc)
item_below zero (y ∷ xs) x is = omega arith
item_below (suc n) (y ∷ xs) x is = let below = item_below n xs x is in omega (arith, below)

pub item_at : {A : Type 0} (n : ℕ) (xs : List A) (e : A) → item n xs ≡ Some e → drop n xs ≡ e ∷ drop (suc n) xs
item_at n [] e is = absurd (cc)
item_at zero (x ∷ xs) e is = ap (λ y. y ∷ xs) (let same : x ≡ e = cc in same)
item_at (suc n) (x ∷ xs) e is = item_at n xs e is

item_dropped : {A : Type 0} (d i : ℕ) (xs : List A) → item i (drop d xs) ≡ item (d + i) xs
item_dropped zero i xs = ap (λ n. item n xs) (let e : i ≡ 0 + i = omega arith in e)
item_dropped (suc d) i [] = refl
item_dropped (suc d) i (x ∷ xs) =
    item_dropped d i xs ∙ ap (λ n. item n (x ∷ xs)) (let e : suc (d + i) ≡ suc d + i = omega arith in e)

-- ---- the ledger's entries, each of which names an event

count_pairs : (n : ℕ) (es : List ChannelEvent) → length (counted n es) ≡ length es
count_pairs n [] = refl
count_pairs n (e ∷ es) = ap suc (count_pairs (n + 1) es)

no_more : (n : ℕ) (rs : List EventRef) (e : End) → length (pending_from n rs e) ≤ length rs
no_more n [] e = omega arith
no_more n (r ∷ rs) e = by (named_by r e) (no_more (n + 1) rs e)
  where
    by : (o : Option ChannelEvent) → length (pending_from (n + 1) rs e) ≤ length rs
        → length (cons_option (option_map (λ event. (n, event)) o) (pending_from (n + 1) rs e)) ≤ suc (length rs)
    by None le = omega (arith, le)
    by (Some x) le = omega (arith, le)

one_named : (o : Option ChannelEvent) (n : ℕ) (ps : List (ℕ × ChannelEvent)) (e : ChannelEvent)
    (es : List ChannelEvent) (m : ℕ) → length ps ≤ m → length es ≡ m
    → cons_option (option_map (λ event. (n, event)) o) ps ≡ (n, e) ∷ counted (n + 1) es
    → (o ≡ Some e) × (ps ≡ counted (n + 1) es)
one_named None n ps e es m le same is =
    let long : length ps ≡ suc (length (counted (n + 1) es)) = ap length is in
    let count = count_pairs (n + 1) es in
    absurd (omega (arith, le, same, long, count))
one_named (Some x) n ps e es m le same is =
    let first : ◌≡◌ {A = ℕ × ChannelEvent} (n, x) (n, e) = cc in
    let rest : ps ≡ counted (n + 1) es = cc in
    (ap (λ (p : ℕ × ChannelEvent). Some p.1) first, rest)

named_so : (n : ℕ) (rs : List EventRef) (e : End) (es : List ChannelEvent) → pending_from n rs e ≡ counted n es
    → length rs ≡ length es → (i : ℕ) → named_at (item i rs) e ≡ item i es
named_so n [] e [] is long i = refl
named_so n [] e (x ∷ es) is long i = absurd (omega (arith, long))
named_so n (r ∷ rs) e [] is long i = absurd (omega (arith, long))
named_so n (r ∷ rs) e (x ∷ es) is long zero =
    (one_named (named_by r e) n (pending_from (n + 1) rs e) x es (length rs) (no_more (n + 1) rs e)
    (omega (arith, long)) is).0
named_so n (r ∷ rs) e (x ∷ es) is long (suc i) =
    named_so (n + 1) rs e es (one_named (named_by r e) n (pending_from (n + 1) rs e) x es (length rs)
    (no_more (n + 1) rs e) (omega (arith, long)) is).1 (omega (arith, long)) i

read_by : (b : Bool) (n : ℕ) (e : End) (evs : List ChannelEvent) (x : ChannelEvent) → IsInStep evs e
    → nat_le e.ledger.decided n ≡ b
    → cond b (named_at (item (n - e.ledger.decided) e.ledger.undecided) e) None ≡ Some x → item n evs ≡ Some x
read_by false n e evs x h le is = absurd (cc)
read_by true n e evs x h le is =
    let d = e.ledger.decided in
    let below : d ≤ n = leb-true d n le in
    let all = h.all in
    let left = length-drop d evs in
    let long : length e.ledger.undecided ≡ length (drop d evs) = omega (arith, all, left) in
    let back : d + (n - d) ≡ n = omega (arith, below) in
    ap (λ i. item i evs) (sym back) ∙ sym (item_dropped d (n - d) evs)
    ∙ sym (named_so d e.ledger.undecided e (drop d evs) h.pending long (n - d)) ∙ is

-- an event that is read is that of its number
read_so : (n : ℕ) (e : End) (evs : List ChannelEvent) (x : ChannelEvent) → IsInStep evs e → undecided n e ≡ Some x
    → item n evs ≡ Some x
read_so n e evs x h is = read_by (nat_le e.ledger.decided n) n e evs x h refl is

stage_read : (n : ℕ) (s : Stage) (evs : List ChannelEvent) (x : ChannelEvent) → AtEnd (IsInStep evs) s
    → undecided_of n (saved_end s) ≡ Some x → item n evs ≡ Some x
stage_read n (stage.Funded e) evs x h is = read_so n e evs x h is
stage_read n (stage.AwaitsOpen c) evs x h is = absurd h
stage_read n (stage.AwaitsAccept s) evs x h is = absurd h
stage_read n (stage.AwaitsCreated a) evs x h is = absurd h
stage_read n (stage.AwaitsSigned e) evs x h is = absurd h
stage_read n stage.Gone evs x h is = absurd h

module _ {K : Type 0} where
  pub event_read : (n : ℕ) (side : Role) (o : Option (WorldChannel K)) (evs : List ChannelEvent) (x : ChannelEvent)
      → AreInStep side evs o → undecided_of n (saved_in side o) ≡ Some x → item n evs ≡ Some x
  event_read n side None evs x h is = absurd (cc)
  event_read n side (Some c) evs x h is = stage_read n (place_of side c.both).link.stage evs x h is

-- ---- the events of the moves

module _ {K : Type 0} (k : Ghosts K) where
  history_append : (n : ℕ) (ss ts : List (Step K k)) (w : World K)
      → history k n (ss ++ ts) w ≡ history k n ss w ++ history k n ts (run k ss w)
  history_append n [] ts w = refl
  history_append n (s ∷ ss) ts w =
      ap (λ ms. moves_in k n s w ++ ms) (history_append n ss ts (happens k s w))
      ∙ sym (append_assoc (moves_in k n s w) (history k n ss (happens k s w))
      (history k n ts (run k ss (happens k s w))))

  abbrev pub events_behind : ℕ → Role → List (Step K k) → List ChannelEvent
  events_behind n side ss = as_told (events side (history k n ss empty) None)

  -- further steps append some
  pub events_more : (n : ℕ) (side : Role) (ss ts : List (Step K k))
      → Begins (events_behind n side ss) (events_behind n side (ss ++ ts))
  events_more n side ss ts =
      let ms = history k n ss empty in
      let ns = history k n ts (run k ss empty) in (
        as_told (events side ns (after_all ms None)),
        sym (ap (λ l. as_told (events side l None)) (history_append n ss ts empty)
            ∙ ap as_told (events_append side ms ns None)
            ∙ told_append (events side ms None) (events side ns (after_all ms None))),
      )

  pub run_append : (ss ts : List (Step K k)) (w : World K) → run k (ss ++ ts) w ≡ run k ts (run k ss w)
  run_append [] ts w = refl
  run_append (s ∷ ss) ts w = run_append ss ts (happens k s w)
