-- What calls make of a line.
use Rattle.std.proofs.Common.{◌≡◌, ℕ, ◌+◌, ◌≤◌, Bool, true, false, List, [], ◌∷◌, ◌++◌, Option, Some, None}
use Rattle.std.specs.Prelude.{⊤}
use Rattle.std.proofs.Common.{refl, sym, ap, subst, ◌∙◌, append_assoc, arith}
use Rattle.std.proofs.lemmas.List.{append-nil}
use Rattle.ln_host.specs.declared.blank.Blank.{Blank}
use Rattle.ln_host.specs.declared.line.Outgoing.{Outgoing}
use Rattle.ln_host.specs.declared.line.Told.{Told}
use Rattle.ln_host.specs.Line.{without_head}
use Rattle.ln_host.specs.Calls.{Call, Saves, Sends, Tells, Fills, Takes, Loses, Covered, Gone, Past, begun}
use Rattle.ln_host.specs.Calls.{leaves, takes, happens, run, told_by, AreSaved, AreRising}

abbrev pub past : Bool → List Outgoing → List Told → ℕ → ℕ → ℕ → List Covered → List Gone → List Told → Past
past b ms ts r s n ws gs h = record {
  line = record { record_waits = b; messages = ms; told = ts };
  records = r;
  saved = s;
  messages = n;
  waiting = ws;
  sent = gs;
  heard = h;
}

-- ---- what is told

-- heard, and then what waits to be
abbrev all_told : Past → List Told
all_told p = p.heard ++ p.line.told

told_leaves : (o : Option Blank) (cs : List Covered) (p : Past) → (without_head p.line).told ≡ p.line.told
    → all_told (leaves o cs p) ≡ all_told p
told_leaves None [] p e = refl
told_leaves None (c ∷ cs) p e = ap (λ (t : List Told). p.heard ++ t) e
told_leaves (Some b) cs p e = refl

told_takes : (b : Bool) (ms : List Outgoing) (ts : List Told) (r s n : ℕ) (ws : List Covered) (gs : List Gone)
    (h : List Told) → all_told (takes (past b ms ts r s n ws gs h)) ≡ h ++ ts
told_takes true ms ts r s n ws gs h = refl
told_takes false [] [] r s n ws gs h = refl
told_takes false [] (t ∷ ts) r s n ws gs h = append_assoc h (t ∷ []) ts
told_takes false (m ∷ ms) ts r s n ws gs h = told_leaves m.blank ws (past false (m ∷ ms) ts r s n ws gs h) refl

told_happens : (c : Call) (p : Past) → all_told (happens c p) ≡ all_told p ++ told_by (c ∷ [])
told_happens Saves p = sym (append-nil (all_told p))
told_happens (Sends m) p = sym (append-nil (all_told p))
told_happens (Tells t) p = sym (append_assoc p.heard p.line.told (t ∷ []))
told_happens (Fills f) p = sym (append-nil (all_told p))
told_happens Takes p =
    told_takes p.line.record_waits p.line.messages p.line.told p.records p.saved p.messages p.waiting p.sent p.heard
    ∙ sym (append-nil (all_told p))
told_happens Loses p = sym (append-nil (all_told p))

told_one : (c : Call) (cs : List Call) → told_by (c ∷ []) ++ told_by cs ≡ told_by (c ∷ cs)
told_one Saves cs = refl
told_one (Sends m) cs = refl
told_one (Tells t) cs = refl
told_one (Fills f) cs = refl
told_one Takes cs = refl
told_one Loses cs = refl

told_run : (cs : List Call) (p : Past) → all_told (run cs p) ≡ all_told p ++ told_by cs
told_run [] p = sym (append-nil (all_told p))
told_run (c ∷ cs) p =
    told_run cs (happens c p)
    ∙ (ap (λ (ts : List Told). ts ++ told_by cs) (told_happens c p)
    ∙ (append_assoc (all_told p) (told_by (c ∷ [])) (told_by cs)
    ∙ ap (λ (ts : List Told). all_told p ++ ts) (told_one c cs)))

pub heard_in_order : (cs : List Call) → (run cs begun).heard ++ (run cs begun).line.told ≡ told_by cs
heard_in_order cs = told_run cs begun

-- ---- what is sent

-- each message that waits came by a record up to this one
abbrev AreBy : ℕ → List Covered → Type 0
AreBy n [] = ⊤
AreBy n (c ∷ cs) = (c.by_record ≤ n) × AreBy n cs

later : (n m : ℕ) (cs : List Covered) → n ≤ m → AreBy n cs → AreBy m cs
later n m [] l a = tt
later n m (c ∷ cs) l a = (omega (arith, l, a.0), later n m cs l a.1)

one_more : (n : ℕ) (cs : List Covered) (c : Covered) → AreBy n cs → c.by_record ≤ n → AreBy n (cs ++ c ∷ [])
one_more n [] c a l = (l, tt)
one_more n (d ∷ cs) c a l = (a.0, one_more n cs c a.1 l)

saved_more : (gs : List Gone) (g : Gone) → AreSaved gs → g.by_record ≤ g.saved → AreSaved (gs ++ g ∷ [])
saved_more [] g a l = (l, tt)
saved_more (f ∷ gs) g a l = (a.0, saved_more gs g a.1 l)

record Kept (p : Past) : Type 0 where
  waiting : AreBy p.records p.waiting
  all_saved : p.line.record_waits ≡ false → p.saved ≡ p.records
  sent : AreSaved p.sent

kept_leaves : (o : Option Blank) (ws : List Covered) (p : Past) → p.waiting ≡ ws → p.saved ≡ p.records
    → (without_head p.line).record_waits ≡ false → Kept p → Kept (leaves o ws p)
kept_leaves None [] p e s f k = k
kept_leaves None (c ∷ cs) p e s f k =
    let a : AreBy p.records (c ∷ cs) = subst (λ (ws : List Covered). AreBy p.records ws) e k.waiting in
    record {
      waiting = a.1;
      all_saved = λ _. s;
      sent = saved_more p.sent _ k.sent (subst (λ (n : ℕ). c.by_record ≤ n) (sym s) a.0);
    }
kept_leaves (Some b) ws p e s f k = k

kept_takes : (b : Bool) (ms : List Outgoing) (ts : List Told) (r s n : ℕ) (ws : List Covered) (gs : List Gone)
    (h : List Told) → Kept (past b ms ts r s n ws gs h) → Kept (takes (past b ms ts r s n ws gs h))
kept_takes true ms ts r s n ws gs h k = record { waiting = k.waiting; all_saved = λ _. refl; sent = k.sent }
kept_takes false [] [] r s n ws gs h k = k
kept_takes false [] (t ∷ ts) r s n ws gs h k =
    record { waiting = k.waiting; all_saved = λ _. k.all_saved refl; sent = k.sent }
kept_takes false (m ∷ ms) ts r s n ws gs h k =
    kept_leaves m.blank ws (past false (m ∷ ms) ts r s n ws gs h) refl (k.all_saved refl) refl k

kept_happens : (c : Call) (p : Past) → Kept p → Kept (happens c p)
kept_happens Saves p k = record {
  waiting = later p.records (p.records + 1) p.waiting (omega arith) k.waiting;
  all_saved = λ e. absurd cc;
  sent = k.sent;
}
kept_happens (Sends m) p k = record {
  waiting = one_more p.records p.waiting (record { message = p.messages; by_record = p.records }) k.waiting (omega
      arith);
  all_saved = k.all_saved;
  sent = k.sent;
}
kept_happens (Tells t) p k = record { waiting = k.waiting; all_saved = k.all_saved; sent = k.sent }
kept_happens (Fills f) p k = record { waiting = k.waiting; all_saved = k.all_saved; sent = k.sent }
kept_happens Takes p k =
    kept_takes p.line.record_waits p.line.messages p.line.told p.records p.saved p.messages p.waiting p.sent p.heard k
kept_happens Loses p k = record { waiting = tt; all_saved = k.all_saved; sent = k.sent }

kept_run : (cs : List Call) (p : Past) → Kept p → Kept (run cs p)
kept_run [] p k = k
kept_run (c ∷ cs) p k = kept_run cs (happens c p) (kept_happens c p k)

kept_begun : Kept begun
kept_begun = record { waiting = tt; all_saved = λ _. refl; sent = tt }

pub saved_first : (cs : List Call) → AreSaved (run cs begun).sent
saved_first cs = (kept_run cs begun kept_begun).sent

-- ---- in which order

-- the numbers of those that have left, and then of those that wait, rise from this one on, below the next
abbrev AreRisingBelow : ℕ → List Covered → ℕ → Type 0
AreRisingBelow least [] next = least ≤ next
AreRisingBelow least (c ∷ cs) next = (least ≤ c.message) × AreRisingBelow (c.message + 1) cs next

abbrev RiseTo : ℕ → List Gone → List Covered → ℕ → Type 0
RiseTo least [] cs next = AreRisingBelow least cs next
RiseTo least (g ∷ gs) cs next = (least ≤ g.message) × RiseTo (g.message + 1) gs cs next

rising_more : (least : ℕ) (cs : List Covered) (next by : ℕ) → AreRisingBelow least cs next
    → AreRisingBelow least (cs ++ record { message = next; by_record = by } ∷ []) (next + 1)
rising_more least [] next by a = (a, omega arith)
rising_more least (c ∷ cs) next by a = (a.0, rising_more (c.message + 1) cs next by a.1)

rising_below : (least : ℕ) (cs : List Covered) (next : ℕ) → AreRisingBelow least cs next → least ≤ next
rising_below least [] next a = a
rising_below least (c ∷ cs) next a =
    let l = rising_below (c.message + 1) cs next a.1 in omega (arith, l, a.0)

sends_more : (least : ℕ) (gs : List Gone) (cs : List Covered) (next by : ℕ) → RiseTo least gs cs next
    → RiseTo least gs (cs ++ record { message = next; by_record = by } ∷ []) (next + 1)
sends_more least [] cs next by a = rising_more least cs next by a
sends_more least (g ∷ gs) cs next by a = (a.0, sends_more (g.message + 1) gs cs next by a.1)

leaves_more : (least : ℕ) (gs : List Gone) (c : Covered) (cs : List Covered) (next s : ℕ)
    → RiseTo least gs (c ∷ cs) next
    → RiseTo least (gs ++ record { message = c.message; by_record = c.by_record; saved = s } ∷ []) cs next
leaves_more least [] c cs next s a = a
leaves_more least (g ∷ gs) c cs next s a = (a.0, leaves_more (g.message + 1) gs c cs next s a.1)

none_left : (least : ℕ) (gs : List Gone) (cs : List Covered) (next : ℕ) → RiseTo least gs cs next
    → RiseTo least gs [] next
none_left least [] cs next a = rising_below least cs next a
none_left least (g ∷ gs) cs next a = (a.0, none_left (g.message + 1) gs cs next a.1)

rising_of : (least : ℕ) (gs : List Gone) (cs : List Covered) (next : ℕ) → RiseTo least gs cs next → AreRising least gs
rising_of least [] cs next a = tt
rising_of least (g ∷ gs) cs next a = (a.0, rising_of (g.message + 1) gs cs next a.1)

abbrev Ordered : Past → Type 0
Ordered p = RiseTo 0 p.sent p.waiting p.messages

ordered_leaves : (o : Option Blank) (ws : List Covered) (p : Past) → p.waiting ≡ ws → Ordered p
    → Ordered (leaves o ws p)
ordered_leaves None [] p e a = a
ordered_leaves None (c ∷ cs) p e a =
    leaves_more 0 p.sent c cs p.messages p.saved (subst (λ (ws : List Covered). RiseTo 0 p.sent ws p.messages) e a)
ordered_leaves (Some b) ws p e a = a

ordered_takes : (b : Bool) (ms : List Outgoing) (ts : List Told) (r s n : ℕ) (ws : List Covered) (gs : List Gone)
    (h : List Told) → Ordered (past b ms ts r s n ws gs h) → Ordered (takes (past b ms ts r s n ws gs h))
ordered_takes true ms ts r s n ws gs h a = a
ordered_takes false [] [] r s n ws gs h a = a
ordered_takes false [] (t ∷ ts) r s n ws gs h a = a
ordered_takes false (m ∷ ms) ts r s n ws gs h a =
    ordered_leaves m.blank ws (past false (m ∷ ms) ts r s n ws gs h) refl a

ordered_happens : (c : Call) (p : Past) → Ordered p → Ordered (happens c p)
ordered_happens Saves p a = a
ordered_happens (Sends m) p a = sends_more 0 p.sent p.waiting p.messages p.records a
ordered_happens (Tells t) p a = a
ordered_happens (Fills f) p a = a
ordered_happens Takes p a =
    ordered_takes p.line.record_waits p.line.messages p.line.told p.records p.saved p.messages p.waiting p.sent p.heard
    a
ordered_happens Loses p a = none_left 0 p.sent p.waiting p.messages a

ordered_run : (cs : List Call) (p : Past) → Ordered p → Ordered (run cs p)
ordered_run [] p a = a
ordered_run (c ∷ cs) p a = ordered_run cs (happens c p) (ordered_happens c p a)

pub sent_in_order : (cs : List Call) → AreRising 0 (run cs begun).sent
sent_in_order cs =
    let p = run cs begun in rising_of 0 p.sent p.waiting p.messages (ordered_run cs begun (omega arith))
