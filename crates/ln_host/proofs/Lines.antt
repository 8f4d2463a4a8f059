-- A line that has a past moves as the line alone does.
use Rattle.std.proofs.Common.{◌≡◌, ℕ, ◌+◌, Bool, true, false, List, [], ◌∷◌, ◌++◌, length, Option, Some, None}
use Rattle.std.proofs.Common.{refl, sym, ap, ◌∙◌, arith, length-append}
use Rattle.ln_host.specs.declared.blank.Blank.{Blank}
use Rattle.ln_host.specs.declared.filling.Filling.{Filling}
use Rattle.ln_host.specs.declared.line.Outgoing.{Outgoing}
use Rattle.ln_host.specs.declared.line.Told.{Told}
use Rattle.ln_host.specs.Line.{Waiting, empty, without_head, unless_blank, first_filled}
use Rattle.ln_host.specs.Calls.{Call, Saves, Sends, Tells, Fills, Takes, Loses, Covered, Gone, Past, begun}
use Rattle.ln_host.specs.Calls.{after, leaves, takes, happens, run}
use Rattle.ln_host.proofs.Calls.{past}

abbrev pub waiting : Bool → List Outgoing → List Told → Waiting
waiting b ms ts = record { record_waits = b; messages = ms; told = ts }

abbrev pub after_all : List Call → Waiting → Waiting
after_all [] w = w
after_all (c ∷ cs) w = after_all cs (after c w)

pub after_both : (cs ds : List Call) (w : Waiting) → after_all (cs ++ ds) w ≡ after_all ds (after_all cs w)
after_both [] ds w = refl
after_both (c ∷ cs) ds w = after_both cs ds (after c w)

-- as many messages wait as are known to
abbrev InStep : Past → Type 0
InStep p = length p.waiting ≡ length p.line.messages

line_leaves : (o : Option Blank) (m : Outgoing) (ms : List Outgoing) (ts : List Told) (r s n : ℕ) (ws : List Covered)
    (gs : List Gone) (h : List Told) → m.blank ≡ o → length ws ≡ length (m ∷ ms)
    → (leaves o ws (past false (m ∷ ms) ts r s n ws gs h)).line
    ≡ without_head (waiting false (m ∷ ms) ts)
line_leaves None m ms ts r s n [] gs h e l = absurd cc
line_leaves None m ms ts r s n (c ∷ cs) gs h e l = refl
line_leaves (Some b) m ms ts r s n ws gs h e l =
    ap (λ (o : Option Blank). waiting false (unless_blank o ms (m ∷ ms)) ts) (sym e)

line_takes : (b : Bool) (ms : List Outgoing) (ts : List Told) (r s n : ℕ) (ws : List Covered) (gs : List Gone)
    (h : List Told) → length ws ≡ length ms
    → (takes (past b ms ts r s n ws gs h)).line
    ≡ without_head (waiting b ms ts)
line_takes true ms ts r s n ws gs h l = refl
line_takes false [] [] r s n ws gs h l = refl
line_takes false [] (t ∷ ts) r s n ws gs h l = refl
line_takes false (m ∷ ms) ts r s n ws gs h l = line_leaves m.blank m ms ts r s n ws gs h refl l

line_happens : (c : Call) (p : Past) → InStep p → (happens c p).line ≡ after c p.line
line_happens Saves p i = refl
line_happens (Sends m) p i = refl
line_happens (Tells t) p i = refl
line_happens (Fills f) p i = refl
line_happens Takes p i =
    line_takes p.line.record_waits p.line.messages p.line.told p.records p.saved p.messages p.waiting p.sent p.heard i
line_happens Loses p i = refl

as_many_filled : (f : Filling) (ms : List Outgoing) → length (first_filled f ms) ≡ length ms
as_many_filled f [] = refl
as_many_filled f (m ∷ ms) = refl

step_leaves : (o : Option Blank) (m : Outgoing) (ms : List Outgoing) (ts : List Told) (r s n : ℕ) (ws : List Covered)
    (gs : List Gone) (h : List Told) → m.blank ≡ o → length ws ≡ length (m ∷ ms)
    → InStep (leaves o ws (past false (m ∷ ms) ts r s n ws gs h))
step_leaves None m ms ts r s n [] gs h e l = absurd cc
step_leaves None m ms ts r s n (c ∷ cs) gs h e l =
    let l' : length cs ≡ length ms = omega (arith, l) in
    l' ∙ ap (λ (o : Option Blank). length (unless_blank o ms (m ∷ ms))) (sym e)
step_leaves (Some b) m ms ts r s n ws gs h e l = l

step_takes : (b : Bool) (ms : List Outgoing) (ts : List Told) (r s n : ℕ) (ws : List Covered) (gs : List Gone)
    (h : List Told) → length ws ≡ length ms → InStep (takes (past b ms ts r s n ws gs h))
step_takes true ms ts r s n ws gs h l = l
step_takes false [] [] r s n ws gs h l = l
step_takes false [] (t ∷ ts) r s n ws gs h l = l
step_takes false (m ∷ ms) ts r s n ws gs h l = step_leaves m.blank m ms ts r s n ws gs h refl l

step_happens : (c : Call) (p : Past) → InStep p → InStep (happens c p)
step_happens Saves p i = i
step_happens (Sends m) p i =
    length-append p.waiting (record { message = p.messages; by_record = p.records } ∷ [])
    ∙ (ap (λ (n : ℕ). n + 1) i ∙ sym (length-append p.line.messages (m ∷ [])))
step_happens (Tells t) p i = i
step_happens (Fills f) p i = i ∙ sym (as_many_filled f p.line.messages)
step_happens Takes p i =
    step_takes p.line.record_waits p.line.messages p.line.told p.records p.saved p.messages p.waiting p.sent p.heard i
step_happens Loses p i = refl

line_run : (cs : List Call) (p : Past) → InStep p → (run cs p).line ≡ after_all cs p.line
line_run [] p i = refl
line_run (c ∷ cs) p i =
    line_run cs (happens c p) (step_happens c p i) ∙ ap (λ (w : Waiting). after_all cs w) (line_happens c p i)

pub line_is : (cs : List Call) → (run cs begun).line ≡ after_all cs empty
line_is cs = line_run cs begun refl
