-- Outputs that wait in a line, one after the other.
use Rattle.std.proofs.Common.{◌≡◌, ℕ, List, [], ◌∷◌, ◌++◌, map, refl, sym, ap, subst, ◌∙◌, append_assoc}
use Rattle.std.proofs.lemmas.List.{append-nil, map-append}
use Rattle.ln_channel.specs.declared.machine.Stage.{Stage}
use Rattle.ln_channel.specs.declared.output.Output.{Output}
use Rattle.ln_channel.specs.State.{State}
use Rattle.ln_host.specs.declared.keys.HostKeys.{HostKeys}
use Rattle.ln_hooks.specs.declared.event.ChannelEvent.{ChannelEvent}
use Rattle.ln_host.specs.declared.line.Told.{Told}
use Rattle.ln_host.specs.Hosted.{with_output, with_outputs, WaitInPart, told_event, with_events}
use Rattle.ln_host.specs.Line.{Waiting, with_told}

-- one more after those that came
pub outputs_more : (s : Stage) (os : List Output) (o : Output) (w : Waiting)
    → with_outputs s (os ++ o ∷ []) w ≡ with_output s o (with_outputs s os w)
outputs_more s [] o w = refl
outputs_more s (p ∷ os) o w = outputs_more s os o (with_output s p w)

-- where nothing is left, those that came are all
pub all_came : (s : Stage) (came left all : List Output) (w line : Waiting) → line ≡ with_outputs s came w
    → came ++ left ≡ all → left ≡ [] → line ≡ with_outputs s all w
all_came s came left all w line e a n =
    e ∙ ap (λ (os : List Output). with_outputs s os w) (sym (append-nil came)
    ∙ (ap (λ (os : List Output). came ++ os) (sym n) ∙ a))

-- where the next one can't be put, those before it wait
pub came_in_part : (k l : State HostKeys) (came : List Output) (o : Output) (left all : List Output)
    (w line : Waiting) → k ≡ l → line ≡ with_outputs k.stage came w → came ++ o ∷ left ≡ all
    → WaitInPart l.stage all w line
came_in_part k l came o left all w line s e a =
    let p : WaitInPart k.stage all w line =
    record { first = came; next = o; rest = left; parts = sym a; line = e } in
    subst (λ (m : State HostKeys). WaitInPart m.stage all w line) s p

-- ---- events

pub events_more : (ps : List (ℕ × ChannelEvent)) (p : ℕ × ChannelEvent) (w : Waiting)
    → with_events (ps ++ p ∷ []) w ≡ with_told (told_event p) (with_events ps w)
events_more ps p w =
    ap (λ (ts : List Told). let x : Waiting = record w { told = ts } in x)
    (ap (λ (ts : List Told). w.told ++ ts) (map-append told_event ps (p ∷ []))
    ∙ sym (append_assoc w.told (map told_event ps) (told_event p ∷ [])))

pub no_events : (w : Waiting) → w ≡ with_events [] w
no_events w = ap (λ (ts : List Told). let x : Waiting = record w { told = ts } in x) (sym (append-nil w.told))

pub all_events : (came left all : List (ℕ × ChannelEvent)) (w line : Waiting) → line ≡ with_events came w
    → came ++ left ≡ all → left ≡ [] → line ≡ with_events all w
all_events came left all w line e a n =
    e ∙ ap (λ (ps : List (ℕ × ChannelEvent)). with_events ps w) (sym (append-nil came)
    ∙ (ap (λ (ps : List (ℕ × ChannelEvent)). came ++ ps) (sym n) ∙ a))
