-- What a host does with what stands first, by what it was shown.
use Rattle.std.proofs.Common.{◌≡◌, ℕ, Bool, true, false, ◌||◌, List, [], ◌∷◌, Option, Some, None, Result, Err}
use Rattle.std.proofs.Common.{refl, sym, ap, ◌∙◌, cond, is_some}
use Rattle.ln_refusals.specs.declared.refusal.Refusal.TheVariants as refusal
use Rattle.ln_host.specs.declared.answer.HostRefusal.{HostRefusal}
use Rattle.ln_host.specs.declared.answer.HostRefusal.TheVariants as host
use Rattle.ln_host.specs.declared.blank.Blank.{Blank}
use Rattle.ln_host.specs.declared.line.Head.{Head}
use Rattle.ln_host.specs.declared.line.Head.TheVariants as head
use Rattle.ln_host.specs.declared.line.Outgoing.{Outgoing}
use Rattle.ln_host.specs.declared.line.Told.{Told}
use Rattle.ln_host.specs.Blank.{filling_at}
use Rattle.ln_host.specs.Doing.{unanswered, filled_by, message_done, told_done, first_done, head_done, done_by}
use Rattle.ln_host.specs.Doing.{taken_off, record_saved}
use Rattle.ln_host.specs.Hosted.{Seat}
use Rattle.ln_host.specs.Line.{IsMessageHead, IsToldHead, IsFirst, IsHeadOf, IsHead, is_blank_first}

abbrev pub shown_done : Option Head → List ℕ → Seat → Result Seat HostRefusal
shown_done None answer s = Err (host.Refused refusal.NotReady)
shown_done (Some head.Record) answer s = unanswered answer (record_saved s)
shown_done (Some (head.Blank b)) answer s = filled_by (filling_at b.now answer) s
shown_done (Some (head.Send m)) answer s = unanswered answer (taken_off s)
shown_done (Some (head.Told t)) answer s = unanswered answer (taken_off s)

by_message : (m : Outgoing) (o : Option Blank) (h : Head) (answer : List ℕ) (s : Seat) → IsMessageHead m o h
    → message_done o answer s ≡ shown_done (Some h) answer s
by_message m None head.Record answer s i = absurd i
by_message m None (head.Blank b) answer s i = absurd i
by_message m None (head.Send x) answer s i = refl
by_message m None (head.Told t) answer s i = absurd i
by_message m (Some b) head.Record answer s i = absurd i
by_message m (Some b) (head.Blank x) answer s i =
    ap (λ (y : Blank). filled_by (filling_at y answer) s) (sym i)
by_message m (Some b) (head.Send x) answer s i = absurd i
by_message m (Some b) (head.Told t) answer s i = absurd i

by_told : (ts : List Told) (h : Option Head) (answer : List ℕ) (s : Seat) → IsToldHead ts h
    → told_done ts answer s ≡ shown_done h answer s
by_told [] None answer s i = refl
by_told [] (Some head.Record) answer s i = absurd i
by_told [] (Some (head.Blank b)) answer s i = absurd i
by_told [] (Some (head.Send m)) answer s i = absurd i
by_told [] (Some (head.Told t)) answer s i = absurd i
by_told (t ∷ ts) None answer s i = absurd i
by_told (t ∷ ts) (Some head.Record) answer s i = absurd i
by_told (t ∷ ts) (Some (head.Blank b)) answer s i = absurd i
by_told (t ∷ ts) (Some (head.Send m)) answer s i = absurd i
by_told (t ∷ ts) (Some (head.Told x)) answer s i = refl

by_first : (ms : List Outgoing) (h : Option Head) (answer : List ℕ) (s : Seat) → IsFirst ms s.line.told h
    → first_done ms answer s ≡ shown_done h answer s
by_first [] h answer s i = by_told s.line.told h answer s i
by_first (m ∷ ms) None answer s i = absurd i
by_first (m ∷ ms) (Some h) answer s i = by_message m m.blank h answer s i

by_record : (h : Option Head) (answer : List ℕ) (s : Seat) (ms : List Outgoing) (ts : List Told)
    → IsHeadOf true ms ts h → unanswered answer (record_saved s) ≡ shown_done h answer s
by_record None answer s ms ts i = absurd i
by_record (Some head.Record) answer s ms ts i = refl
by_record (Some (head.Blank b)) answer s ms ts i = absurd i
by_record (Some (head.Send m)) answer s ms ts i = absurd i
by_record (Some (head.Told t)) answer s ms ts i = absurd i

by_head : (b : Bool) (h : Option Head) (answer : List ℕ) (s : Seat) → IsHeadOf b s.line.messages s.line.told h
    → cond b (unanswered answer (record_saved s)) (first_done s.line.messages answer s) ≡ shown_done h answer s
by_head true h answer s i = by_record h answer s s.line.messages s.line.told i
by_head false h answer s i = by_first s.line.messages h answer s i

if_shown : (b : Bool) (x y : Result Seat HostRefusal) → b ≡ true → cond b x y ≡ x
if_shown true x y e = refl
if_shown false x y e = absurd cc

pub done_is : (h : Option Head) (answer : List ℕ) (s : Seat) → s.is_shown ≡ true → IsHead s.line h
    → done_by answer s ≡ shown_done h answer s
done_is h answer s e i =
    if_shown s.is_shown (head_done answer s) _ e ∙ by_head s.line.record_waits h answer s i

-- ---- what takes memory

no_record_head : (m : Outgoing) (o : Option Blank) → IsMessageHead m o head.Record → ⊥
no_record_head m None h = h
no_record_head m (Some b) h = h

no_record_told : (ts : List Told) → IsToldHead ts (Some head.Record) → ⊥
no_record_told [] h = h
no_record_told (t ∷ ts) h = h

pub record_waits_first : (b : Bool) (ms : List Outgoing) (ts : List Told) → IsHeadOf b ms ts (Some head.Record)
    → b ≡ true
record_waits_first true ms ts h = refl
record_waits_first false [] ts h = absurd (no_record_told ts h)
record_waits_first false (m ∷ ms) ts h = absurd (no_record_head m m.blank h)

abbrev IsBlank : Head → Type 0
IsBlank head.Record = ⊥
IsBlank (head.Blank b) = Unit {0}
IsBlank (head.Send m) = ⊥
IsBlank (head.Told t) = ⊥

blank_there : (m : Outgoing) (o : Option Blank) (h : Head) → IsBlank h → IsMessageHead m o h → is_some o ≡ true
blank_there m None head.Record b i = absurd b
blank_there m None (head.Blank x) b i = absurd i
blank_there m None (head.Send x) b i = absurd b
blank_there m None (head.Told x) b i = absurd b
blank_there m (Some x) h b i = refl

no_blank_told : (ts : List Told) (h : Head) → IsBlank h → IsToldHead ts (Some h) → ⊥
no_blank_told ts head.Record b i = absurd b
no_blank_told [] (head.Blank x) b i = i
no_blank_told (t ∷ ts) (head.Blank x) b i = i
no_blank_told ts (head.Send x) b i = absurd b
no_blank_told ts (head.Told x) b i = absurd b

pub blank_takes_memory : (b : Bool) (ms : List Outgoing) (ts : List Told) (h : Head) → IsBlank h
    → IsHeadOf b ms ts (Some h) → (b || is_blank_first ms) ≡ true
blank_takes_memory true ms ts h k i = refl
blank_takes_memory false [] ts h k i = absurd (no_blank_told ts h k i)
blank_takes_memory false (m ∷ ms) ts h k i = blank_there m m.blank h k i
