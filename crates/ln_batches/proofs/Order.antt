-- In which order messages leave.
use Rattle.std.proofs.Common.{◌≡◌, ℕ, zero, suc, ◌+◌, ◌≤◌, Bool, true, false, List, [], ◌∷◌, ◌++◌, Option, Some, None}
use Rattle.std.proofs.Common.{◌⊎◌, inl, inr}
use Rattle.std.specs.Prelude.{⊤, ◌==◌, ◌&&◌, slice_get, slice_set}
use Rattle.std.proofs.Common.{refl, sym, ap, subst, ◌∙◌, append_assoc, arith}
use Rattle.std.proofs.Math.Dec.{eqb-suc-suc, eqb-suc-zero, eqb-zero-suc}
use Rattle.std.proofs.lemmas.List.{append-nil}
use Rattle.ln_batches.specs.declared.row.Waiting.{Waiting}
use Rattle.ln_batches.specs.Queues.{Row, Queues, new_row, first_in, first_of, first_at, may_leave, rest, first_filled}
use Rattle.ln_batches.specs.Queues.{no_queue, with_channel, changed_at, changed, pushed_at, pushed, lost_at, lost}
use Rattle.ln_batches.specs.Queues.{handed_at, handed, sent_at, sent, filled_at, filled, is_with_host}
use Rattle.ln_batches.specs.Queues.{row_closed, rows_closed, closed, can_close, row_saved, rows_saved, saved, is_closed}
use Rattle.ln_batches.specs.Calls.{Call, Adds, Changes, Comes, Hands, Fills, Sends, Loses, Closes, Saves, Gone, Past}
use Rattle.ln_batches.specs.Calls.{begun, gone_by, sends, if_so, happens, run, if_of, of_channel, AreRising}

-- ---- the numbers of the messages that wait in a channel

abbrev numbers : {M : Type 0} → List (Waiting M) → List ℕ
numbers [] = []
numbers (w ∷ ws) = w.number ∷ numbers ws

abbrev numbers_at : {M : Type 0} → ℕ → List (Row M) → List ℕ
numbers_at c [] = []
numbers_at zero (r ∷ rs) = numbers r.messages
numbers_at (suc c) (r ∷ rs) = numbers_at c rs

numbers_push : {M : Type 0} → (ws : List (Waiting M)) (w : Waiting M)
    → numbers (ws ++ w ∷ []) ≡ numbers ws ++ w.number ∷ []
numbers_push [] w = refl
numbers_push (x ∷ ws) w = ap (λ (ns : List ℕ). x.number ∷ ns) (numbers_push ws w)

numbers_filled : {M : Type 0} → (f : M → M) (ws : List (Waiting M)) → numbers (first_filled f ws) ≡ numbers ws
numbers_filled f [] = refl
numbers_filled f (w ∷ ws) = refl

-- a row that is set has these numbers in its own channel, and no other channel's change
abbrev Set : {M : Type 0} → ℕ → ℕ → List (Row M) → Row M → Row M → Type 0
Set c d rs r s =
    ((d == c) ≡ true) × (numbers_at c rs ≡ numbers r.messages) × (numbers_at c (slice_set rs d s) ≡ numbers s.messages)
    ⊎ (((d == c) ≡ false) × (numbers_at c (slice_set rs d s) ≡ numbers_at c rs))

abbrev head_of : {M : Type 0} → Option (Row M) → List (Waiting M)
head_of None = []
head_of (Some r) = r.messages

-- the same of the channel of the next number
row_after : {M : Type 0} → (c d : ℕ) (x : Row M) (rs : List (Row M)) (r s : Row M) → Set c d rs r s
    → Set (suc c) (suc d) (x ∷ rs) r s
row_after c d x rs r s (inl a) = inl (eqb-suc-suc d c ∙ a.0, a.1, a.2)
row_after c d x rs r s (inr b) = inr (eqb-suc-suc d c ∙ b.0, b.1)

row_set : {M : Type 0} → (c d : ℕ) (rs : List (Row M)) (r s : Row M) → slice_get rs d ≡ Some r → Set c d rs r s
row_set c d [] r s e = absurd cc
row_set zero zero (x ∷ rs) r s e = inl (refl, ap (λ (o : Option (Row _)). numbers (head_of o)) e, refl)
row_set (suc c) zero (x ∷ rs) r s e = inr (eqb-zero-suc c, refl)
row_set zero (suc d) (x ∷ rs) r s e = inr (eqb-suc-zero d, refl)
row_set (suc c) (suc d) (x ∷ rs) r s e = row_after c d x rs r s (row_set c d rs r s e)

-- one that has the messages of before changes no numbers
same_set : {M : Type 0} → (c d : ℕ) (rs : List (Row M)) (r s : Row M) → numbers s.messages ≡ numbers r.messages
    → Set c d rs r s → numbers_at c (slice_set rs d s) ≡ numbers_at c rs
same_set c d rs r s e (inl a) = a.2 ∙ (e ∙ sym (a.1))
same_set c d rs r s e (inr b) = b.1

kept_row : {M : Type 0} → (c d : ℕ) (rs : List (Row M)) (r s : Row M) → slice_get rs d ≡ Some r
    → numbers s.messages ≡ numbers r.messages → numbers_at c (slice_set rs d s) ≡ numbers_at c rs
kept_row c d rs r s g e = same_set c d rs r s e (row_set c d rs r s g)

more_rows : {M : Type 0} → (c n : ℕ) (rs : List (Row M)) → numbers_at c (rs ++ new_row n ∷ []) ≡ numbers_at c rs
more_rows zero n [] = refl
more_rows (suc c) n [] = refl
more_rows zero n (r ∷ rs) = refl
more_rows (suc c) n (r ∷ rs) = more_rows c n rs

-- ---- what keeps all numbers

kept_closed_row : {M : Type 0} → (c d : ℕ) (rs : List (Row M)) (o : Option (Row M)) → slice_get rs d ≡ o
    → numbers_at c (row_closed o d rs) ≡ numbers_at c rs
kept_closed_row c d rs None e = refl
kept_closed_row c d rs (Some r) e = kept_row c d rs r _ e refl

kept_closed : {M : Type 0} → (c : ℕ) (ds : List ℕ) (rs : List (Row M))
    → numbers_at c (rows_closed ds rs) ≡ numbers_at c rs
kept_closed c [] rs = refl
kept_closed c (d ∷ ds) rs =
    kept_closed c ds (row_closed (slice_get rs d) d rs) ∙ kept_closed_row c d rs (slice_get rs d) refl

kept_saved_row : {M : Type 0} → (c d : ℕ) (rs : List (Row M)) (o : Option (Row M)) → slice_get rs d ≡ o
    → numbers_at c (row_saved o d rs) ≡ numbers_at c rs
kept_saved_row c d rs None e = refl
kept_saved_row c d rs (Some r) e = kept_row c d rs r _ e refl

kept_saved : {M : Type 0} → (c : ℕ) (ds : List ℕ) (rs : List (Row M))
    → numbers_at c (rows_saved ds rs) ≡ numbers_at c rs
kept_saved c [] rs = refl
kept_saved c (d ∷ ds) rs =
    kept_saved c ds (row_saved (slice_get rs d) d rs) ∙ kept_saved_row c d rs (slice_get rs d) refl

-- ---- numbers that rise

-- those that have left, and then those that wait, rise from this one on, below the next
abbrev RisingBelow : ℕ → List ℕ → ℕ → Type 0
RisingBelow least [] next = least ≤ next
RisingBelow least (n ∷ ns) next = (least ≤ n) × RisingBelow (n + 1) ns next

abbrev RiseTo : ℕ → List Gone → List ℕ → ℕ → Type 0
RiseTo least [] ns next = RisingBelow least ns next
RiseTo least (g ∷ gs) ns next = (least ≤ g.number) × RiseTo (g.number + 1) gs ns next

below_more : (least : ℕ) (ns : List ℕ) (next : ℕ) → RisingBelow least ns next
    → RisingBelow least (ns ++ next ∷ []) (next + 1)
below_more least [] next a = (a, omega arith)
below_more least (n ∷ ns) next a = (a.0, below_more (n + 1) ns next a.1)

below_later : (least : ℕ) (ns : List ℕ) (next : ℕ) → RisingBelow least ns next → RisingBelow least ns (next + 1)
below_later least [] next a = omega (arith, a)
below_later least (n ∷ ns) next a = (a.0, below_later (n + 1) ns next a.1)

below_none : (least : ℕ) (ns : List ℕ) (next : ℕ) → RisingBelow least ns next → RisingBelow least [] next
below_none least [] next a = a
below_none least (n ∷ ns) next a =
    let l : n + 1 ≤ next = below_none (n + 1) ns next a.1 in omega (arith, l, a.0)

rise_more : (least : ℕ) (gs : List Gone) (ns : List ℕ) (next : ℕ) → RiseTo least gs ns next
    → RiseTo least gs (ns ++ next ∷ []) (next + 1)
rise_more least [] ns next a = below_more least ns next a
rise_more least (g ∷ gs) ns next a = (a.0, rise_more (g.number + 1) gs ns next a.1)

rise_later : (least : ℕ) (gs : List Gone) (ns : List ℕ) (next : ℕ) → RiseTo least gs ns next
    → RiseTo least gs ns (next + 1)
rise_later least [] ns next a = below_later least ns next a
rise_later least (g ∷ gs) ns next a = (a.0, rise_later (g.number + 1) gs ns next a.1)

rise_none : (least : ℕ) (gs : List Gone) (ns : List ℕ) (next : ℕ) → RiseTo least gs ns next
    → RiseTo least gs [] next
rise_none least [] ns next a = below_none least ns next a
rise_none least (g ∷ gs) ns next a = (a.0, rise_none (g.number + 1) gs ns next a.1)

-- the first of those that wait leaves
rise_leaves : (least : ℕ) (gs : List Gone) (g : Gone) (ns : List ℕ) (next : ℕ)
    → RiseTo least gs (g.number ∷ ns) next → RiseTo least (gs ++ g ∷ []) ns next
rise_leaves least [] g ns next a = a
rise_leaves least (h ∷ gs) g ns next a = (a.0, rise_leaves (h.number + 1) gs g ns next a.1)

rise_gone : (least : ℕ) (gs : List Gone) (ns : List ℕ) (next : ℕ) → RiseTo least gs ns next → AreRising least gs
rise_gone least [] ns next a = tt
rise_gone least (g ∷ gs) ns next a = (a.0, rise_gone (g.number + 1) gs ns next a.1)

if_append : (b : Bool) (c : ℕ) (g : Gone) (xs ys : List Gone) → if_of b g xs ++ ys ≡ if_of b g (xs ++ ys)
if_append true c g xs ys = refl
if_append false c g xs ys = refl

of_append : (c : ℕ) (xs ys : List Gone) → of_channel c (xs ++ ys) ≡ of_channel c xs ++ of_channel c ys
of_append c [] ys = refl
of_append c (g ∷ xs) ys =
    ap (λ (zs : List Gone). if_of (g.channel == c) g zs) (of_append c xs ys)
    ∙ sym (if_append (g.channel == c) c g (of_channel c xs) (of_channel c ys))

-- ---- over calls

abbrev Kept : {M : Type 0} → ℕ → Past M → Type 0
Kept c p = RiseTo 0 (of_channel c p.gone) (numbers_at c p.queues.rows) p.queues.next_number

same_numbers : (gs : List Gone) (xs ys : List ℕ) (next : ℕ) → ys ≡ xs → RiseTo 0 gs xs next → RiseTo 0 gs ys next
same_numbers gs xs ys next e a = subst (λ (ns : List ℕ). RiseTo 0 gs ns next) (sym e) a

kept_changed : {M : Type 0} → (c d n : ℕ) (p : Past M) (o : Option (Row M)) → slice_get p.queues.rows d ≡ o
    → Kept c p → Kept c (record p { queues = changed_at d n o p.queues })
kept_changed c d n p None e k = k
kept_changed c d n p (Some r) e k =
    same_numbers (of_channel c p.gone) _ _ p.queues.next_number (kept_row c d p.queues.rows r _ e refl) k

kept_handed : {M : Type 0} → (c d : ℕ) (p : Past M) (o : Option (Row M)) → slice_get p.queues.rows d ≡ o
    → Kept c p → Kept c (record p { queues = handed_at d o p.queues })
kept_handed c d p None e k = k
kept_handed c d p (Some r) e k =
    same_numbers (of_channel c p.gone) _ _ p.queues.next_number (kept_row c d p.queues.rows r _ e refl) k

kept_filled : {M : Type 0} → (c d : ℕ) (f : M → M) (p : Past M) (o : Option (Row M)) → slice_get p.queues.rows d ≡ o
    → Kept c p → Kept c (record p { queues = filled_at d f o p.queues })
kept_filled c d f p None e k = k
kept_filled c d f p (Some r) e k =
    same_numbers (of_channel c p.gone) _ _ p.queues.next_number
    (kept_row c d p.queues.rows r _ e (numbers_filled f r.messages)) k

if_lost : {M : Type 0} → (c d : ℕ) (gs : List Gone) (next : ℕ) (rs : List (Row M)) (r s : Row M)
    → numbers s.messages ≡ [] → Set c d rs r s → RiseTo 0 gs (numbers_at c rs) next
    → RiseTo 0 gs (numbers_at c (slice_set rs d s)) next
if_lost c d gs next rs r s e (inl a) k =
    same_numbers gs [] _ next (a.2 ∙ e) (rise_none 0 gs (numbers_at c rs) next k)
if_lost c d gs next rs r s e (inr b) k = same_numbers gs _ _ next b.1 k

kept_lost : {M : Type 0} → (c d : ℕ) (p : Past M) (o : Option (Row M)) → slice_get p.queues.rows d ≡ o
    → Kept c p → Kept c (record p { queues = lost_at d o p.queues })
kept_lost c d p None e k = k
kept_lost c d p (Some r) e k =
    if_lost c d (of_channel c p.gone) p.queues.next_number p.queues.rows r _ refl (row_set c d p.queues.rows r _ e) k

if_pushed : {M : Type 0} → (c d : ℕ) (gs : List Gone) (next : ℕ) (rs : List (Row M)) (r s : Row M)
    → numbers s.messages ≡ numbers r.messages ++ next ∷ [] → Set c d rs r s → RiseTo 0 gs (numbers_at c rs) next
    → RiseTo 0 gs (numbers_at c (slice_set rs d s)) (next + 1)
if_pushed c d gs next rs r s e (inl a) k =
    same_numbers gs (numbers r.messages ++ next ∷ []) _ (next + 1) (a.2 ∙ e)
    (rise_more 0 gs (numbers r.messages) next (subst (λ (ns : List ℕ). RiseTo 0 gs ns next) (a.1) k))
if_pushed c d gs next rs r s e (inr b) k =
    same_numbers gs _ _ (next + 1) b.1 (rise_later 0 gs (numbers_at c rs) next k)

kept_pushed : {M : Type 0} → (c d : ℕ) (m : M) (p : Past M) (o : Option (Row M)) → slice_get p.queues.rows d ≡ o
    → Kept c p → Kept c (record p { queues = pushed_at d m o p.queues })
kept_pushed c d m p None e k = k
kept_pushed c d m p (Some r) e k =
    if_pushed c d (of_channel c p.gone) p.queues.next_number p.queues.rows r _ (numbers_push r.messages _)
    (row_set c d p.queues.rows r _ e) k

-- the first message of a row, with the channel's number
abbrev gone_of : {M : Type 0} → ℕ → ℕ → Row M → List Gone
gone_of d s r = gone_by d s (first_in r.messages)

of_one : (c : ℕ) (g : Gone) (b : Bool) → (g.channel == c) ≡ b → of_channel c (g ∷ []) ≡ if_of b g []
of_one c g b e = ap (λ (x : Bool). if_of x g []) e

sent_first : {M : Type 0} → (c d s : ℕ) (gs : List Gone) (next : ℕ) (ws : List (Waiting M)) (b : Bool) → (d == c) ≡ b
    → b ≡ true → RiseTo 0 gs (numbers ws) next
    → RiseTo 0 (gs ++ of_channel c (gone_by d s (first_in ws))) (numbers (rest ws)) next
sent_first c d s gs next [] b e t k = subst (λ (xs : List Gone). RiseTo 0 xs [] next) (sym (append-nil gs)) k
sent_first c d s gs next (w ∷ ws) b e t k =
    subst (λ (xs : List Gone). RiseTo 0 (gs ++ xs) (numbers ws) next)
    (sym (of_one c _ true (e ∙ t)))
    (rise_leaves 0 gs (record { channel = d; number = w.number; records = w.records; saved = s }) (numbers ws) next k)

sent_other : {M : Type 0} → (c d s : ℕ) (ws : List (Waiting M)) → (d == c) ≡ false
    → of_channel c (gone_by d s (first_in ws)) ≡ []
sent_other c d s [] e = refl
sent_other c d s (w ∷ ws) e = of_one c _ false e

if_sent : {M : Type 0} → (c d v : ℕ) (gs : List Gone) (next : ℕ) (rs : List (Row M)) (r s : Row M)
    → s.messages ≡ rest r.messages → Set c d rs r s → RiseTo 0 (of_channel c gs) (numbers_at c rs) next
    → RiseTo 0 (of_channel c (gs ++ gone_of d v r)) (numbers_at c (slice_set rs d s)) next
if_sent c d v gs next rs r s e (inl a) k =
    subst (λ (xs : List Gone). RiseTo 0 xs (numbers_at c (slice_set rs d s)) next)
    (sym (of_append c gs (gone_of d v r)))
    (subst (λ (ns : List ℕ). RiseTo 0 (of_channel c gs ++ of_channel c (gone_of d v r)) ns next)
    (sym (a.2 ∙ ap (λ (ws : List (Waiting _)). numbers ws) e))
    (sent_first c d v (of_channel c gs) next r.messages true (a.0) refl
    (subst (λ (ns : List ℕ). RiseTo 0 (of_channel c gs) ns next) (a.1) k)))
if_sent c d v gs next rs r s e (inr b) k =
    subst (λ (xs : List Gone). RiseTo 0 xs (numbers_at c (slice_set rs d s)) next)
    (sym (of_append c gs (gone_of d v r) ∙ (ap (λ (ys : List Gone). of_channel c gs ++ ys) (sent_other c d v r.messages
    b.0) ∙ append-nil (of_channel c gs))))
    (same_numbers (of_channel c gs) _ _ next b.1 k)

kept_sent : {M : Type 0} → (c d : ℕ) (p : Past M) (o : Option (Row M)) → slice_get p.queues.rows d ≡ o → Kept c p
    → Kept c (record {
      queues = sent_at d o p.queues;
      gone = p.gone ++ gone_by d p.queues.saved_records (first_of o);
    })
kept_sent c d p None e k = subst (λ (xs : List Gone). RiseTo 0 (of_channel c xs) (numbers_at c p.queues.rows)
    p.queues.next_number) (sym (append-nil p.gone)) k
kept_sent c d p (Some r) e k =
    if_sent c d p.queues.saved_records p.gone p.queues.next_number p.queues.rows r _ refl
    (row_set c d p.queues.rows r _ e) k

kept_sends : {M : Type 0} → (b : Bool) (c d : ℕ) (p : Past M) → Kept c p → Kept c (sends b d p)
kept_sends false c d p k = k
kept_sends true c d p k = kept_sent c d p (slice_get p.queues.rows d) refl k

kept_if : {M : Type 0} → (b : Bool) (c : ℕ) (p : Past M) (new : Queues M) → Kept c (record p { queues = new })
    → Kept c p → Kept c (record p { queues = if_so b new p.queues })
kept_if true c p new a k = a
kept_if false c p new a k = k

kept_happens : {M : Type 0} → (c : ℕ) (x : Call M) (p : Past M) → Kept c p → Kept c (happens x p)
kept_happens c (Adds n) p k =
    same_numbers (of_channel c p.gone) _ _ p.queues.next_number (more_rows c n p.queues.rows) k
kept_happens c (Changes d n) p k = kept_changed c d n p (slice_get p.queues.rows d) refl k
kept_happens c (Comes d m) p k = kept_pushed c d m p (slice_get p.queues.rows d) refl k
kept_happens c (Hands d) p k =
    kept_if (may_leave p.queues (first_at d p.queues)) c p (handed d p.queues)
    (kept_handed c d p (slice_get p.queues.rows d) refl k) k
kept_happens c (Fills d f) p k = kept_filled c d f p (slice_get p.queues.rows d) refl k
kept_happens c (Sends d n) p k =
    kept_sends (is_with_host d n p.queues && may_leave p.queues (first_at d p.queues)) c d p k
kept_happens c (Loses d) p k = kept_lost c d p (slice_get p.queues.rows d) refl k
kept_happens c Closes p k =
    kept_if (can_close p.queues) c p (closed p.queues)
    (same_numbers (of_channel c p.gone) _ _ p.queues.next_number
    (kept_closed c p.queues.open_channels p.queues.rows) k) k
kept_happens c (Saves b) p k =
    kept_if (is_closed b p.queues) c p (saved p.queues)
    (same_numbers (of_channel c p.gone) _ _ p.queues.next_number
    (kept_saved c p.queues.closed_channels p.queues.rows) k) k

kept_run : {M : Type 0} → (c : ℕ) (xs : List (Call M)) (p : Past M) → Kept c p → Kept c (run xs p)
kept_run c [] p k = k
kept_run c (x ∷ xs) p k = kept_run c xs (happens x p) (kept_happens c x p k)

pub sent_in_order : {M : Type 0} → (xs : List (Call M)) (c : ℕ) → AreRising 0 (of_channel c (run xs begun).gone)
sent_in_order xs c =
    rise_gone 0 (of_channel c (run xs begun).gone) (numbers_at c (run xs begun).queues.rows)
    (run xs begun).queues.next_number (kept_run c xs begun (omega arith))
