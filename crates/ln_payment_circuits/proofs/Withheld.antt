-- What was removed while it was held: a book that is read off the ends of a node asks nothing about it, whatever it is
-- resumed by.
use Rattle.std.proofs.Common.{◌≡◌, ◌⊎◌, inl, inr, ℕ, List, [], ◌∷◌, ◌++◌, refl, sym, ap, ◌∙◌, subst}
use Rattle.std.proofs.Common.{Bool, true, false, cond, not, ◌&&◌, Option, Some, None}
use Rattle.ln_log.specs.declared.mark.Mark.{Mark}
use Rattle.ln_log.specs.declared.mark.Mark.TheVariants as mark
use Rattle.ln_log.specs.Mark.{is_held}
use Rattle.ln_book_tables.specs.declared.htlc.Key.{Key}
use Rattle.ln_book_tables.specs.declared.htlc.Htlc.{Htlc}
use Rattle.ln_book_tables.specs.declared.htlc.OutgoingLeg.{OutgoingLeg}
use Rattle.ln_book_tables.specs.declared.htlc.OutgoingLeg.TheVariants as outgoing
use Rattle.ln_book_tables.specs.declared.htlc.IncomingLeg.{IncomingLeg}
use Rattle.ln_book_tables.specs.declared.entry.Out.{Out}
use Rattle.ln_book_tables.specs.declared.entry.Out.TheVariants as out
use Rattle.ln_book_tables.specs.Replay.{same, is_open, is_over, is_settled, has_nothing_offered, put_mark}
use Rattle.ln_book_tables.specs.Due.{has_removal}
use Rattle.ln_book.specs.declared.recovery.leg.Leg.{Leg}
use Rattle.ln_book.specs.Rebuild.{ChannelSnapshot, led, unfinished, all_unfinished, htlc_left, left, all_left, is_read}
use Rattle.ln_book.specs.Rebuild.{rebuilt_htlcs, outgoing_read, outgoing_for}
use Rattle.ln_book.specs.Commands.{due, is_resolved_in, forwards_in}
use Rattle.ln_payment_circuits.specs.Snapshot.{IsIn}

-- ---- where it goes

among_append : {A : Type 0} (x : A) (xs ys : List A) → IsIn x (xs ++ ys) → IsIn x xs ⊎ IsIn x ys
among_append x [] ys m = inr m
among_append x (z ∷ xs) ys (inl e) = inl (inl e)
among_append x (z ∷ xs) ys (inr m) = elim (among_append x xs ys m) [
  | inl k ↦ inl (inr k)
  | inr k ↦ inr k
]

goes_nowhere : (m : Mark) (b : IncomingLeg) (w : OutgoingLeg) → is_held m ≡ true → is_open b ≡ false
    → has_nothing_offered (outgoing_read m b w) ≡ false
goes_nowhere mark.None b w held shut = absurd (cc)
goes_nowhere (mark.Forward channel amount expiry) b w held shut = absurd (cc)
goes_nowhere (mark.Fail reason) b w held shut = absurd (cc)
goes_nowhere (mark.Malformed code) b w held shut = absurd (cc)
goes_nowhere (mark.Fulfil preimage) b w held shut = absurd (cc)
goes_nowhere (mark.Held event) b w held shut =
    subst (λ t. has_nothing_offered (cond (not t && has_nothing_offered w) outgoing.Refused w) ≡ false) (sym shut)
    (cases (has_nothing_offered w) refl)
  where
    cases : (t : Bool) → has_nothing_offered w ≡ t → has_nothing_offered (cond t outgoing.Refused w) ≡ false
    cases true e = refl
    cases false e = e

led_nowhere : (all : List ChannelSnapshot) (hs : List Htlc) (x : Htlc) → IsIn x (unfinished all hs)
    → is_held x.mark ≡ true → is_open x.incoming ≡ false → has_nothing_offered x.outgoing ≡ false
led_nowhere all [] x m held shut = absurd m
led_nowhere all (h ∷ hs) x m held shut = cases (is_over (led all h)) m (λ k. led_nowhere all hs x k held shut)
  where
    cases : (b : Bool) → IsIn x (cond b (unfinished all hs) (led all h ∷ unfinished all hs))
        → (IsIn x (unfinished all hs) → has_nothing_offered x.outgoing ≡ false) → has_nothing_offered x.outgoing ≡ false
    cases true k rest = rest k
    cases false (inr k) rest = rest k
    cases false (inl e) rest = ap (λ (z : Htlc). has_nothing_offered z.outgoing) (sym e)
        ∙ goes_nowhere h.mark h.incoming (outgoing_for h.key all) (ap (λ (z : Htlc). is_held z.mark) e ∙ held)
        (ap (λ (z : Htlc). is_open z.incoming) e ∙ shut)

all_nowhere : (all rs : List ChannelSnapshot) (x : Htlc) → IsIn x (all_unfinished all rs) → is_held x.mark ≡ true
    → is_open x.incoming ≡ false → has_nothing_offered x.outgoing ≡ false
all_nowhere all [] x m held shut = absurd m
all_nowhere all (r ∷ rs) x m held shut = elim (among_append x (unfinished all r.decided) (all_unfinished all rs) m) [
  | inl k ↦ led_nowhere all r.decided x k held shut
  | inr k ↦ all_nowhere all rs x k held shut
]

-- a result that is left isn't held
left_unheld : (all : List ChannelSnapshot) (ls : List Leg) (x : Htlc) → IsIn x (left all ls) → is_held x.mark ≡ false
left_unheld all [] x m = absurd m
left_unheld all (l ∷ ls) x m = cases (is_read l.origin all) m (λ k. left_unheld all ls x k)
  where
    cases : (b : Bool) → IsIn x (cond b (left all ls) (htlc_left l ∷ left all ls))
        → (IsIn x (left all ls) → is_held x.mark ≡ false) → is_held x.mark ≡ false
    cases true k rest = rest k
    cases false (inr k) rest = rest k
    cases false (inl e) rest = ap (λ (z : Htlc). is_held z.mark) (sym e)

all_unheld : (all rs : List ChannelSnapshot) (x : Htlc) → IsIn x (all_left all rs) → is_held x.mark ≡ false
all_unheld all [] x m = absurd m
all_unheld all (r ∷ rs) x m = elim (among_append x (left all r.results) (all_left all rs) m) [
  | inl k ↦ left_unheld all r.results x k
  | inr k ↦ all_unheld all rs x k
]

nowhere : (rs : List ChannelSnapshot) (x : Htlc) → IsIn x (rebuilt_htlcs rs) → is_held x.mark ≡ true
    → is_open x.incoming ≡ false → has_nothing_offered x.outgoing ≡ false
nowhere rs x m held shut = elim (among_append x (all_unfinished rs rs) (all_left rs rs) m) [
  | inl k ↦ all_nowhere rs rs x k held shut
  | inr k ↦ absurd (let no : true ≡ false = sym held ∙ all_unheld rs rs x k in cc)
]

-- ---- what is asked about it

abbrev IsForgotten : Option Out → Type 0
IsForgotten None = Unit {0}
IsForgotten (Some (out.Deciding event)) = ⊥
IsForgotten (Some (out.Adding key)) = ⊥
IsForgotten (Some (out.Removing key)) = ⊥
IsForgotten (Some (out.Forgetting key)) = Unit {0}
IsForgotten (Some (out.Resuming event)) = ⊥

asks_little : (c : List ℕ) (x : Htlc) → has_nothing_offered x.outgoing ≡ false → is_open x.incoming ≡ false
    → IsForgotten (due c x)
asks_little c x none shut = cases x.decided (is_settled x.incoming) (is_resolved_in c x.outgoing)
    (has_nothing_offered x.outgoing) (forwards_in c x.mark) (has_removal x.mark x.outgoing) (is_open x.incoming)
    (same c x.key.channel) none shut
  where
    cases : (d s r n f p b t : Bool) → n ≡ false → b ≡ false → IsForgotten (cond (not d) None (cond s
        (cond r (Some (out.Forgetting x.key)) None) (cond (n && f) (Some (out.Adding x.key))
        (cond (p && (b && t)) (Some (out.Removing x.key)) None))))
    cases false s r n f p b t none shut = tt
    cases true true true n f p b t none shut = tt
    cases true true false n f p b t none shut = tt
    cases true false r true f p b t none shut = absurd (cc)
    cases true false r false f p true t none shut = absurd (cc)
    cases true false r false f true false t none shut = tt
    cases true false r false f false false t none shut = tt

forgets_none : (o : Option Out) → IsForgotten o → (k : Key)
    → (o ≡ Some (out.Adding k) → ⊥) × (o ≡ Some (out.Removing k) → ⊥)
forgets_none o f k = (
  λ e. subst IsForgotten e f,
  λ e. subst IsForgotten e f,
)

pub asks_nothing : (rs : List ChannelSnapshot) (x : Htlc) → IsIn x (rebuilt_htlcs rs) → is_held x.mark ≡ true
    → is_open x.incoming ≡ false → (m : Mark) (c : List ℕ) (k : Key)
    → (due c (put_mark m x) ≡ Some (out.Adding k) → ⊥) × (due c (put_mark m x) ≡ Some (out.Removing k) → ⊥)
asks_nothing rs x m held shut new c k =
    forgets_none (due c (put_mark new x)) (asks_little c (put_mark new x) (nowhere rs x m held shut) shut) k
