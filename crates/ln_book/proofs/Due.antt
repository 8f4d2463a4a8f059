-- To an HTLC that isn't among those to which a command may be due none is, in any channel.
use Rattle.std.proofs.Common.{◌≡◌, ℕ, List, [], ◌∷◌, refl, sym, ap, ◌∙◌, Bool, true, false, cond, Some, None}
use Rattle.std.proofs.Common.{◌+◌, ◌<◌, ◌≤◌, length, get_or, drop}
use Rattle.std.specs.Prelude.{not, ◌&&◌, ◌||◌, if◌then◌else◌}
use Rattle.std.proofs.lemmas.List.{drop_more, drop_all}
use Rattle.ln_channel.specs.declared.command.Command.{Command}
use Rattle.ln_log.specs.declared.mark.Mark.{Mark}
use Rattle.ln_log.specs.declared.mark.Mark.TheVariants as mark
use Rattle.ln_book_tables.specs.declared.htlc.Htlc.{Htlc}
use Rattle.ln_book_tables.specs.declared.htlc.OutgoingLeg.{OutgoingLeg}
use Rattle.ln_book_tables.specs.declared.htlc.OutgoingLeg.TheVariants as outgoing
use Rattle.ln_book_tables.specs.declared.entry.Out.{Out}
use Rattle.ln_book_tables.specs.declared.entry.Out.TheVariants as out
use Rattle.ln_book_tables.specs.Replay.{same, is_open, is_settled, has_nothing_offered}
use Rattle.ln_book_tables.specs.Due.{is_resolved, is_forwarded, has_removal, is_due, due_htlcs}
use Rattle.ln_keys.specs.Services.{Services}
use Rattle.ln_book.specs.Commands.{is_resolved_in, forwards_in, due, command_by, or_next, first_due}

not_forgotten : (c : List ℕ) (w : OutgoingLeg) → is_resolved w ≡ false → is_resolved_in c w ≡ false
not_forgotten c outgoing.Absent e = refl
not_forgotten c outgoing.Refused e = refl
not_forgotten c (outgoing.Offered k) e = refl
not_forgotten c (outgoing.Resolved k how) e = absurd (let is : true ≡ false = e in cc)

not_added : (c : List ℕ) (a : Bool) (m : Mark) → (a && is_forwarded m) ≡ false → (a && forwards_in c m) ≡ false
not_added c a mark.None e = e
not_added c true (mark.Forward d amount expiry) e = absurd (let is : true ≡ false = e in cc)
not_added c false (mark.Forward d amount expiry) e = refl
not_added c a (mark.Fail reason) e = e
not_added c a (mark.Malformed code) e = e
not_added c a (mark.Fulfil preimage) e = e
not_added c a (mark.Held event) e = e

not_removed : (a b x : Bool) → (a && b) ≡ false → (a && (b && x)) ≡ false
not_removed true b x e = ap (λ t. t && x) e
not_removed false b x e = refl

neither : (x y : Bool) → (x || y) ≡ false → (x ≡ false) × (y ≡ false)
neither true y e = absurd (let is : true ≡ false = e in cc)
neither false y e = (refl, e)

by_parts : (decided settled forgotten added removed resolved adds removes : Bool) (x y z : Out)
    → (resolved ≡ false → forgotten ≡ false) → (adds ≡ false → added ≡ false) → (removes ≡ false → removed ≡ false)
    → (decided && (if settled then resolved else (adds || removes))) ≡ false
    → (if not decided then None else (if settled then (if forgotten then Some x else None)
    else (if added then Some y else (if removed then Some z else None)))) ≡ None
by_parts false settled forgotten added removed resolved adds removes x y z f a r e = refl
by_parts true true forgotten added removed resolved adds removes x y z f a r e = ap (λ t. cond t (Some x) None) (f e)
by_parts true false forgotten added removed resolved adds removes x y z f a r e =
    let none = neither adds removes e in
    ap (λ t. cond t (Some y) (cond removed (Some z) None)) (a none.0) ∙ ap (λ t. cond t (Some z) None) (r none.1)

not_due : (c : List ℕ) (h : Htlc) → is_due h ≡ false → due c h ≡ None
not_due c h e =
    by_parts h.decided (is_settled h.incoming) (is_resolved_in c h.outgoing)
    (has_nothing_offered h.outgoing && forwards_in c h.mark)
    (has_removal h.mark h.outgoing && (is_open h.incoming && same c h.key.channel))
    (is_resolved h.outgoing) (has_nothing_offered h.outgoing && is_forwarded h.mark)
    (has_removal h.mark h.outgoing && is_open h.incoming)
    (out.Forgetting h.key) (out.Adding h.key) (out.Removing h.key)
    (not_forgotten c h.outgoing) (not_added c (has_nothing_offered h.outgoing) h.mark)
    (not_removed (has_removal h.mark h.outgoing) (is_open h.incoming) (same c h.key.channel)) e

first_by : (s : Services) (c : List ℕ) (h : Htlc) (hs ds : List Htlc) (b : Bool) → is_due h ≡ b
    → first_due s c ds ≡ first_due s c hs
    → first_due s c (cond b (h ∷ ds) ds) ≡ first_due s c (h ∷ hs)
first_by s c h hs ds true e is = ap (or_next (command_by s h (due c h))) is
first_by s c h hs ds false e is =
    is ∙ sym (ap (λ o. or_next (command_by s h o) (first_due s c hs)) (not_due c h e))

-- so the first one that has a command is the first of those
pub first_of_due : (s : Services) (c : List ℕ) (hs : List Htlc) → first_due s c (due_htlcs hs) ≡ first_due s c hs
first_of_due s c [] = refl
first_of_due s c (h ∷ hs) = first_by s c h hs (due_htlcs hs) (is_due h) refl (first_of_due s c hs)

-- ---- going through those

there : (s : Services) (c : List ℕ) (ds : List Htlc) (i : ℕ) (h : Htlc) → i < length ds → h ≡ get_or ds i h
    → first_due s c (drop i ds) ≡ or_next (command_by s h (due c h)) (first_due s c (drop (i + 1) ds))
there s c ds i h lt is =
    ap (first_due s c) (drop_more ds i h lt)
    ∙ sym (ap (λ x. or_next (command_by s x (due c x)) (first_due s c (drop (i + 1) ds))) is)

-- the first one that has one
pub found_there : (s : Services) (c : List ℕ) (hs : List Htlc) (i : ℕ) (h : Htlc) (x : Out × Command)
    → i < length (due_htlcs hs) → h ≡ get_or (due_htlcs hs) i h → command_by s h (due c h) ≡ Some x
    → first_due s c (drop i (due_htlcs hs)) ≡ first_due s c (due_htlcs hs) → Some x ≡ first_due s c hs
found_there s c hs i h x lt is some before =
    sym (there s c (due_htlcs hs) i h lt is ∙ ap (λ y. or_next y (first_due s c (drop (i + 1) (due_htlcs hs)))) some)
    ∙ before ∙ first_of_due s c hs

-- none of them has one
pub none_there : (s : Services) (c : List ℕ) (hs : List Htlc) (i : ℕ) → length (due_htlcs hs) ≤ i
    → first_due s c (drop i (due_htlcs hs)) ≡ first_due s c (due_htlcs hs) → None ≡ first_due s c hs
none_there s c hs i le before =
    sym (ap (first_due s c) (drop_all i (due_htlcs hs) le)) ∙ before ∙ first_of_due s c hs
