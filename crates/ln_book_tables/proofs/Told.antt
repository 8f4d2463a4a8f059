-- What an index tells of the HTLC that is meant.
use Rattle.std.proofs.Common.{◌≡◌, ℕ, List, [], ◌∷◌, length, get_or, refl, sym, ap, ◌∙◌, Bool, true, false, cond}
use Rattle.std.proofs.Common.{Option, None, Some, rules, IsTrue, arith}
use Rattle.std.specs.Prelude.{nat_eq, ◌&&◌}
use Rattle.std.proofs.lemmas.Bool.{eqb-true}
use Rattle.std.specs.Option.{option_map}
use Rattle.std.specs.Map.{lookup}
use Rattle.ln_log.specs.Mark.{is_held_by}
use Rattle.ln_log.specs.declared.mark.Mark.{Mark}
use Rattle.ln_log.specs.declared.mark.Mark.TheVariants as mark
use Rattle.ln_book_tables.specs.declared.htlc.Key.{Key}
use Rattle.ln_book_tables.specs.declared.htlc.Htlc.{Htlc}
use Rattle.ln_book_tables.specs.declared.htlc.OutgoingLeg.{OutgoingLeg}
use Rattle.ln_book_tables.specs.declared.htlc.OutgoingLeg.TheVariants as outgoing
use Rattle.ln_book_tables.specs.declared.key_index.KeyIndex.{KeyIndex}
use Rattle.ln_book_tables.specs.declared.key_index.Told.{Told}
use Rattle.ln_book_tables.specs.declared.key_index.Told.TheVariants as told
use Rattle.ln_book_tables.specs.declared.lists.Which.{Which}
use Rattle.ln_book_tables.specs.declared.lists.Which.TheVariants as which
use Rattle.ln_book_tables.specs.declared.names.Names.{Names}
use Rattle.ln_book_tables.specs.declared.indices.Indices.{Indices}
use Rattle.ln_book_tables.specs.Replay.{same, same_key, goes_by, is_told, is_over}
use Rattle.ln_book_tables.specs.Held.{number_in}
use Rattle.ln_book_tables.specs.Lists.{picks}
use Rattle.ln_book_tables.specs.Slots.{passes}
use Rattle.ln_book_tables.specs.KeyIndex.{is_named, is_place, is_key, place_of, told_at, told_in, IsIndexOf}
use Rattle.ln_book_tables.specs.Indices.{names, names_of, names_at, numbered, event_name, outgoing_key, IsIndexed}
use Rattle.ln_book_tables.specs.Indices.{told_by, at_event}
use Rattle.ln_book_tables.proofs.InSlots.{IsAlone, NonePasses, not_true}

first_true : (a b : Bool) → (a && b) ≡ true → a ≡ true
first_true true b e = refl
first_true false b e = e

second_true : (a b : Bool) → (a && b) ≡ true → b ≡ true
second_true true b e = e
second_true false b e = absurd (let no : false ≡ true = e in cc)

no_entries : {A : Type 0} (xs : List A) → length xs ≡ 0 → xs ≡ []
no_entries [] e = refl
no_entries (x ∷ xs) e = absurd (omega (arith, e))

itself : (k : Key) → same_key k k ≡ true
itself k = search rules

-- ---- who is meant is found by its name

named_key : (k j : Key) → same_key k j ≡ true → is_key j k ≡ true
named_key k j e = search rules

named_outgoing : (k : Key) (w : OutgoingLeg) → goes_by k w ≡ true → is_named k (outgoing_key w) ≡ true
named_outgoing k outgoing.Absent e = e
named_outgoing k outgoing.Refused e = e
named_outgoing k (outgoing.Offered j) e = named_key k j e
named_outgoing k (outgoing.Resolved j how) e = named_key k j e

named_event : (c : List ℕ) (n : ℕ) (h : Htlc) → nat_eq n 18446744073709551615 ≡ false → is_told c n h ≡ true
    → is_named (record { channel = c; id = n }) (event_name h) ≡ true
named_event c n h known e =
    let same : n ≡ h.event = eqb-true n h.event (first_true (nat_eq n h.event) _ e) in
    ap (λ b. is_named (record { channel = c; id = n }) (cond b None (Some (numbered h h.event))))
    (ap (λ m. nat_eq m 18446744073709551615) (sym same) ∙ known)
    ∙ named_key (record { channel = c; id = n }) (numbered h h.event) e

named_mark : (m : Mark) (c : List ℕ) (n : ℕ) (h : Htlc) → (is_held_by n m && same c h.key.channel) ≡ true
    → is_named (record { channel = c; id = n }) (option_map (numbered h) (number_in m)) ≡ true
named_mark mark.None c n h e = e
named_mark (mark.Forward channel amount expiry) c n h e = e
named_mark (mark.Fail reason) c n h e = e
named_mark (mark.Malformed code) c n h e = e
named_mark (mark.Fulfil preimage) c n h e = e
named_mark (mark.Held m) c n h e = named_key (record { channel = c; id = n }) (numbered h m) e

-- ---- and so the index tells of it

-- what is told holds for those that pass
abbrev pub IsToldOf : (Htlc → Bool) → List (Option Htlc) → Told → Type 0
IsToldOf p ss told.Unknown = true ≡ true
IsToldOf p ss told.Nowhere = NonePasses p ss
IsToldOf p ss (told.At i) = IsAlone p ss i

right_case : (p : Htlc → Bool) (ss : List (Option Htlc)) (b : Bool) (o : Option ℕ)
    → (IsTrue b → (j : ℕ) → passes p (get_or ss j None) ≡ true → is_place j o ≡ true)
    → IsToldOf p ss (cond b (told_at o) told.Unknown)
right_case p ss false o f = refl
right_case p ss true None f = λ j. not_true (passes p (get_or ss j None))
    (λ is. absurd (let no : false ≡ true = f refl j is in cc))
right_case p ss true (Some i) f = λ j is. eqb-true j i (f refl j is)

named_slot : (p : Htlc → Bool) (k : Key) (name : Names → Option Key) (s : Option Htlc)
    → ((h : Htlc) → p h ≡ true → is_named k (name (names_of h)) ≡ true) → passes p s ≡ true
    → is_named k (name (names s)) ≡ true
named_slot p k name None f e = absurd (let no : false ≡ true = e in cc)
named_slot p k name (Some h) f e = f h e

right_by : (p : Htlc → Bool) (k : Key) (name : Names → Option Key) (ss : List (Option Htlc)) (x : KeyIndex)
    → ((h : Htlc) → p h ≡ true → is_named k (name (names_of h)) ≡ true) → IsIndexOf (names_at ss name) x
    → IsToldOf p ss (told_in k x)
right_by p k name ss x f indexed = right_case p ss x.exact (place_of k x)
    (λ exact j is. sym (indexed exact k j) ∙ named_slot p k name (get_or ss j None) f is)

known_case : (p : Htlc → Bool) (ss : List (Option Htlc)) (b : Bool) (t : Told) → (b ≡ false → IsToldOf p ss t)
    → IsToldOf p ss (cond b told.Unknown t)
known_case p ss true t f = refl
known_case p ss false t f = f refl

right_event : (p : Htlc → Bool) (c : List ℕ) (n : ℕ) (ss : List (Option Htlc)) (x : Indices)
    → ((h : Htlc) → p h ≡ true → is_told c n h ≡ true) → IsIndexed ss x → IsToldOf p ss (at_event c n x)
right_event p c n ss x f d = known_case p ss (nat_eq n 18446744073709551615)
    (told_in (record { channel = c; id = n }) x.by_event)
    (λ known. right_by p (record { channel = c; id = n }) (λ m. m.event) ss x.by_event
    (λ h is. named_event c n h known (f h is)) d.by_event)

pub told_right : (w : Which) (ss : List (Option Htlc)) (x : Indices) → IsIndexed ss x
    → IsToldOf (picks w) ss (told_by w x)
told_right (which.Htlc k) ss x d = right_by (picks (which.Htlc k)) k (λ n. n.key) ss x.by_key
    (λ h is. named_key k h.key is) d.by_key
told_right (which.OfEvent c n) ss x d = right_event (picks (which.OfEvent c n)) c n ss x (λ h is. is) d
told_right (which.Offered k) ss x d = right_by (picks (which.Offered k)) k (λ n. n.outgoing) ss x.by_outgoing
    (λ h is. named_outgoing k h.outgoing is) d.by_outgoing
told_right (which.Undecided c n) ss x d = right_event (picks (which.Undecided c n)) c n ss x
    (λ h is. first_true (is_told c n h) _ is) d
told_right (which.Finished k) ss x d = right_by (picks (which.Finished k)) k (λ n. n.key) ss x.by_key
    (λ h is. named_key k h.key (first_true (same_key k h.key) _ is)) d.by_key
told_right (which.Decided k) ss x d = right_by (picks (which.Decided k)) k (λ n. n.key) ss x.by_key
    (λ h is. named_key k h.key (first_true (same_key k h.key) _ is)) d.by_key
told_right (which.Held c n) ss x d = right_by (picks (which.Held c n)) (record { channel = c; id = n }) (λ m. m.held) ss
    x.by_held (λ h is. named_mark h.mark c n h (second_true h.decided _ is)) d.by_held

-- ---- an index that has no key

nowhere_in : (k : Key) (x : KeyIndex) → nat_eq (length x.places.entries) 0 ≡ true → place_of k x ≡ None
nowhere_in k x e = ap (lookup (is_key k)) (no_entries x.places.entries (eqb-true (length x.places.entries) 0 e))

over_named : (b : Bool) (h : Htlc) → b ≡ true → is_named h.key (cond b (Some h.key) None) ≡ true
over_named true h e = named_key h.key h.key (itself h.key)
over_named false h e = absurd (let no : false ≡ true = e in cc)

over_slot : (s : Option Htlc) → passes is_over s ≡ true → (k : Key) × (is_named k (names s).over ≡ true)
over_slot None e = absurd (let no : false ≡ true = e in cc)
over_slot (Some h) e = (h.key, over_named (is_over h) h e)

-- something is left to be done about each HTLC
pub none_over : (ss : List (Option Htlc)) (x : Indices) → IsIndexed ss x
    → (x.by_over.exact && nat_eq (length x.by_over.places.entries) 0) ≡ true → NonePasses is_over ss
none_over ss x d e j = not_true (passes is_over (get_or ss j None))
    (λ is. let at = over_slot (get_or ss j None) is in
    let never : false ≡ true =
    ap (is_place j) (sym (nowhere_in at.0 x.by_over (second_true x.by_over.exact _ e)))
    ∙ sym (d.by_over (first_true x.by_over.exact _ e) at.0 j) ∙ at.1 in absurd (cc))
