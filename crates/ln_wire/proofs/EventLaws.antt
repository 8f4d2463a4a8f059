-- Events are read as they are written, and nothing else is.
use Rattle.std.proofs.Common.{◌≡◌, ◌∙◌, ◌<◌, ◌^◌, ℕ, Bool, true, false, List, ◌++◌, Option, Some, None, ◌==◌, nat_le}
use Rattle.std.proofs.Common.{refl, sym, ap, inl, inr}
use Rattle.std.proofs.lemmas.Bool.{eqb-true}
use Rattle.ln_bytes.proofs.Reading.{chosen}
use Rattle.ln_hooks.specs.Amount.{bounded, greatest_amount}
use Rattle.ln_hooks.specs.declared.event.How.{How}
use Rattle.ln_hooks.specs.declared.event.How.TheVariants as how
use Rattle.ln_hooks.specs.declared.event.ChannelEvent.{ChannelEvent}
use Rattle.ln_hooks.specs.declared.event.ChannelEvent.TheVariants as event
use Rattle.ln_store.specs.Format.{number, fixed, ◌&◌}
use Rattle.ln_store.proofs.Formats.{IsLawful, number_is_lawful, fixed_is_lawful, sized_is_lawful, code_is_lawful}
use Rattle.ln_wire.specs.Forms as forms
use Rattle.ln_wire.specs.Forms.{bit_number, bit_of}
use Rattle.ln_wire.specs.Events as it
use Rattle.ln_wire.specs.Events.{how_told, how_at, event_told, event_at}
use Rattle.ln_wire.proofs.Wholes.{also, alone, ReadsKind, kind_read, no_kind, kind_or, kinds_are_lawful, made_again}

abbrev here : {A : Type 0} → A → Option A
here x = Some x

some_is : {A : Type 0} (x y : A) → here x ≡ here y → x ≡ y
some_is x y e = cc

-- ---- bits and amounts

bit_back : (n : ℕ) (b : Bool) → bit_of n ≡ Some b → bit_number b ≡ n
bit_back n b e = elim (chosen (n == 0) (Some false) _ (Some b) e) [
  | inl h ↦ ap bit_number (sym (some_is false b h.1)) ∙ sym (eqb-true n 0 h.0)
  | inr h ↦ elim (chosen (n == 1) (Some true) None (Some b) h.1) [
    | inl g ↦ ap bit_number (sym (some_is true b g.1)) ∙ sym (eqb-true n 1 g.0)
    | inr g ↦ absurd cc
  ]
]

bit_forth : (x y : Bool) → bit_of (bit_number x) ≡ Some y → y ≡ x
bit_forth false y e = sym (some_is false y e)
bit_forth true y e = sym (some_is true y e)

pub bit_is_lawful : IsLawful forms.bit
unfolding forms.bit
bit_is_lawful = code_is_lawful 1 bit_number bit_of (λ n x b e. bit_back n x e) bit_forth

bounded_is : (n m : ℕ) → bounded n ≡ Some m → m ≡ n
bounded_is n m e = elim (chosen (nat_le n greatest_amount) (Some n) None (Some m) e) [
  | inl h ↦ sym (some_is n m h.1)
  | inr h ↦ absurd cc
]

msat_is_lawful : IsLawful it.msat
unfolding it.msat
msat_is_lawful = code_is_lawful 8 (λ n. n) bounded (λ n x b e. bounded_is n x e) (λ x y e. bounded_is x y e)

-- ---- how an HTLC was removed

how_kinds : (n : ℕ) → ReadsKind how_told n (how_at n)
how_kinds n = kind_or n 0 (kind_read how_told 0 how.Fulfilled (alone _ (fixed_is_lawful 32)) (λ y. refl))
    (kind_or n 1 (kind_read how_told 1 how.Failed (alone _ (sized_is_lawful 2)) (λ y. refl))
    (kind_or n 2 (kind_read how_told 2 _ (alone _ (also (fixed_is_lawful 32) (number_is_lawful 2))) (λ y. refl))
    (no_kind how_told n)))

how_again : (x : How) (rest : List ℕ) → (how_told x).fits ≡ true
    → how_at (how_told x).tag ((how_told x).fields ++ rest) ≡ Some (x, rest)
how_again (how.Fulfilled preimage) rest h = made_again how.Fulfilled (fixed_is_lawful 32) preimage rest h
how_again (how.Failed reason) rest h = made_again how.Failed (sized_is_lawful 2) reason rest h
how_again (how.Malformed sha code) rest h =
    made_again _ (also (fixed_is_lawful 32) (number_is_lawful 2)) (sha, code) rest h

how_is_lawful : IsLawful it.how_form
unfolding it.how_form
how_is_lawful = kinds_are_lawful how_told how_at how_kinds how_again

-- ---- events

added_is_lawful : IsLawful (forms.bit & number 8 & it.msat & fixed 32 & number 4 & fixed 1366)
added_is_lawful = also bit_is_lawful (also (number_is_lawful 8) (also msat_is_lawful (also (fixed_is_lawful 32)
    (also (number_is_lawful 4) (fixed_is_lawful 1366)))))

settled_is_lawful : IsLawful (forms.bit & number 8 & it.how_form)
settled_is_lawful = also bit_is_lawful (also (number_is_lawful 8) how_is_lawful)

event_kinds : (n : ℕ) → ReadsKind event_told n (event_at n)
event_kinds n = kind_or n 0 (kind_read event_told 0 _ (alone _ added_is_lawful) (λ y. refl))
    (kind_or n 1 (kind_read event_told 1 _ (alone _ settled_is_lawful) (λ y. refl))
    (kind_or n 2 (kind_read event_told 2 event.Closed (alone _ (number_is_lawful 8)) (λ y. refl))
    (no_kind event_told n)))

event_again : (x : ChannelEvent) (rest : List ℕ) → (event_told x).fits ≡ true
    → event_at (event_told x).tag ((event_told x).fields ++ rest) ≡ Some (x, rest)
event_again (event.Added own id amount hash expiry onion) rest h =
    made_again _ added_is_lawful (own, (id, (amount, (hash, (expiry, onion))))) rest h
event_again (event.Settled own id x) rest h = made_again _ settled_is_lawful (own, (id, x)) rest h
event_again (event.Closed fee) rest h = made_again event.Closed (number_is_lawful 8) fee rest h

pub event_is_lawful : IsLawful it.event_form
unfolding it.event_form
event_is_lawful = kinds_are_lawful event_told event_at event_kinds event_again
