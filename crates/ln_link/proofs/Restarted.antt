-- What is written of an end is read again.
use Rattle.std.proofs.Common.{◌≡◌, ◌∙◌, refl, sym, ap, inl, inr, Option, Result, Ok, Err}
use Rattle.std.specs.Prelude.{IfOk, IfErr}
use Rattle.ln_refusals.specs.declared.refusal.Refusal.{Refusal}
use Rattle.ln_refusals.specs.declared.refusal.Refusal.TheVariants as refusal
use Rattle.ln_channel.specs.End.{End}
use Rattle.ln_channel.specs.Record.{came_back}
use Rattle.ln_channel.specs.State.{State}
use Rattle.ln_store.specs.declared.record.Items.{Items}
use Rattle.ln_link.specs.Record.{header_of, items_of}
use Rattle.ln_link.specs.Loading.{HasRecord, TellsEnd, Loads, end_of}
use Rattle.ln_link.proofs.Loaded.{loadable}

abbrev read : Items → Result Items Refusal
read i = Ok i

same_items : (i j : Items) → read i ≡ read j → i ≡ j
same_items i j e = cc

-- the failure is read again
pub same_failure : (failure : Option Refusal) (e : End) → (items_of failure e).header.failure ≡ failure
unfolding items_of header_of
same_failure failure e = refl

-- a link that has what a record tells of its end is loaded of it
pub loads_told : {K : Type 0} (keys : K) (told : Result Items Refusal) (k : Option Refusal × End) (l : State K)
    → l ≡ came_back keys k.0 k.1 → TellsEnd told (Ok k) → Loads keys told (Ok l)
loads_told keys told k l is tells = (
  tells.0,
  tells.1,
  tells.2,
  is ∙ ap (λ (t : Option Refusal × End). came_back keys t.0 t.1) tells.3,
)

-- a link that has the end again, as its record tells it
pub comes_back : {K : Type 0} (keys : K) (failure : Option Refusal) (e : End)
    (answer : Result (State K) Refusal) → HasRecord failure e → Loads keys (Ok (items_of failure e)) answer
    → IfOk answer (λ l. l ≡ came_back keys failure (end_of (items_of failure e)))
comes_back keys failure e (Ok l) h loads =
    loads.3
    ∙ ap (λ (i : Items). came_back keys i.header.failure (end_of i))
    (sym (same_items (items_of failure e) loads.0 loads.1))
    ∙ ap (λ (f : Option Refusal). came_back keys f (end_of (items_of failure e))) (same_failure failure e)
comes_back keys failure e (Err x) h loads = tt

-- memory alone can be missing
pub for_memory_alone : {K : Type 0} (keys : K) (failure : Option Refusal) (e : End)
    (answer : Result (State K) Refusal) → HasRecord failure e → Loads keys (Ok (items_of failure e)) answer
    → IfErr answer (λ x. x ≡ refusal.Memory)
for_memory_alone keys failure e (Ok l) h loads = tt
for_memory_alone keys failure e (Err x) h loads =
    elim loads [
      | inl m ↦ m
      | inr f ↦ absurd (f.1 (loadable failure e h))
    ]
