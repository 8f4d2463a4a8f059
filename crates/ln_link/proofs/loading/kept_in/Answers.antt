use Rattle.std.proofs.Common.{◌≡◌, ◌⊎◌, ◌∙◌, refl, sym, ap, subst, Bool, true, false, not, Result, Ok, Err}
use Rattle.std.proofs.Common.{if◌then◌else◌}
use Rattle.std.proofs.lemmas.Result.{err_from_is_err_and}
use Rattle.ln_refusals.specs.declared.refusal.Refusal.{Refusal}
use Rattle.ln_refusals.specs.declared.refusal.Refusal.TheVariants as refusal
use Rattle.ln_channel.specs.End.{End}
use Rattle.ln_store.specs.declared.record.Items.{Items}
use Rattle.ln_store.specs.Record.{is_sealed, version_of, is_known_version}
use Rattle.ln_link.specs.Loading.{IsLoadable, TellsEnd}
use Rattle.ln_link.proofs.loading.kept_in.Goals as goal

pub returns-clause-tells_each_record : goal.returns-clause-tells_each_record
returns-clause-tells_each_record c = λ i readable written. (
  c.into_items-items.result,
  c.in_ok-record.ensures.reads_each_record i readable written ∙ ap Ok (sym c.into_items-items.ensures.has_the_items),
  c.in_ok-channel.ensures.channel.0,
  ap (λ (e : End). (c.into_items-items.result.header.failure, e)) c.in_ok-channel.ensures.channel.1,
)

abbrev done : Items → Result Items Refusal
done i = Ok i

same_items : (i j : Items) → done i ≡ done j → i ≡ j
same_items i j e = cc

-- items that were read, and can't be loaded
refuses : (i j : Items) (e : Refusal) → done i ≡ done j
    → (e ≡ refusal.Memory) ⊎ ((e ≡ refusal.Damaged) × ¬ IsLoadable j) → TellsEnd (done i) (Err e)
refuses i j e same fails =
    subst (λ (k : Items). (e ≡ refusal.Memory) ⊎ ((e ≡ refusal.Damaged) × ¬ IsLoadable k)) (sym (same_items i j same))
    fails

pub returns-in_err-channel-clause-tells_each_record : goal.returns-in_err-channel-clause-tells_each_record
returns-in_err-channel-clause-tells_each_record c = λ i readable written.
    let same = c.in_ok-record.ensures.reads_each_record i readable written
    ∙ ap Ok (sym c.into_items-items.ensures.has_the_items) in
    let p = err_from_is_err_and c.from_residual-in_err-channel.result c.from_residual-in_err-channel.ensures.1 in
    rw (p.1, p.2) (refuses i c.into_items-items.result c.in_err-channel.field-0.0 same
    c.in_err-channel.ensures.fails)

versioned : (b : Bool) (row : Result Items Refusal) (i : Items) → (if not b then Err refusal.Version else row) ≡ Ok i
    → b ≡ true
versioned true row i e = refl
versioned false row i e = absurd (cc)

-- what reads as items has its digest, and is of a known version
whole : (sealed known : Bool) (row : Result Items Refusal) (i : Items)
    → (if not sealed then Err refusal.Damaged else (if not known then Err refusal.Version else row)) ≡ Ok i
    → (sealed ≡ true) × (known ≡ true)
whole true known row i e = (refl, versioned known row i e)
whole false known row i e = absurd (cc)

pub returns-in_err-channel-clause-takes_memory_for_the_body :
    goal.returns-in_err-channel-clause-takes_memory_for_the_body
returns-in_err-channel-clause-takes_memory_for_the_body c = λ lacks.
    whole (is_sealed c.args.bytes.now) (is_known_version (version_of c.args.bytes.now)) _ c.in_ok-record.record
    c.in_ok-record.ensures.reads_as_defined
