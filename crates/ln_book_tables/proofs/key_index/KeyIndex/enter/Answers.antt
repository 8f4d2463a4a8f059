use Rattle.std.proofs.Common.{◌≡◌, ◌∙◌, subst, sym, None}
use Rattle.ln_book_tables.specs.KeyIndex.{place_of}
use Rattle.ln_book_tables.proofs.Keyed.{same_keys, none_there}
use Rattle.ln_book_tables.proofs.key_index.KeyIndex.enter.Goals as goal

pub returns-in-Ok-clause-enters : goal.returns-in-Ok-clause-enters
returns-in-Ok-clause-enters c exact =
    let none : place_of c.args.key.now c.args.self.now ≡ None =
    none_there _ (sym c.if-contains_key.false ∙ c.contains_key.ensures) in (
      exact,
      λ k is. subst (λ j. place_of j c.args.self.now ≡ None) (same_keys c.args.key.now k is) none,
      c.in-Ok.ensures.updates.0,
    )
