use Rattle.std.proofs.Common.{◌≡◌, inl, inr, [], get_or, subst, ◌∙◌, arith}
use Rattle.std.proofs.lemmas.Bool.{cases_lt}
use Rattle.std.proofs.lemmas.List.{get_or_default}
use Rattle.ln_sqlite.specs.Reading.{ShowsRecord}
use Rattle.ln_sqlite.proofs.rows.show_records.Goals as goal

pub loop-at-preserved : goal.loop-at-preserved
loop-at-preserved c i low = elim (cases_lt i c.loop-at.at) [
  | inl before ↦ c.loop-at.invariant i before
  | inr past ↦ let last : i ≡ c.loop-at.at = omega (arith, low, past) in
      let here : c.index-rows-at.result ≡ get_or c.args.rows.now c.loop-at.at [] = c.index-rows-at.is
      ∙ get_or_default c.args.rows.now c.loop-at.at c.index-rows-at.result [] (omega (arith, c.loop-at-test.true)) in
      rw last (subst ShowsRecord here (c.shows_record.ensures c.if-not-shows_record.false))
]
