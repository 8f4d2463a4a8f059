use Rattle.std.proofs.Common.{◌∙◌, sym, ap, arith, cond, Bool, Ok, Err, inr}
use Rattle.ln_refusals.specs.declared.refusal.Refusal.TheVariants as refusal
use Rattle.ln_store.specs.Items as it
use Rattle.ln_store.proofs.Records.{told, only_readable}
use Rattle.ln_store.proofs.codec.items_of.Goals as goal

pub returns-then-whole-clause-reads_as_defined : goal.returns-then-whole-clause-reads_as_defined
returns-then-whole-clause-reads_as_defined c =
    let i = c.in_ok-items.items in
    told c.args.version c.args.body.now i c.in_ok-items.rest.now (λ n. omega (arith, c.type_inv.body n))
    c.in_ok-items.ensures
    ∙ ap (λ (b : Bool). cond b (Ok i) (Err refusal.Damaged)) (sym c.in-Ok.ensures.tells_it ∙ c.if-whole.true)

pub returns-then-whole-clause-is_readable : goal.returns-then-whole-clause-is_readable
returns-then-whole-clause-is_readable c =
    only_readable c.args.version (it.items.at c.args.body.now) c.in_ok-items.items
    (returns-then-whole-clause-reads_as_defined c)

pub returns-else-whole-clause-reads_as_defined : goal.returns-else-whole-clause-reads_as_defined
returns-else-whole-clause-reads_as_defined c =
    let i = c.in_ok-items.items in
    inr (told c.args.version c.args.body.now i c.in_ok-items.rest.now (λ n. omega (arith, c.type_inv.body n))
    c.in_ok-items.ensures
    ∙ ap (λ (b : Bool). cond b (Ok i) (Err refusal.Damaged)) (sym c.in-Ok.ensures.tells_it ∙ c.if-whole.false))
