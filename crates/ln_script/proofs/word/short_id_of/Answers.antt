use Rattle.std.proofs.Common.{sym, lit<}
use Rattle.std.proofs.lemmas.Str.Pattern.{split_once_first}
use Rattle.ln_script.proofs.Words.{no_first_x, no_second_x}
use Rattle.ln_script.proofs.word.short_id_of.Goals as goal

pub returns-in_default : goal.returns-in_default
returns-in_default c =
    let parts = split_once_first 120 c.args.word.now c.split_once.result c.split_once.ensures.cases (lit< tt) in
    sym (no_first_x c.args.word.now (rw c.in_default.is at parts))

pub returns-in_default-split_once : goal.returns-in_default-split_once
returns-in_default-split_once c =
    let first = split_once_first 120 c.args.word.now c.split_once.result c.split_once.ensures.cases (lit< tt) in
    let parts = rw c.in-Some.is at first in
    let again = split_once_first 120 c.in-Some.rest.now c.split_once-2.result c.split_once-2.ensures.cases (lit< tt) in
    let none = rw c.in_default-split_once.is at again in
    sym (no_second_x c.args.word.now c.in-Some.rest.now parts.2 none)
