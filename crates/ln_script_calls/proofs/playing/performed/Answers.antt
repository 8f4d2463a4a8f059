use Rattle.std.proofs.Common.{rules}
use Rattle.ln_script_calls.proofs.Printing.{is_printed, is_begun}
use Rattle.ln_script_calls.proofs.playing.performed.Goals as goal

pub returns-clause-prints_it : goal.returns-clause-prints_it
returns-clause-prints_it c =
    is_printed c.perform-answer.result c.args.choice c.args.input.now c.into_inner.result.items
    c.new-reader.result.inner.now c.new-writer.result.inner.items c.perform-answer.new.writer.inner.items _
    (search rules) (search rules) (search rules) c.perform-answer.ensures.does_it

pub returns-clause-front : goal.returns-clause-front
returns-clause-front c =
    is_begun c.perform-answer.result c.args.choice c.args.input.now c.into_inner.result.items
    c.new-reader.result.inner.now c.new-writer.result.inner.items c.perform-answer.new.writer.inner.items _
    (search rules) (search rules) (search rules) c.perform-answer.ensures.front
