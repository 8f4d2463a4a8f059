use Rattle.std.proofs.Common.{rules}
use Rattle.std.specs.Prelude.{not}
use Rattle.std.proofs.lemmas.Fn.{filter_same}
use Rattle.ln_book_tables.specs.Replay.{is_queued}
use Rattle.ln_book_tables.proofs.lists.unqueue.Goals as goal

pub returns-clause-left : goal.returns-clause-left
returns-clause-left c =
    filter_same _ (λ q. not (is_queued c.args.channel.now c.args.event q)) _ (λ x b f' k. search rules) _ _
    c.retain.ensures.filtered
