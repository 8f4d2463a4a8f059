use Rattle.std.proofs.Common.{◌∙◌, ap, sym, Some}
use Rattle.std.specs.List.{position}
use Rattle.ln_book_tables.specs.Replay.{is_resumed}
use Rattle.ln_book_tables.proofs.Firsts.{not_found, none_gone, found_at, removed_at}
use Rattle.ln_book_tables.proofs.lists.unresume.Goals as goal

pub returns-in-None-clause-first : goal.returns-in-None-clause-first
returns-in-None-clause-first c = sym (not_found (is_resumed c.args.channel.now c.args.event) c.args.queue.now.items
    (ap (position (is_resumed c.args.channel.now c.args.event)) (sym c.as_slice.ensures.value)
    ∙ sym c.resumed_at.ensures ∙ c.in-None.is))

pub returns-in-None-clause-left : goal.returns-in-None-clause-left
returns-in-None-clause-left c = sym (none_gone (is_resumed c.args.channel.now c.args.event) c.args.queue.now.items
    (ap (position (is_resumed c.args.channel.now c.args.event)) (sym c.as_slice.ensures.value)
    ∙ sym c.resumed_at.ensures ∙ c.in-None.is))

pub returns-in-Some-clause-first : goal.returns-in-Some-clause-first
returns-in-Some-clause-first c =
    ap (λ q. Some q) (c.remove.ensures.value)
    ∙ sym (found_at (is_resumed c.args.channel.now c.args.event) c.args.queue.now.items c.in-Some.place _
    (ap (position (is_resumed c.args.channel.now c.args.event)) (sym c.as_slice.ensures.value)
    ∙ sym c.resumed_at.ensures ∙ c.in-Some.is))

pub returns-in-Some-clause-left : goal.returns-in-Some-clause-left
returns-in-Some-clause-left c =
    c.remove.ensures.items
    ∙ removed_at (is_resumed c.args.channel.now c.args.event) c.args.queue.now.items c.in-Some.place c.remove.result
    (ap (position (is_resumed c.args.channel.now c.args.event)) (sym c.as_slice.ensures.value)
    ∙ sym c.resumed_at.ensures ∙ c.in-Some.is)
