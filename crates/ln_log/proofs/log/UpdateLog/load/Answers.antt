use Rattle.ln_log.proofs.Restored.{loaded_is, loaded_whole}
use Rattle.ln_log.proofs.log.UpdateLog.load.Goals as goal

pub invariant_of-result : goal.invariant_of-result
invariant_of-result c =
    loaded_whole (record { opening = c.args.opening; role = c.args.role; base = c.args.base }) c.args.own.items
    c.args.received.items c.args.coverage _ _ _ c.in_ok-window.ensures.keeps_what_is_told c.begun.ensures
    c.begun-2.ensures c.requires

pub returns-clause-has_what_is_told : goal.returns-clause-has_what_is_told
returns-clause-has_what_is_told c =
    loaded_is (record { opening = c.args.opening; role = c.args.role; base = c.args.base }) c.args.own.items
    c.args.received.items c.args.coverage _ _ _ c.in_ok-window.ensures.keeps_what_is_told c.begun.ensures
    c.begun-2.ensures
