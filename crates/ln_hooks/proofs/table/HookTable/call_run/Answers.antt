use Rattle.std.proofs.Common.{rules}
use Rattle.ln_hooks.proofs.Chains.{leaves-all, leaves-turn, leaves-none}
use Rattle.ln_hooks.proofs.table.HookTable.call_run.Goals as goal

pub loop-event-init : goal.loop-event-init
loop-event-init g c =
    let room = c.in_ok-verdicts in (
      leaves-all (λ h. h.call) _ c.args.self.now.hooks.items c.args.events.now room.verdicts.items room.ensures.items,
      room.ensures.len,
      room.ensures.capacity,
    )

pub loop-event-preserved : goal.loop-event-preserved
loop-event-preserved g c =
    let turn = c.loop-event in (
      leaves-turn (λ h. h.call) _ c.args.self.now.hooks.items c.args.events.now turn.event-index turn.verdicts.items
          turn.self.hooks.items c.event-item.result c.call.result c.call.new.self.hooks.items
          c.push_reserved.new.self.items turn.invariant.0 c.loop-event-test.true c.event-item.is
          c.call.ensures.calls_each_hook c.push_reserved.ensures.items,
      search rules,
      search rules,
    )

pub returns-clause-calls_each_hook_on_each : goal.returns-clause-calls_each_hook_on_each
returns-clause-calls_each_hook_on_each g c =
    leaves-none (λ h. h.call) _ c.args.self.now.hooks.items c.args.events.now c.loop-event.event-index
    c.loop-event.verdicts.items c.loop-event.self.hooks.items c.loop-event.invariant.0 (search rules)
