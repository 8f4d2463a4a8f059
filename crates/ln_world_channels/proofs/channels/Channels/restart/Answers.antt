use Rattle.std.proofs.Common.{arith, ap, length, ◌∙◌}
use Rattle.ln_world_channels.specs.WorldChannel.{moved, restart_moves}
use Rattle.ln_world_channels.proofs.Places.{all_more, still_once}
use Rattle.ln_world_channels.proofs.channels.Channels.restart.Goals as goal

pub invariant_of-self-in_err-restart : goal.invariant_of-self-in_err-restart
invariant_of-self-in_err-restart g c =
    still_once c.loop-i.self-inside.items.items c.loop-i.i _ c.restart.new.self c.index_mut.ensures.value
    c.restart.ensures.number c.loop-i.invariant.1

pub loop-i-preserved : goal.loop-i-preserved
loop-i-preserved g c =
    let move = moved g.K.ChannelKeys.signer (restart_moves c.args.node) in
    let now = c.loop-i.self-inside.items.items in
    let long = ap length c.self.view_is in (
      all_more move c.args.self.now now c.loop-i.i _ c.restart.new.self c.loop-i.invariant.0 (omega (arith, long))
          (c.in_ok-restart.ensures.moved ∙ ap move c.index_mut.ensures.value),
      still_once now c.loop-i.i _ c.restart.new.self c.index_mut.ensures.value c.restart.ensures.number
          c.loop-i.invariant.1,
    )
