use Rattle.std.proofs.Common.{◌≡◌, ◌+◌, suc, ap, ◌∙◌, arith}
use Rattle.ln_world.specs.Follow.{snapshots_below, snapshot_in}
use Rattle.ln_world.proofs.Following.{none_read, one_read}
use Rattle.ln_world.proofs.follow.read_all.Goals as goal

pub loop-number-init : goal.loop-number-init
loop-number-init g c = c.new-snapshots.ensures.items ∙ none_read c.args.node c.args.channels.now.channels

pub loop-number-preserved : goal.loop-number-preserved
loop-number-preserved g c =
    let m = c.loop-number.number in
    let next : suc m ≡ m + 1 = omega arith in
    one_read m c.args.node c.args.channels.now.channels c.loop-number.snapshots.items c.read_channel.new.snapshots.items
    c.loop-number.invariant
    (c.in_ok-read_channel.ensures.read
    ∙ ap (λ o. snapshot_in c.args.node o c.loop-number.snapshots.items) c.channel.ensures)
    ∙ ap (λ k. snapshots_below k c.args.node c.args.channels.now.channels) next
