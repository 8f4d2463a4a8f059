use Rattle.std.proofs.Common.{◌≡◌, ◌+◌, suc, ap, ◌∙◌, arith}
use Rattle.ln_world.specs.Follow.{followed_below, with_channel}
use Rattle.ln_world.proofs.Following.{none_followed, one_followed}
use Rattle.ln_world.proofs.follow.follow_all.Goals as goal

pub loop-number-init : goal.loop-number-init
loop-number-init g c =
    none_followed c.args.node c.args.policy c.args.channels.now.channels c.args.book.now

pub loop-number-preserved : goal.loop-number-preserved
loop-number-preserved g c =
    let m = c.loop-number.number in
    let next : suc m ≡ m + 1 = omega arith in
    one_followed m c.args.node c.args.policy c.args.channels.now.channels c.args.book.now c.loop-number.book
    c.follow_channel.new.book c.loop-number.invariant
    (c.in_ok-follow_channel.ensures.followed
    ∙ ap (λ o. with_channel c.args.node c.args.policy o c.loop-number.book) c.channel.ensures)
    ∙ ap (λ k. followed_below k c.args.node c.args.policy c.args.channels.now.channels c.args.book.now) next
