use Rattle.std.proofs.Common.{◌≡◌, ◌+◌, ◌++◌, suc, ap, ◌∙◌, arith}
use Rattle.ln_world_channels.specs.World.{World, channel, lines_of_ends, end_lines_below}
use Rattle.ln_world_channels.proofs.Worlds.{none_below, one_below}
use Rattle.ln_world_channels.proofs.world.World.end_lines.Goals as goal
use Rattle.ln_world_channels.proofs.world.World.end_lines.Goals.{else-loop-number-test}
use Rattle.ln_world_channels.proofs.world.World.end_lines.Goals.{
  then-loop-number-test+in_ok-report_ends+else-number-lt255,
}

pub loop-number-init : goal.loop-number-init
loop-number-init g c = c.new-lines.ensures.items ∙ none_below c.args.self.now.channels

pub loop-number-preserved : goal.loop-number-preserved
loop-number-preserved g c =
    let n = c.loop-number.number in
    let next : suc n ≡ n + 1 = omega arith in
    one_below n c.args.self.now.channels c.loop-number.lines.items c.report_ends.new.lines.items c.loop-number.invariant
    (c.in_ok-report_ends.ensures.told
    ∙ ap (λ (v : World _). c.loop-number.lines.items ++ lines_of_ends (channel n v.channels)) c.self.view_is)
    ∙ ap (λ k. end_lines_below k c.args.self.now.channels) next

pub returns-clause-lines : goal.returns-clause-lines
returns-clause-lines g c =
    let n = c.loop-number.number in
    elim c.loop-number-test.branch [
      | else-loop-number-test w ↦ absurd (omega (arith, w.loop-number-test.false, c.loop-number.auto.number-end))
      | then-loop-number-test+in_ok-report_ends+else-number-lt255 w ↦
          let last : suc n ≡ 256 = omega (arith, c.loop-number.auto.number-end) in
          ap (λ l. l.items) w.lines-is
          ∙ one_below n c.args.self.now.channels c.loop-number.lines.items w.report_ends.new.lines.items
          c.loop-number.invariant
          (w.in_ok-report_ends.ensures.told
          ∙ ap (λ (v : World _). c.loop-number.lines.items ++ lines_of_ends (channel n v.channels)) c.self.view_is)
          ∙ ap (λ k. end_lines_below k c.args.self.now.channels) last
    ]
