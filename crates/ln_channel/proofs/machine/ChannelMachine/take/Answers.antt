use Rattle.std.proofs.Common.{◌∙◌, sym}
use Rattle.ln_channel.specs.Taking.{is_viewed}
use Rattle.ln_channel.specs.Step.{stage_row}
use Rattle.ln_channel.proofs.Kept.{link_takes, same_line, stage_stands}
use Rattle.ln_channel.proofs.Taken.{at_hand_so}
use Rattle.ln_channel.proofs.machine.ChannelMachine.take.Goals as goal

pub returns-clause-takes : goal.returns-clause-takes
returns-clause-takes g c = λ l s.
    let m = c.args.message in
    let kept = c.self.view_is ∙ s in
    let stands = stage_stands _ l kept in
    at_hand_so (is_viewed m) (g.K.ChannelKeys.signer l.keys) c.self.inside.connection m l _ c.take.result
    (same_line _ l kept) (sym (c.if-is_passed_over.ensures l.stage stands)) (sym (c.in-None.ensures l.stage stands))
    (link_takes (is_viewed m) (λ k connection stage. stage_row
    (g.K.ChannelKeys.signer k) connection m stage) _ l c.take.new.connection
    c.take.new.self c.take.result kept (c.take.ensures.moves l.stage stands))
