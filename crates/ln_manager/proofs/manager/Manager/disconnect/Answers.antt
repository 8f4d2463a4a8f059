use Rattle.std.specs.Prelude.{is_ok}
use Rattle.std.specs.Global.{Vec}
use Rattle.ln_channel.specs.declared.output.Output.{Output}
use Rattle.ln_manager_channels.specs.Calls as call
use Rattle.ln_manager.proofs.Leading.{by_call, none_done, seen}
use Rattle.ln_manager.proofs.manager.Manager.disconnect.Goals as goal

pub returns-in-Ok-clause-disconnects : goal.returns-in-Ok-clause-disconnects
returns-in-Ok-clause-disconnects g c =
    by_call g.K.ChannelKeys.signer (call.Disconnect c.args.channel) (is_ok c.finish.result) _ c.self.inside.channels
    c.disconnect.new.self _
    (seen _ _ c.self.view_is) c.disconnect.ensures.beginning_stays c.disconnect.ensures.enters_this_call
    (λ done. c.in-Ok.ensures.loses)
    c.finish.ensures.leads_on

pub returns-in-Err-clause-disconnects : goal.returns-in-Err-clause-disconnects
returns-in-Err-clause-disconnects g c =
    by_call g.K.ChannelKeys.signer (call.Disconnect c.args.channel) (is_ok c.finish-in-Err.result) _
    c.self.inside.channels c.disconnect.new.self _
    (seen _ _ c.self.view_is) c.disconnect.ensures.beginning_stays c.disconnect.ensures.enters_this_call
    (λ done. absurd
    (none_done (Vec Output) c.in-Err.refusal c.finish-in-Err.result c.finish-in-Err.ensures.only_what_was_answered
    done))
    c.finish-in-Err.ensures.leads_on
