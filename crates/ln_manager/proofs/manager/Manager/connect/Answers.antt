use Rattle.std.specs.Prelude.{is_ok}
use Rattle.ln_manager_channels.specs.Calls as call
use Rattle.ln_manager_channels.specs.Moves.{Connects}
use Rattle.ln_manager_channels.specs.Places.{AnswersAt}
use Rattle.ln_manager.proofs.Leading.{answered, by_call, if_done, seen}
use Rattle.ln_manager.proofs.manager.Manager.connect.Goals as goal

pub returns-clause-connects : goal.returns-clause-connects
returns-clause-connects g c =
    by_call g.K.ChannelKeys.signer (call.Connect c.args.channel) (is_ok c.finish.result) _ c.self.inside.channels
    c.connect-answer.new.self _
    (seen _ _ c.self.view_is) c.connect-answer.ensures.beginning_stays c.connect-answer.ensures.enters_this_call
    (λ done. answered (λ a. AnswersAt c.args.channel (Connects g.K.ChannelKeys.signer) a
    c.self.inside.channels.parts.links c.connect-answer.new.self.parts.links) c.connect-answer.result
    c.connect-answer.ensures.connects
    (if_done c.connect-answer.result c.finish.result c.finish.ensures.only_what_was_answered done))
    c.finish.ensures.leads_on
