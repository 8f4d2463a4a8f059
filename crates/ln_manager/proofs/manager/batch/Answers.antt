use Rattle.std.proofs.Common.{◌≡◌, ◌||◌, ◌∙◌, sym, subst, true}
use Rattle.ln_manager_channels.specs.Calls as call
use Rattle.ln_manager_channels.specs.Moves.{none_fresh}
use Rattle.ln_manager.proofs.Changed.{none_left_out}
use Rattle.ln_manager.proofs.Leading.{halted, one}
use Rattle.ln_manager.proofs.manager.batch.Goals as goal

pub returns-in-Ok-clause-leaves_none_out : goal.returns-in-Ok-clause-leaves_none_out
returns-in-Ok-clause-leaves_none_out g c =
    λ ns changes h.
    subst (λ ms. (c.args.is_spent.now || none_fresh ms) ≡ true) (sym c.in-Ok.ensures.batched)
    (none_left_out c.args.is_spent.now c.args.channel ns c.args.channels.now.parts.records changes h)

pub returns-in-Ok-clause-leads_on : goal.returns-in-Ok-clause-leads_on
returns-in-Ok-clause-leads_on g c =
    one g.K.ChannelKeys.signer (call.Batch c.args.channel) c.args.channels.now c.batch.new.self
    c.batch.ensures.beginning_stays c.in-Ok.ensures.enters_this_call

pub returns-in-Err-clause-leads_on : goal.returns-in-Err-clause-leads_on
returns-in-Err-clause-leads_on g c =
    one g.K.ChannelKeys.signer (call.Halt c.args.channel) c.args.channels.now c.halt.new.self
    (c.halt.ensures.beginning_stays ∙ c.batch.ensures.beginning_stays)
    (halted g.K.ChannelKeys.signer c.args.channel c.args.channels.now.parts c.batch.new.self.parts c.halt.new.self.parts
    c.batch.ensures.links_stay
    (c.batch.ensures.numbers_stay, c.batch.ensures.book_stays, c.in-Err.ensures.records_stay_if_refused)
    c.halt.ensures.enters_this_call)
