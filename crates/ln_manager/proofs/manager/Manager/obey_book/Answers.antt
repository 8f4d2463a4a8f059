use Rattle.ln_manager_channels.specs.Calls as call
use Rattle.ln_manager.proofs.Changed.{obey_book_one}
use Rattle.ln_manager.proofs.Leading.{first, seen}
use Rattle.ln_manager.proofs.manager.Manager.obey_book.Goals as goal

pub invariant_of-self : goal.invariant_of-self
invariant_of-self g c =
    c.batch-batched.ensures.leaves_none_out c.self.inside.channels.parts.records
    (obey_book_one g.K.ChannelKeys.signer c.args.channel (g.O.Onion.services c.self.inside.onion)
    c.self.inside.channels.parts c.obey_book-given.new.self.parts c.obey_book-given.ensures.enters_this_call)
    c.self.invariant

pub invariant_of-self-2 : goal.invariant_of-self-2
invariant_of-self-2 g c =
    c.batch-batched.ensures.leaves_none_out c.self.inside.channels.parts.records
    (obey_book_one g.K.ChannelKeys.signer c.args.channel (g.O.Onion.services c.self.inside.onion)
    c.self.inside.channels.parts c.obey_book-given.new.self.parts c.obey_book-given.ensures.enters_this_call)
    c.self.invariant

pub returns-in_err-given-clause-leads_on : goal.returns-in_err-given-clause-leads_on
returns-in_err-given-clause-leads_on g c =
    first g.K.ChannelKeys.signer (call.ObeyBook (g.O.Onion.services c.self.inside.onion) c.args.channel) _
    c.self.inside.channels c.obey_book-given.new.self _
    (seen _ _ c.self.view_is) c.obey_book-given.ensures.beginning_stays c.obey_book-given.ensures.enters_this_call
    c.batch-batched.ensures.leads_on

pub returns-clause-leads_on : goal.returns-clause-leads_on
returns-clause-leads_on g c =
    first g.K.ChannelKeys.signer (call.ObeyBook (g.O.Onion.services c.self.inside.onion) c.args.channel) _
    c.self.inside.channels c.obey_book-given.new.self _
    (seen _ _ c.self.view_is) c.obey_book-given.ensures.beginning_stays c.obey_book-given.ensures.enters_this_call
    c.batch-batched.ensures.leads_on
