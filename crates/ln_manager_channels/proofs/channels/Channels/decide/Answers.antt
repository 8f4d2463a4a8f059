use Rattle.std.proofs.Common.{slice_get}
use Rattle.ln_manager_channels.specs.Calls as call
use Rattle.ln_manager_channels.specs.Calls.{obeyed}
use Rattle.ln_manager_channels.specs.Events.{next_event}
use Rattle.ln_manager_channels.specs.Kept.{parts_of}
use Rattle.ln_manager_channels.specs.Links.{working_end}
use Rattle.ln_manager_channels.specs.Obeying.{Decides}
use Rattle.ln_manager_channels.proofs.Entered.{one_more, entered, or_same}
use Rattle.ln_manager_channels.proofs.channels.Channels.decide.Goals as goal

pub returns-clause-enters_this_call : goal.returns-clause-enters_this_call
returns-clause-enters_this_call g c =
    let signer = g.K.ChannelKeys.signer in
    let p = parts_of c.self.inside.parts in
    let q = parts_of c.decide.new.self in
    entered signer (call.Decide (g.O.Onion.services c.args.onion.now) c.args.channel c.args.verdict)
    (record { began = parts_of c.self.inside.began.told.start; parts = p }) c.args.self.now q c.self.view_is
    (or_same p q (λ v. Decides signer (g.O.Onion.services c.args.onion.now) c.args.channel
    (next_event (working_end (slice_get p.links c.args.channel))) c.args.verdict v (obeyed p) (obeyed q))
    c.decide.result c.decide.ensures.decides c.decide.ensures.links_stay_if_refused
    c.decide.ensures.book_stays_if_refused c.decide.ensures.records_stay_if_refused
    c.decide.ensures.numbers_stay)

pub invariant_of-self : goal.invariant_of-self
invariant_of-self g c =
    let signer = g.K.ChannelKeys.signer in
    let p = parts_of c.self.inside.parts in
    let q = parts_of c.decide.new.self in
    one_more signer (call.Decide (g.O.Onion.services c.args.onion.now) c.args.channel c.args.verdict)
    (parts_of c.self.inside.began.told.start) p q c.self.invariant
    (or_same p q (λ v. Decides signer (g.O.Onion.services c.args.onion.now) c.args.channel
    (next_event (working_end (slice_get p.links c.args.channel))) c.args.verdict v (obeyed p) (obeyed q))
    c.decide.result c.decide.ensures.decides c.decide.ensures.links_stay_if_refused
    c.decide.ensures.book_stays_if_refused c.decide.ensures.records_stay_if_refused
    c.decide.ensures.numbers_stay)
