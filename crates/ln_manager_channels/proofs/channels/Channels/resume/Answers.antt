use Rattle.std.proofs.Common.{slice_get}
use Rattle.ln_manager_channels.specs.Calls as call
use Rattle.ln_manager_channels.specs.Calls.{obeyed}
use Rattle.ln_manager_channels.specs.Kept.{parts_of}
use Rattle.ln_manager_channels.specs.Links.{working_id}
use Rattle.ln_manager_channels.specs.Obeying.{Resumes}
use Rattle.ln_manager_channels.proofs.Entered.{one_more, entered, or_same}
use Rattle.ln_manager_channels.proofs.channels.Channels.resume.Goals as goal

pub returns-clause-enters_this_call : goal.returns-clause-enters_this_call
returns-clause-enters_this_call g c =
    let signer = g.K.ChannelKeys.signer in
    let p = parts_of c.self.inside.parts in
    let q = parts_of c.resume.new.self in
    entered signer (call.Resume (g.O.Onion.services c.args.onion.now) c.args.channel c.args.event c.args.verdict)
    (record { began = parts_of c.self.inside.began.told.start; parts = p }) c.args.self.now q c.self.view_is
    (or_same p q (λ v. Resumes signer (g.O.Onion.services c.args.onion.now) c.args.channel
    (working_id (slice_get p.links c.args.channel)) c.args.event c.args.verdict v (obeyed p) (obeyed q))
    c.resume.result c.resume.ensures.resumes c.resume.ensures.links_stay_if_refused
    c.resume.ensures.book_stays_if_refused c.resume.ensures.records_stay_if_refused
    c.resume.ensures.numbers_stay)

pub invariant_of-self : goal.invariant_of-self
invariant_of-self g c =
    let signer = g.K.ChannelKeys.signer in
    let p = parts_of c.self.inside.parts in
    let q = parts_of c.resume.new.self in
    one_more signer (call.Resume (g.O.Onion.services c.args.onion.now) c.args.channel c.args.event c.args.verdict)
    (parts_of c.self.inside.began.told.start) p q c.self.invariant
    (or_same p q (λ v. Resumes signer (g.O.Onion.services c.args.onion.now) c.args.channel
    (working_id (slice_get p.links c.args.channel)) c.args.event c.args.verdict v (obeyed p) (obeyed q))
    c.resume.result c.resume.ensures.resumes c.resume.ensures.links_stay_if_refused
    c.resume.ensures.book_stays_if_refused c.resume.ensures.records_stay_if_refused
    c.resume.ensures.numbers_stay)
