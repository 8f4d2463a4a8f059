use Rattle.ln_manager_channels.specs.Calls as call
use Rattle.ln_manager_channels.specs.Kept.{parts_of}
use Rattle.ln_manager_channels.proofs.Entered.{one_more, loses_so}
use Rattle.ln_manager_channels.proofs.channels.Channels.disconnect.Goals as goal

pub invariant_of-self : goal.invariant_of-self
invariant_of-self g c =
    let signer = g.K.ChannelKeys.signer in
    let p = parts_of c.self.inside.parts in
    let q = parts_of c.disconnect.new.self in
    one_more signer (call.Disconnect c.args.channel)
    (parts_of c.self.inside.began.told.start) p q c.self.invariant (
      loses_so p q c.args.channel c.disconnect.result c.disconnect.ensures.loses
          c.disconnect.ensures.tells_what_is_kept c.disconnect.ensures.halts_if_refused
          c.disconnect.ensures.tells_nothing_if_refused,
      c.disconnect.ensures.numbers_stay,
      c.disconnect.ensures.records_stay,
    )
