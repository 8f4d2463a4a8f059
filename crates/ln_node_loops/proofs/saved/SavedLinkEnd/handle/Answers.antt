use Rattle.std.proofs.Common.{refl}
use Rattle.ln_node_loops.specs.Saved.{acts}
use Rattle.ln_node_loops.proofs.Saving.{message-listed}
use Rattle.ln_node_loops.proofs.saved.SavedLinkEnd.handle.Goals as goal

pub returns : goal.returns
unfolding acts
returns g c =
    message-listed c.handle.result (λ v. v.items) c.args.self.now.link c.handle.new.self
    (g.S.RecordStore.store_view c.args.self.now.store) (g.S.RecordStore.store_view c.handle.new.store)
    (g.K.ChannelKeys.signer c.args.self.now.link.keys) c.args.message
    (c.handle.ensures.answers c.args.self.now.link refl)
