use Rattle.std.proofs.Common.{sym}
use Rattle.ln_channel.specs.Taking.{is_viewed, taken}
use Rattle.ln_channel.proofs.Taken.{met_so}
use Rattle.ln_channel.proofs.Turning.{moves_so}
use Rattle.ln_channel.proofs.stage.take_saved.Goals as goal

pub returns-then-is_connected-clause-moves : goal.returns-then-is_connected-clause-moves
returns-then-is_connected-clause-moves g c = λ e s.
    let keys = g.K.ChannelKeys.signer c.args.keys.now in
    let m = c.args.message in
    met_so (is_viewed m) keys c.args.connection.now m e c.args.channel.now c.take.new.self c.take.result
    (sym c.if-is_connected.ensures)
    (moves_so (is_viewed m) c.args.connection.now (taken keys m e) c.take.result c.args.channel.now c.take.new.self
    (c.take.ensures.makes e s))
