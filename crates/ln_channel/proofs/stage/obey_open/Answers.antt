use Rattle.std.proofs.Common.{sym, false}
use Rattle.ln_channel.specs.Commands.{command_row}
use Rattle.ln_channel.proofs.Taken.{obeyed_so}
use Rattle.ln_channel.proofs.Turning.{moves_so}
use Rattle.ln_channel.proofs.stage.obey_open.Goals as goal

pub returns-clause-moves : goal.returns-clause-moves
returns-clause-moves g c = λ e s.
    let keys = g.K.ChannelKeys.signer c.args.keys.now in
    obeyed_so keys c.args.connection c.args.command e c.args.channel.now c.command.new.self c.command.result
    (sym (c.in-None.ensures e s)) (sym c.if-not-is_connected.ensures)
    (moves_so false c.args.connection (command_row keys c.args.command e) c.command.result c.args.channel.now
    c.command.new.self (c.command.ensures.makes e s))
