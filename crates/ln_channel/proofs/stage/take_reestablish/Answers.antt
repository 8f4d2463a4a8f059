use Rattle.std.proofs.Common.{refl}
use Rattle.ln_channel.specs.declared.machine.ConnectionState.TheVariants as lines
use Rattle.ln_channel.specs.Resume.{resume_row}
use Rattle.ln_channel.proofs.Turning.{turned_so, refused_so}
use Rattle.ln_channel.proofs.stage.take_reestablish.Goals as goal

pub returns-in-Ok-clause-moves : goal.returns-in-Ok-clause-moves
returns-in-Ok-clause-moves g c = λ e s.
    turned_so lines.Connected (resume_row (g.K.ChannelKeys.signer c.args.keys.now) c.args.message.now e) c.in-Ok.outbox
    c.resume.new.self (c.in-Ok.ensures.makes e s)

pub returns-in-Err-clause-moves : goal.returns-in-Err-clause-moves
returns-in-Err-clause-moves g c = λ e s.
    refused_so _ lines.Connected c.args.connection.now c.args.connection.now
    (resume_row (g.K.ChannelKeys.signer c.args.keys.now) c.args.message.now e) c.in-Err.refusal c.args.channel.now
    c.resume.new.self (c.in-Err.ensures.makes e s) refl
