use Rattle.ln_channel.specs.Commands.{note_row}
use Rattle.ln_channel.proofs.Turning.{moves_so}
use Rattle.ln_channel.proofs.stage.note_open.Goals as goal

pub returns-clause-moves : goal.returns-clause-moves
returns-clause-moves c = λ e s.
    moves_so _ c.args.connection (note_row c.args.command e) c.note.result c.args.channel.now c.note.new.self
    (c.note.ensures.makes e s)
