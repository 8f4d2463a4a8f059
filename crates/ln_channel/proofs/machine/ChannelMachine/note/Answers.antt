use Rattle.std.proofs.Common.{◌∙◌}
use Rattle.ln_channel.specs.Step.{noted}
use Rattle.ln_channel.proofs.Kept.{link_moves}
use Rattle.ln_channel.proofs.machine.ChannelMachine.note.Goals as goal

pub returns-clause-moves : goal.returns-clause-moves
returns-clause-moves g c = λ l stands.
    let call = c.note_open in
    link_moves (λ k connection s. noted connection c.args.command s) _ l c.in-Funded.channel
    call.new.channel call.result (c.self.view_is ∙ stands) c.in-Funded.is call.ensures.moves
