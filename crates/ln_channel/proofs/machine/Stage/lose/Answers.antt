use Rattle.std.proofs.Common.{refl, sym}
use Rattle.ln_channel.proofs.Turning.{none_kept}
use Rattle.ln_channel.proofs.machine.Stage.lose.Goals as goal

pub returns-then-not-is_saved-clause-same_channel : goal.returns-then-not-is_saved-clause-same_channel
returns-then-not-is_saved-clause-same_channel c =
    none_kept c.args.self.now c.put.new.place (sym (c.if-not-is_saved.ensures _ refl))
