use Rattle.std.proofs.Common.{ap, sym, refl, ◌∙◌}
use Rattle.ln_world_channels.proofs.Moving.{on_ok}
use Rattle.ln_world_dispatch.proofs.Unhooked.{if_ok_so}
use Rattle.ln_world.specs.World.{command_by, handed_or}
use Rattle.ln_world.proofs.Asking.{asks, hands, resumes}
use Rattle.ln_world.proofs.prepare.resume_in.Goals as goal

pub returns-in-Ok-clause-command : goal.returns-in-Ok-clause-command
returns-in-Ok-clause-command c =
    let knows = resumes c.args.end c.channel_id_of-id.result c.args.book.now c.resume.new.self c.args.number
    c.args.verdict c.in-Ok.mark c.channel_id_of-id.ensures c.in-Ok.ensures.answers_the_mark
    c.in-Ok.ensures.enters_what_is_resumed in
    if_ok_so c.take_commands.result _ _ (λ x e. e ∙ asks c.args.end c.channel_id_of-id.result c.resume.new.self
    c.resume.new.self c.channel_id_of-id.ensures refl ∙ ap (command_by c.args.end) (sym knows))
    c.take_commands.ensures.answers_the_first

pub returns-in-Ok-clause-handed : goal.returns-in-Ok-clause-handed
returns-in-Ok-clause-handed c =
    let knows = resumes c.args.end c.channel_id_of-id.result c.args.book.now c.resume.new.self c.args.number
    c.args.verdict c.in-Ok.mark c.channel_id_of-id.ensures c.in-Ok.ensures.answers_the_mark
    c.in-Ok.ensures.enters_what_is_resumed in
    on_ok c.take_commands.result (λ e. e ∙ hands c.args.end c.channel_id_of-id.result c.resume.new.self
    c.resume.new.self c.channel_id_of-id.ensures refl ∙ ap (λ o. handed_or c.args.end o c.args.book.now) (sym knows))
    c.take_commands.ensures.enters_what_is_taken
