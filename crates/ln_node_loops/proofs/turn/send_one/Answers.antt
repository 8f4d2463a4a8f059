use Rattle.std.proofs.Common.{◌≡◌, ◌++◌, [], subst, IfOk, IfErr, inl, refl, option_to_list, option_map}
use Rattle.ln_msgs.specs.Messages.Typed.{wire}
use Rattle.ln_refusals.specs.declared.refusal.Refusal.TheVariants as refusal
use Rattle.ln_node_loops.specs.Turn.{Goes}
use Rattle.ln_node_loops.proofs.Idle.{sends_only}
use Rattle.ln_node_loops.proofs.turn.send_one.Goals as goal

pub returns-in-Ok : goal.returns-in-Ok
returns-in-Ok g c ws is =
    sends_only (option_to_list (option_map wire c.in-Ok.first)) ws c.send-written.result _ _
    (subst (λ r. IfOk r (λ m. option_to_list (option_map wire m) ≡ ws)) c.in-Ok.is is)
    (subst (λ o. Goes (option_to_list (option_map wire o) ++ []) c.send-written.result
    (g.L.Carries.connection c.args.connection.now) (g.L.Carries.connection c.send-written.new.connection))
    c.as_ref.ensures.value c.send-written.ensures)

pub returns-in-Err : goal.returns-in-Err
returns-in-Err g c ws is =
    inl (inl (subst (λ r. IfErr r (λ e. e ≡ refusal.Memory)) c.in-Err.is c.requires.fails_for_memory_alone), refl)
