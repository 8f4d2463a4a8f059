use Rattle.std.proofs.Common.{ap, ◌∙◌, append_assoc, ◌≡◌, OnOk, Result, Ok, Err, List, ◌++◌}
use Rattle.ln_refusals.specs.declared.refusal.Refusal.{Refusal}
use Rattle.ln_channel.specs.declared.output.Output.{Output}
use Rattle.ln_channel.specs.Outputs.{Handed}
use Rattle.ln_channel.specs.Resume.{ready_again, owed_again, shutdown_again, fee_again}
use Rattle.ln_channel.proofs.channel.Channel.send_again.Goals as goal

-- what is sent in four parts
four : {A : Type 0} (r : Result A Refusal) (old m1 m2 m3 new : Handed) (a b c d : List Output)
    → m1 ≡ record { sent = old.sent ++ a; told = old.told } → m2 ≡ record { sent = m1.sent ++ b; told = m1.told }
    → m3 ≡ record { sent = m2.sent ++ c; told = m2.told }
    → OnOk r (new ≡ record { sent = m3.sent ++ d; told = m3.told })
    → OnOk r (new ≡ record { sent = old.sent ++ (((a ++ b) ++ c) ++ d); told = old.told })
four (Err x) old m1 m2 m3 new a b c d p q s t = tt
four (Ok x) old m1 m2 m3 new a b c d p q s t =
    t ∙ ap (λ (m : Handed). record { sent = m.sent ++ d; told = m.told }) s
    ∙ ap (λ (m : Handed). record { sent = (m.sent ++ c) ++ d; told = m.told }) q
    ∙ ap (λ (m : Handed). record { sent = ((m.sent ++ b) ++ c) ++ d; told = m.told }) p
    ∙ ap (λ (xs : List Output). record { sent = (xs ++ c) ++ d; told = old.told }) (append_assoc old.sent a b)
    ∙ ap (λ (xs : List Output). record { sent = xs ++ d; told = old.told }) (append_assoc old.sent (a ++ b) c)
    ∙ ap (λ (xs : List Output). record { sent = xs; told = old.told }) (append_assoc old.sent ((a ++ b) ++ c) d)

pub returns-clause-sent : goal.returns-clause-sent
returns-clause-sent g c = λ e s.
    let keys = g.K.ChannelKeys.signer c.args.keys.now in
    four c.send_fee_again.result c.args.outbox.now c.send_ready_again.new.outbox c.send_owed.new.self
    c.send_shutdown_again.new.outbox c.send_fee_again.new.outbox (ready_again keys c.args.message.now e)
    (owed_again c.args.resends.items) (shutdown_again e) (fee_again keys e)
    (c.in_ok-send_ready_again.ensures.sent e s) c.in_ok-send_owed.ensures.sent
    (c.in_ok-send_shutdown_again.ensures.sent e s) (c.send_fee_again.ensures.sent e s)
