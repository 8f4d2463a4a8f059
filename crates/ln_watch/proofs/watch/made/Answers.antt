use Rattle.ln_watch.proofs.watch.made.Goals as goal

pub returns-in-Ok : goal.returns-in-Ok
returns-in-Ok g c =
    ∣ (
      record {
        keys = tt;
        connection = c.args.machine.now.connection;
        halted = c.args.machine.now.halted;
        failure = c.args.machine.now.failure;
        stage = c.args.machine.now.stage;
      },
      c.in-Ok.ensures.tells_the_link,
    ) ∣₁
