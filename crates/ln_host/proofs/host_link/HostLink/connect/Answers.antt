use Rattle.std.proofs.Common.{Ok, Err, refl}
use Rattle.ln_channel.specs.Step.{connected}
use Rattle.ln_host.specs.Keys.{host_signer}
use Rattle.ln_host.proofs.Passing.{outputs_in, answered_listed}
use Rattle.ln_host.proofs.host_link.HostLink.connect.Goals as goal

pub returns-in-Ok : goal.returns-in-Ok
returns-in-Ok c =
    let l = c.args.self.now.link in
    record {
      connects = record {
        answer = Ok c.in-Ok.outputs.items;
        link = c.connect.new.self;
        answers = answered_listed outputs_in (connected (host_signer l.keys) l) l (Ok c.in-Ok.outputs)
            c.connect.new.self (c.in-Ok.ensures.answers l refl);
        passes = c.queue.ensures.hands;
      };
    }

pub returns-in-Err : goal.returns-in-Err
returns-in-Err c =
    let l = c.args.self.now.link in
    record {
      connects = record {
        answer = Err c.in-Err.refusal;
        link = c.connect.new.self;
        answers = answered_listed outputs_in (connected (host_signer l.keys) l) l (Err c.in-Err.refusal)
            c.connect.new.self (c.in-Err.ensures.answers l refl);
        passes = (refl, c.put_record.ensures);
      };
    }
