use Rattle.std.proofs.Common.{Ok, Err, refl}
use Rattle.ln_channel.specs.Step.{commanded}
use Rattle.ln_store.specs.Store.{in_memory}
use Rattle.ln_host.specs.Keys.{host_signer}
use Rattle.ln_host.proofs.Passing.{outputs_in, command_listed}
use Rattle.ln_host.proofs.host_link.HostLink.command.Goals as goal

pub returns-in-Ok : goal.returns-in-Ok
returns-in-Ok c =
    let l = c.args.self.now.link in
    record {
      obeys = record {
        answer = Ok c.in-Ok.outputs.items;
        link = c.command.new.self;
        records = c.command.new.store;
        answers = command_listed outputs_in (commanded (host_signer l.keys) l c.args.command) l c.args.command
            (Ok c.in-Ok.outputs) c.command.new.self (in_memory c.args.self.now.store) (in_memory c.command.new.store)
            (c.in-Ok.ensures.answers l refl);
        passes = c.queue.ensures.hands;
      };
    }

pub returns-in-Err : goal.returns-in-Err
returns-in-Err c =
    let l = c.args.self.now.link in
    record {
      obeys = record {
        answer = Err c.in-Err.refusal;
        link = c.command.new.self;
        records = c.command.new.store;
        answers = command_listed outputs_in (commanded (host_signer l.keys) l c.args.command) l c.args.command
            (Err c.in-Err.refusal) c.command.new.self (in_memory c.args.self.now.store) (in_memory c.command.new.store)
            (c.in-Err.ensures.answers l refl);
        passes = (refl, c.put_record.ensures);
      };
    }
