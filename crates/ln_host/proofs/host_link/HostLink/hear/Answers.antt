use Rattle.std.proofs.Common.{Ok, Err, refl}
use Rattle.ln_store.specs.Store.{in_memory}
use Rattle.ln_host.specs.Greeting.{channel_of}
use Rattle.ln_host.specs.Hosted.{with_link}
use Rattle.ln_host.specs.Keys.{host_signer}
use Rattle.ln_host.specs.Seats.{seat}
use Rattle.ln_host.proofs.Passing.{outputs_in, over_listed, hears_by, replies_by}
use Rattle.ln_host.proofs.host_link.HostLink.hear.Goals as goal

pub returns-in-Ok : goal.returns-in-Ok
returns-in-Ok c =
    let l = c.args.self.now.link in
    record {
      takes = record {
        answer = Ok c.in-Ok.outputs.items;
        link = c.handle.new.self;
        records = c.handle.new.store;
        answers = over_listed outputs_in (host_signer l.keys) l c.args.message (Ok c.in-Ok.outputs) c.handle.new.self
            (in_memory c.args.self.now.store) (in_memory c.handle.new.store) (c.in-Ok.ensures.answers l refl);
        hears = hears_by c.args.message c.args.seen c.in-Ok.outputs.items
            (with_link c.handle.new.self c.handle.new.store (seat c.args.self.now)) (seat c.keep.new.self)
            c.queue.result (seat c.queue.new.self) c.keep.ensures c.queue.ensures.hands;
      };
    }

pub returns-in-Err : goal.returns-in-Err
returns-in-Err c =
    let l = c.args.self.now.link in
    record {
      takes = record {
        answer = Err c.in-Err.refusal;
        link = c.handle.new.self;
        records = c.handle.new.store;
        answers = over_listed outputs_in (host_signer l.keys) l c.args.message (Err c.in-Err.refusal) c.handle.new.self
            (in_memory c.args.self.now.store) (in_memory c.handle.new.store) (c.in-Err.ensures.answers l refl);
        hears = replies_by c.in-Err.refusal c.reply.result (channel_of c.args.message) c.channel_of-channel.result
            (with_link c.handle.new.self c.handle.new.store (seat c.args.self.now)) (seat c.put_record.new.self)
            (seat c.reply.new.self) c.put_record.ensures c.channel_of-channel.ensures c.reply.ensures;
      };
    }
