use Rattle.std.proofs.Common.{refl}
use Rattle.ln_host.specs.Seats.{seat}
use Rattle.ln_host.proofs.Passing.{in_part}
use Rattle.ln_host.proofs.host_link.HostLink.queue.Goals as goal

pub returns-in-Err : goal.returns-in-Err
returns-in-Err c =
    let put = c.put_record.new.self in
    record {
      hands = (
        c.in-Err.ensures.fails_for_memory_alone,
        in_part c.args.outputs.items (seat c.args.self.now) (seat put) c.halt.new.self c.queue_outputs.new.line
            c.put_record.ensures (c.halt.ensures.state put.link refl)
            (c.in-Err.ensures.put_in_part put.link c.channel_machine.ensures),
      );
    }
