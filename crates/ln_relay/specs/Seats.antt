-- What a contract sees of the seats of a relay.
use Rattle.std.specs.Prelude.{List}
use Rattle.std.specs.Arc.{arc_value}
use Rattle.atomic_table.specs.Seated.{TableId}
use Rattle.crossbeam_queue.specs.Passes.{view, ruled_capacity}
use Rattle.ln_relay.specs.declared.seats.SendSeat.{SendSeat}
use Rattle.ln_relay.specs.declared.seats.RecvSeat.{RecvSeat}
use Rattle.ln_relay.specs.History.{Receiver}
use Rattle.ln_relay.specs.Position.{Position}
use Rattle.ln_relay.specs.Rule.{put_in, taken_in, seat_in}

module _ {T : Type 0} where
  -- what this sender has put, oldest first
  abbrev pub put : SendSeat T → List T
  put s = put_in (view s.pass)

  -- what was taken, oldest first
  abbrev pub taken : RecvSeat T → List T
  taken s = taken_in (view s.pass)

  abbrev pub sender_position : SendSeat T → Position TableId
  sender_position s = record {
    relay = s.pass.table_id;
    room = ruled_capacity (arc_value s.line);
    seat = seat_in (view s.pass);
  }

  abbrev pub receiver_position : RecvSeat T → Position TableId
  receiver_position s = record {
    relay = s.pass.table_id;
    room = ruled_capacity (arc_value s.line);
    seat = Receiver;
  }
