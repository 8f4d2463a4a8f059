-- What a contract sees of the seats of a relay whose receiver may wait.
use Rattle.std.specs.Prelude.{List}
use Rattle.atomic_table.specs.Seated.{TableId}
use Rattle.atomic_table.specs.declared.badge.Badge.{Badge}
use Rattle.crossbeam_channel.specs.Claims.{view}
use Rattle.crossbeam_channel.specs.Ends.{sends_on, receives_on, ruled_capacity}
use Rattle.crossbeam_channel.specs.declared.flavors.array.Key.{Key}
use Rattle.ln_relay.specs.declared.waiting_seats.WaitSend.{WaitSend}
use Rattle.ln_relay.specs.declared.waiting_seats.WaitRecv.{WaitRecv}
use Rattle.ln_relay.specs.History.{Receiver}
use Rattle.ln_relay.specs.Position.{Position}
use Rattle.ln_relay.specs.Rule.{put_in, taken_in, seat_in}

-- what tells one channel from another: the table of its passes, and the key to its messages
pub record Queue (T : Type 0) : Type 0 where
  pub table : TableId
  pub key : Badge (Key T)

module _ {T : Type 0} where
  -- what this sender has put, oldest first
  abbrev pub put : WaitSend T → List T
  put s = put_in (view s.pass)

  -- what was taken, oldest first
  abbrev pub taken : WaitRecv T → List T
  taken s = taken_in (view s.pass)

  abbrev pub sender_position : WaitSend T → Position (Queue T)
  sender_position s = record {
    relay = record { table = s.pass.table_id; key = s.pass.me.0.of };
    room = ruled_capacity (sends_on s.end);
    seat = seat_in (view s.pass);
  }

  abbrev pub receiver_position : WaitRecv T → Position (Queue T)
  receiver_position s = record {
    relay = record { table = s.pass.table_id; key = s.pass.me.0.of };
    room = ruled_capacity (receives_on s.end);
    seat = Receiver;
  }
