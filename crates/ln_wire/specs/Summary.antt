-- Where a link stands, as bytes.
use Rattle.std.specs.Prelude.{ℕ, List, ◌==◌, Option, Some, None, if◌then◌else◌}
use Rattle.ln_channel.specs.declared.machine.ConnectionState.{ConnectionState}
use Rattle.ln_channel.specs.declared.machine.ConnectionState.TheVariants as connection
use Rattle.ln_refusals.specs.declared.lost_data.LostData.{LostData}
use Rattle.ln_refusals.specs.declared.lost_data.LostData.TheVariants as lost_data
use Rattle.ln_store.specs.Format.{Format, number, fixed, ◌&◌, list, optional, made, made_at, code}
use Rattle.ln_store.specs.Items.{numbers, no_number}
use Rattle.ln_wire.specs.declared.summary.LinkStatus.{LinkStatus}
use Rattle.ln_wire.specs.declared.summary.LinkStatus.TheVariants as status
use Rattle.ln_wire.specs.declared.summary.LinkSummary.{LinkSummary}
use Rattle.ln_wire.specs.Forms.{Told, told_by, one_of, bit}

abbrev pub connection_number : ConnectionState → ℕ
connection_number connection.Down = 0
connection_number connection.AwaitingReestablish = 1
connection_number connection.Connected = 2

abbrev pub connection_of : ℕ → Option ConnectionState
connection_of n =
    if n == 0 then Some connection.Down
    else (if n == 1 then Some connection.AwaitingReestablish
    else (if n == 2 then Some connection.Connected else None))

-- a byte: 0 down, 1 channel_reestablish is awaited, 2 connected
unfoldable pub connection_form : Format ConnectionState
connection_form = code 1 connection_number connection_of

abbrev pub status_told : LinkStatus → Told
status_told status.Open = told_by 0 no_number tt
status_told status.Ready = told_by 1 no_number tt
status_told status.Shut = told_by 2 no_number tt
status_told (status.Closed fee) = told_by 3 (number 8) fee
status_told (status.Failed refusal) = told_by 4 (number 8) refusal

abbrev pub status_at : ℕ → List ℕ → Option (LinkStatus × List ℕ)
status_at n bytes =
    if n == 0 then made_at (λ u. status.Open) no_number bytes
    else (if n == 1 then made_at (λ u. status.Ready) no_number bytes
    else (if n == 2 then made_at (λ u. status.Shut) no_number bytes
    else (if n == 3 then made_at status.Closed (number 8) bytes
    else (if n == 4 then made_at status.Failed (number 8) bytes else None))))

-- a byte, and then eight: the fee in satoshi where it is closed, the refusal's number where it failed, else 0
unfoldable pub status_form : Format LinkStatus
status_form = one_of status_told status_at

abbrev pub lost_data_number : LostData → ℕ
lost_data_number lost_data.Unproved = 0
lost_data_number lost_data.Own = 1
lost_data_number lost_data.Peer = 2

abbrev pub lost_data_of : ℕ → Option LostData
lost_data_of n =
    if n == 0 then Some lost_data.Unproved
    else (if n == 1 then Some lost_data.Own
    else (if n == 2 then Some lost_data.Peer else None))

-- a byte: 0 nothing is proved, 1 the own data is lost, 2 the peer's
unfoldable pub lost_data_form : Format LostData
lost_data_form = code 1 lost_data_number lost_data_of

-- the connection, whether it halted, the channel's id, the status, whose data is lost; the numbers of commitments; the
-- balances of the own commitment in millisatoshi, its live HTLCs, the next own HTLC's id, and the peer's HTLCs whose
-- removal is kept
unfoldable pub summary : Format LinkSummary
summary =
    made (λ p. record {
      connection = p.0;
      halted = p.1.0;
      channel = p.1.1.0;
      status = p.1.1.1.0;
      lost_data = p.1.1.1.1.0;
      numbers = p.1.1.1.1.1.0;
      own_msat = p.1.1.1.1.1.1.0;
      peer_msat = p.1.1.1.1.1.1.1.0;
      live_htlcs = p.1.1.1.1.1.1.1.1.0;
      next_own_htlc_id = p.1.1.1.1.1.1.1.1.1.0;
      removed_htlc_ids = p.1.1.1.1.1.1.1.1.1.1;
    }) (λ s. (
      s.connection,
      (
        s.halted,
        (
          s.channel,
          (
            s.status,
            (
              s.lost_data,
              (
                s.numbers,
                (
                  s.own_msat,
                  (
                    s.peer_msat,
                    (s.live_htlcs, (s.next_own_htlc_id, s.removed_htlc_ids)),
                  ),
                ),
              ),
            ),
          ),
        ),
      ),
    ))
    (connection_form & bit & optional (fixed 32) & status_form & lost_data_form & numbers & number 8 & number 8
    & number 8 & number 8 & list (number 8))
