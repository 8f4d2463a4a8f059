-- The messages of the program as messages on the wire: the fields of each type in their order.
use Rattle.std.specs.Prelude.{[], ◌∷◌}
use Rattle.ln_msgs.specs.Codec.Field.{Num, Str, Many}
use Rattle.ln_msgs.specs.Messages.Message.{Wire, Heard}
use Rattle.ln_msgs.specs.Messages.Message as messages
use Rattle.ln_msgs.specs.declared.messages.setup.Warning.{Warning}
use Rattle.ln_msgs.specs.declared.messages.setup.Init.{Init}
use Rattle.ln_msgs.specs.declared.messages.setup.Error.{Error}
use Rattle.ln_msgs.specs.declared.messages.setup.Ping.{Ping}
use Rattle.ln_msgs.specs.declared.messages.setup.Pong.{Pong}
use Rattle.ln_msgs.specs.declared.messages.opening.OpenChannel.{OpenChannel}
use Rattle.ln_msgs.specs.declared.messages.opening.AcceptChannel.{AcceptChannel}
use Rattle.ln_msgs.specs.declared.messages.opening.FundingCreated.{FundingCreated}
use Rattle.ln_msgs.specs.declared.messages.opening.FundingSigned.{FundingSigned}
use Rattle.ln_msgs.specs.declared.messages.opening.ChannelReady.{ChannelReady}
use Rattle.ln_msgs.specs.declared.messages.closing.Shutdown.{Shutdown}
use Rattle.ln_msgs.specs.declared.messages.closing.ClosingSigned.{ClosingSigned}
use Rattle.ln_msgs.specs.declared.messages.updates.UpdateAddHtlc.{UpdateAddHtlc}
use Rattle.ln_msgs.specs.declared.messages.updates.UpdateFulfillHtlc.{UpdateFulfillHtlc}
use Rattle.ln_msgs.specs.declared.messages.updates.UpdateFailHtlc.{UpdateFailHtlc}
use Rattle.ln_msgs.specs.declared.messages.commitments.CommitmentSigned.{CommitmentSigned}
use Rattle.ln_msgs.specs.declared.messages.commitments.RevokeAndAck.{RevokeAndAck}
use Rattle.ln_msgs.specs.declared.messages.updates.UpdateFee.{UpdateFee}
use Rattle.ln_msgs.specs.declared.messages.updates.UpdateFailMalformedHtlc.{UpdateFailMalformedHtlc}
use Rattle.ln_msgs.specs.declared.messages.commitments.ChannelReestablish.{ChannelReestablish}
use Rattle.ln_msgs.specs.declared.messages.message.Message.{Message}
use Rattle.ln_msgs.specs.declared.messages.message.Message.TheVariants as types
use Rattle.ln_msgs.specs.declared.messages.message.Incoming.{Incoming}
use Rattle.ln_msgs.specs.declared.messages.message.Incoming.TheVariants as incoming

abbrev pub warning_wire : Warning → Wire
warning_wire m = record { typ = 1; values = Str m.channel_id ∷ Str m.bytes ∷ []; records = m.records }

abbrev pub init_wire : Init → Wire
init_wire m = record { typ = 16; values = Str m.global_features ∷ Str m.features ∷ []; records = m.records }

abbrev pub error_wire : Error → Wire
error_wire m = record { typ = 17; values = Str m.channel_id ∷ Str m.bytes ∷ []; records = m.records }

abbrev pub ping_wire : Ping → Wire
ping_wire m = record { typ = 18; values = Num m.num_pong_bytes ∷ Str m.ignored ∷ []; records = m.records }

abbrev pub pong_wire : Pong → Wire
pong_wire m = record { typ = 19; values = Str m.ignored ∷ []; records = m.records }

abbrev pub open_wire : OpenChannel → Wire
open_wire m = record {
  typ = 32;
  values = Str m.chain_hash ∷ Str m.temporary_id ∷ Num m.funding_satoshis ∷ Num m.push_msat
      ∷ Num m.dust_limit_satoshis ∷ Num m.max_htlc_value_in_flight_msat ∷ Num m.channel_reserve_satoshis
      ∷ Num m.htlc_minimum_msat ∷ Num m.feerate_per_kw ∷ Num m.to_self_delay ∷ Num m.max_accepted_htlcs
      ∷ Str m.funding_pubkey ∷ Str m.revocation_basepoint ∷ Str m.payment_basepoint ∷ Str m.delayed_payment_basepoint
      ∷ Str m.htlc_basepoint ∷ Str m.first_per_commitment_point ∷ Num m.channel_flags ∷ [];
  records = m.records;
}

abbrev pub accept_wire : AcceptChannel → Wire
accept_wire m = record {
  typ = 33;
  values = Str m.temporary_id ∷ Num m.dust_limit_satoshis ∷ Num m.max_htlc_value_in_flight_msat
      ∷ Num m.channel_reserve_satoshis ∷ Num m.htlc_minimum_msat ∷ Num m.minimum_depth ∷ Num m.to_self_delay
      ∷ Num m.max_accepted_htlcs ∷ Str m.funding_pubkey ∷ Str m.revocation_basepoint ∷ Str m.payment_basepoint
      ∷ Str m.delayed_payment_basepoint ∷ Str m.htlc_basepoint ∷ Str m.first_per_commitment_point ∷ [];
  records = m.records;
}

abbrev pub funding_created_wire : FundingCreated → Wire
funding_created_wire m = record {
  typ = 34;
  values = Str m.temporary_id ∷ Str m.funding_txid ∷ Num m.output_index ∷ Str m.signature ∷ [];
  records = m.records;
}

abbrev pub funding_signed_wire : FundingSigned → Wire
funding_signed_wire m = record { typ = 35; values = Str m.channel_id ∷ Str m.signature ∷ []; records = m.records }

abbrev pub channel_ready_wire : ChannelReady → Wire
channel_ready_wire m = record { typ = 36; values = Str m.channel_id ∷ Str m.second_point ∷ []; records = m.records }

abbrev pub shutdown_wire : Shutdown → Wire
shutdown_wire m = record { typ = 38; values = Str m.channel_id ∷ Str m.script ∷ []; records = m.records }

abbrev pub closing_signed_wire : ClosingSigned → Wire
closing_signed_wire m = record {
  typ = 39;
  values = Str m.channel_id ∷ Num m.fee_satoshis ∷ Str m.signature ∷ [];
  records = m.records;
}

abbrev pub add_wire : UpdateAddHtlc → Wire
add_wire m = record {
  typ = 128;
  values = Str m.channel_id ∷ Num m.id ∷ Num m.amount_msat ∷ Str m.payment_hash ∷ Num m.cltv_expiry
      ∷ Str m.onion ∷ [];
  records = m.records;
}

abbrev pub fulfill_wire : UpdateFulfillHtlc → Wire
fulfill_wire m = record { typ = 130; values = Str m.channel_id ∷ Num m.id ∷ Str m.preimage ∷ []; records = m.records }

abbrev pub fail_wire : UpdateFailHtlc → Wire
fail_wire m = record { typ = 131; values = Str m.channel_id ∷ Num m.id ∷ Str m.reason ∷ []; records = m.records }

abbrev pub commitment_signed_wire : CommitmentSigned → Wire
commitment_signed_wire m = record {
  typ = 132;
  values = Str m.channel_id ∷ Str m.signature ∷ Many m.htlc_signatures ∷ [];
  records = m.records;
}

abbrev pub revoke_and_ack_wire : RevokeAndAck → Wire
revoke_and_ack_wire m = record {
  typ = 133;
  values = Str m.channel_id ∷ Str m.secret ∷ Str m.next_point ∷ [];
  records = m.records;
}

abbrev pub fee_wire : UpdateFee → Wire
fee_wire m = record { typ = 134; values = Str m.channel_id ∷ Num m.feerate_per_kw ∷ []; records = m.records }

abbrev pub malformed_wire : UpdateFailMalformedHtlc → Wire
malformed_wire m = record {
  typ = 135;
  values = Str m.channel_id ∷ Num m.id ∷ Str m.sha256_of_onion ∷ Num m.failure_code ∷ [];
  records = m.records;
}

abbrev pub channel_reestablish_wire : ChannelReestablish → Wire
channel_reestablish_wire m = record {
  typ = 136;
  values = Str m.channel_id ∷ Num m.next_commitment_number ∷ Num m.next_revocation_number ∷ Str m.last_secret
      ∷ Str m.current_point ∷ [];
  records = m.records;
}

abbrev pub wire : Message → Wire
wire (types.Warning m) = warning_wire m
wire (types.Init m) = init_wire m
wire (types.Error m) = error_wire m
wire (types.Ping m) = ping_wire m
wire (types.Pong m) = pong_wire m
wire (types.OpenChannel m) = open_wire m
wire (types.AcceptChannel m) = accept_wire m
wire (types.FundingCreated m) = funding_created_wire m
wire (types.FundingSigned m) = funding_signed_wire m
wire (types.ChannelReady m) = channel_ready_wire m
wire (types.Shutdown m) = shutdown_wire m
wire (types.ClosingSigned m) = closing_signed_wire m
wire (types.UpdateAddHtlc m) = add_wire m
wire (types.UpdateFulfillHtlc m) = fulfill_wire m
wire (types.UpdateFailHtlc m) = fail_wire m
wire (types.CommitmentSigned m) = commitment_signed_wire m
wire (types.RevokeAndAck m) = revoke_and_ack_wire m
wire (types.UpdateFee m) = fee_wire m
wire (types.UpdateFailMalformedHtlc m) = malformed_wire m
wire (types.ChannelReestablish m) = channel_reestablish_wire m

abbrev pub heard : Incoming → Heard
heard (incoming.Known m) = messages.Known (wire m)
heard (incoming.Ignored typ) = messages.Ignored typ
