-- What a message that can be read brings: its fields are as wide as its form has them.
use Rattle.std.proofs.Common.{◌≡◌, length, refl, arith}
use Rattle.ln_msgs.specs.declared.messages.message.Message.{Message}
use Rattle.ln_msgs.specs.declared.messages.message.Message.TheVariants as message
use Rattle.ln_msgs.specs.declared.messages.closing.ClosingSigned.{ClosingSigned}
use Rattle.ln_msgs.specs.declared.messages.commitments.RevokeAndAck.{RevokeAndAck}
use Rattle.ln_msgs.specs.declared.messages.opening.ChannelReady.{ChannelReady}
use Rattle.ln_msgs.specs.Messages.Table.{channel_ready_form}
use Rattle.ln_msgs.specs.Messages.Table.{shutdown_form, closing_signed_form, add_form, fulfill_form, fail_form}
use Rattle.ln_msgs.specs.Messages.Table.{malformed_form, fee_form, revoke_and_ack_form}
use Rattle.ln_msgs.specs.Messages.Typed.{channel_ready_wire}
use Rattle.ln_msgs.specs.Messages.Typed.{shutdown_wire}
use Rattle.ln_msgs.specs.Messages.Typed.{closing_signed_wire, add_wire, fulfill_wire, fail_wire, malformed_wire}
use Rattle.ln_msgs.specs.Messages.Typed.{fee_wire, revoke_and_ack_wire}
use Rattle.ln_channel_laws.proofs.Offered.{CarriesWide, IsFee}
use Rattle.ln_link_laws.specs.Handed.{IsMessage}
use Rattle.ln_link_laws.proofs.Said.{what}

pub ready_heard : (m : ChannelReady) → IsMessage (message.ChannelReady m) → length m.second_point ≡ 33
ready_heard m is = (what channel_ready_form (channel_ready_wire m) refl is).formed.values.1.0

pub revocation_heard : (m : RevokeAndAck) → IsMessage (message.RevokeAndAck m)
    → (length m.secret ≡ 32) × (length m.next_point ≡ 33)
revocation_heard m is =
    let values = (what revoke_and_ack_form (revoke_and_ack_wire m) refl is).formed.values in
    (values.1.0, values.1.1.0)

pub fee_heard : (m : ClosingSigned) → IsMessage (message.ClosingSigned m) → IsFee m.fee_satoshis
fee_heard m is = (what closing_signed_form (closing_signed_wire m) refl is).formed.values.1.0

pub carries : (m : Message) → IsMessage m → CarriesWide m
carries (message.UpdateAddHtlc m) is =
    let v = (what add_form (add_wire m) refl is).formed.values in
    record {
      id = v.1.0;
      amount = v.1.1.0;
      hash = v.1.1.1.0;
      expiry = v.1.1.1.1.0;
      onion = v.1.1.1.1.1.0;
      origin = tt;
    }
carries (message.UpdateFulfillHtlc m) is =
    let v = (what fulfill_form (fulfill_wire m) refl is).formed.values in
    record { id = v.1.0; preimage = v.1.1.0 }
carries (message.UpdateFailHtlc m) is =
    let v = (what fail_form (fail_wire m) refl is).formed.values in
    record { id = v.1.0; reason = v.1.1.0 }
carries (message.UpdateFailMalformedHtlc m) is =
    let v = (what malformed_form (malformed_wire m) refl is).formed.values in
    record { id = v.1.0; sha256_of_onion = v.1.1.0; failure_code = v.1.1.1.0 }
carries (message.UpdateFee m) is = (what fee_form (fee_wire m) refl is).formed.values.1.0
carries (message.Shutdown m) is = let few = (what shutdown_form (shutdown_wire m) refl is).few in omega (arith, few)
carries (message.Warning m) is = tt
carries (message.Init m) is = tt
carries (message.Error m) is = tt
carries (message.Ping m) is = tt
carries (message.Pong m) is = tt
carries (message.OpenChannel m) is = tt
carries (message.AcceptChannel m) is = tt
carries (message.FundingCreated m) is = tt
carries (message.FundingSigned m) is = tt
carries (message.ChannelReady m) is = tt
carries (message.ClosingSigned m) is = tt
carries (message.CommitmentSigned m) is = tt
carries (message.RevokeAndAck m) is = tt
carries (message.ChannelReestablish m) is = tt
