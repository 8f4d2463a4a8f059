-- Updates and the messages that tell them (BOLT 2, "Normal Operation").
use Rattle.std.specs.Prelude.{ℕ, List, [], Option, Some, None}
use Rattle.ln_msgs.specs.declared.messages.message.Message.{Message}
use Rattle.ln_msgs.specs.declared.messages.message.Message.TheVariants as message
use Rattle.ln_msgs.specs.declared.messages.updates.UpdateAddHtlc.{UpdateAddHtlc}
use Rattle.ln_msgs.specs.declared.messages.updates.UpdateFulfillHtlc.{UpdateFulfillHtlc}
use Rattle.ln_msgs.specs.declared.messages.updates.UpdateFailHtlc.{UpdateFailHtlc}
use Rattle.ln_msgs.specs.declared.messages.updates.UpdateFailMalformedHtlc.{UpdateFailMalformedHtlc}
use Rattle.ln_msgs.specs.declared.messages.updates.UpdateFee.{UpdateFee}
use Rattle.ln_log.specs.declared.update.Add.{Add}
use Rattle.ln_log.specs.declared.update.Fulfil.{Fulfil}
use Rattle.ln_log.specs.declared.update.Fail.{Fail}
use Rattle.ln_log.specs.declared.update.Malformed.{Malformed}
use Rattle.ln_log.specs.declared.update.Fee.{Fee}
use Rattle.ln_log.specs.declared.update.Update.{Update}
use Rattle.ln_log.specs.declared.update.Update.TheVariants as update

-- ---- the message of an update: where an add came from isn't told

abbrev pub add_message : List ℕ → Add → UpdateAddHtlc
add_message channel a = record {
  channel_id = channel;
  id = a.id;
  amount_msat = a.amount;
  payment_hash = a.hash;
  cltv_expiry = a.expiry;
  onion = a.onion;
  records = [];
}

abbrev pub fulfil_message : List ℕ → Fulfil → UpdateFulfillHtlc
fulfil_message channel f = record { channel_id = channel; id = f.id; preimage = f.preimage; records = [] }

abbrev pub fail_message : List ℕ → Fail → UpdateFailHtlc
fail_message channel f = record { channel_id = channel; id = f.id; reason = f.reason; records = [] }

abbrev pub malformed_message : List ℕ → Malformed → UpdateFailMalformedHtlc
malformed_message channel m = record {
  channel_id = channel;
  id = m.id;
  sha256_of_onion = m.sha256_of_onion;
  failure_code = m.failure_code;
  records = [];
}

abbrev pub fee_message : List ℕ → Fee → UpdateFee
fee_message channel f = record { channel_id = channel; feerate_per_kw = f.feerate; records = [] }

abbrev pub update_message : List ℕ → Update → Message
update_message channel (update.Add a) = message.UpdateAddHtlc (add_message channel a)
update_message channel (update.Fulfil f) = message.UpdateFulfillHtlc (fulfil_message channel f)
update_message channel (update.Fail f) = message.UpdateFailHtlc (fail_message channel f)
update_message channel (update.Malformed m) = message.UpdateFailMalformedHtlc (malformed_message channel m)
update_message channel (update.Fee f) = message.UpdateFee (fee_message channel f)

-- ---- the update that a message tells, if it tells one: an add of no known origin

abbrev pub add_of : UpdateAddHtlc → Add
add_of m = record {
  id = m.id;
  amount = m.amount_msat;
  hash = m.payment_hash;
  expiry = m.cltv_expiry;
  onion = m.onion;
  origin = None;
}

abbrev pub fulfil_of : UpdateFulfillHtlc → Fulfil
fulfil_of m = record { id = m.id; preimage = m.preimage }

abbrev pub fail_of : UpdateFailHtlc → Fail
fail_of m = record { id = m.id; reason = m.reason }

abbrev pub malformed_of : UpdateFailMalformedHtlc → Malformed
malformed_of m = record { id = m.id; sha256_of_onion = m.sha256_of_onion; failure_code = m.failure_code }

abbrev pub fee_of : UpdateFee → Fee
fee_of m = record { feerate = m.feerate_per_kw }

abbrev pub failed_of : Option UpdateFailHtlc → Option Update
failed_of (Some m) = Some (update.Fail (fail_of m))
failed_of None = None

abbrev pub update_of : Message → Option Update
update_of (message.UpdateAddHtlc m) = Some (update.Add (add_of m))
update_of (message.UpdateFulfillHtlc m) = Some (update.Fulfil (fulfil_of m))
update_of (message.UpdateFailHtlc m) = Some (update.Fail (fail_of m))
update_of (message.UpdateFailMalformedHtlc m) = Some (update.Malformed (malformed_of m))
update_of (message.UpdateFee m) = Some (update.Fee (fee_of m))
update_of (message.Warning m) = None
update_of (message.Init m) = None
update_of (message.Error m) = None
update_of (message.Ping m) = None
update_of (message.Pong m) = None
update_of (message.OpenChannel m) = None
update_of (message.AcceptChannel m) = None
update_of (message.FundingCreated m) = None
update_of (message.FundingSigned m) = None
update_of (message.ChannelReady m) = None
update_of (message.Shutdown m) = None
update_of (message.ClosingSigned m) = None
update_of (message.CommitmentSigned m) = None
update_of (message.RevokeAndAck m) = None
update_of (message.ChannelReestablish m) = None
