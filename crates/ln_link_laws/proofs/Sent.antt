-- What a link sends can be written and read again.
use Rattle.std.proofs.Common.{◌≡◌, ℕ, ◌<◌, ◌≤◌, ◌^◌, List, [], ◌∷◌, ◌++◌, length, refl, sym, ap, subst}
use Rattle.std.proofs.Common.{arith}
use Rattle.std.proofs.Common.{true, Option, Some, None, ◌==◌, ◌&&◌}
use Rattle.std.specs.List.{AllByRecursion}
use Rattle.std.proofs.lemmas.List.{length-append}
use Rattle.ln_bytes.specs.Endian.{big_bytes}
use Rattle.ln_bytes.specs.Bigsize.{bigsize}
use Rattle.ln_bytes.specs.declared.record.Record.{Record}
use Rattle.ln_bytes.specs.Tlv.{record_bytes, stream_bytes, value_of, AreFit}
use Rattle.ln_msgs.specs.declared.messages.message.Message.TheVariants as message
use Rattle.ln_msgs.specs.declared.messages.closing.ClosingSigned.{ClosingSigned}
use Rattle.ln_msgs.specs.declared.messages.closing.Shutdown.{Shutdown}
use Rattle.ln_msgs.specs.declared.messages.commitments.ChannelReestablish.{ChannelReestablish}
use Rattle.ln_msgs.specs.declared.messages.commitments.CommitmentSigned.{CommitmentSigned}
use Rattle.ln_msgs.specs.declared.messages.commitments.RevokeAndAck.{RevokeAndAck}
use Rattle.ln_msgs.specs.declared.messages.opening.ChannelReady.{ChannelReady}
use Rattle.ln_msgs.specs.declared.messages.opening.AcceptChannel.{AcceptChannel}
use Rattle.ln_msgs.specs.declared.messages.opening.FundingCreated.{FundingCreated}
use Rattle.ln_msgs.specs.declared.messages.opening.FundingSigned.{FundingSigned}
use Rattle.ln_msgs.specs.declared.messages.opening.OpenChannel.{OpenChannel}
use Rattle.ln_msgs.specs.Codec.Field.{AreOf}
use Rattle.ln_msgs.specs.Codec.Writing.{MayFollow}
use Rattle.ln_msgs.specs.Messages.Message.{Wire}
use Rattle.ln_msgs.specs.Messages.Table.{kinds_of, open_form, accept_form, funding_created_form, funding_signed_form}
use Rattle.ln_msgs.specs.Messages.Table.{channel_ready_form, shutdown_form, closing_signed_form, add_form, fulfill_form}
use Rattle.ln_msgs.specs.Messages.Table.{fail_form, malformed_form, fee_form, commitment_signed_form}
use Rattle.ln_msgs.specs.Messages.Table.{revoke_and_ack_form, channel_reestablish_form}
use Rattle.ln_msgs.specs.Messages.Typed.{open_wire, accept_wire, funding_created_wire, funding_signed_wire}
use Rattle.ln_msgs.specs.Messages.Typed.{channel_ready_wire, shutdown_wire, closing_signed_wire, add_wire, fulfill_wire}
use Rattle.ln_msgs.specs.Messages.Typed.{fail_wire, malformed_wire, fee_wire, commitment_signed_wire}
use Rattle.ln_msgs.specs.Messages.Typed.{revoke_and_ack_wire, channel_reestablish_wire}
use Rattle.ln_log.specs.declared.update.Update.{Update}
use Rattle.ln_log.specs.declared.update.Update.TheVariants as update
use Rattle.ln_dance.specs.Messages.{update_message, add_message, fulfil_message, fail_message, malformed_message}
use Rattle.ln_dance.specs.Messages.{fee_message}
use Rattle.ln_channel.specs.Opening.{typed}
use Rattle.ln_channel_laws.specs.Widths.{IsUpdate}
use Rattle.ln_link_laws.specs.Handed.{IsMessage}
use Rattle.ln_link_laws.proofs.Said.{said, said_plain, what, length-number, found_short, value_short, has_no_more}
use Rattle.ln_link_laws.proofs.Said.{WhereShort, longer}

-- ---- updates

-- a reason that its message has room for
abbrev pub IsShort : Update → Type 0
IsShort (update.Add a) = Unit {0}
IsShort (update.Fulfil f) = Unit {0}
IsShort (update.Fail f) = length f.reason ≤ 65491
IsShort (update.Malformed m) = Unit {0}
IsShort (update.Fee f) = Unit {0}

pub update_said : (channel : List ℕ) (u : Update) → length channel ≡ 32 → IsUpdate u → IsShort u
    → IsMessage (update_message channel u)
update_said channel (update.Add a) id h s =
    said_plain add_form (add_wire (add_message channel a)) refl (omega arith)
    (id, (h.id, (h.amount, (h.hash, (h.expiry, (h.onion, tt)))))) refl refl (omega arith)
update_said channel (update.Fulfil f) id h s =
    said_plain fulfill_form (fulfill_wire (fulfil_message channel f)) refl (omega arith)
    (id, (h.id, (h.preimage, tt))) refl refl (omega arith)
update_said channel (update.Fail f) id h s =
    said_plain fail_form (fail_wire (fail_message channel f)) refl (omega arith)
    (id, (h.id, (h.reason, tt))) refl refl (omega (arith, s))
update_said channel (update.Malformed m) id h s =
    said_plain malformed_form (malformed_wire (malformed_message channel m)) refl (omega arith)
    (id, (h.id, (h.sha256_of_onion, (h.failure_code, tt)))) refl refl (omega arith)
update_said channel (update.Fee f) id h s =
    said_plain fee_form (fee_wire (fee_message channel f)) refl (omega arith) (id, (h, tt)) refl refl (omega arith)

-- ---- others without records

pub ready_said : (m : ChannelReady) → length m.channel_id ≡ 32 → length m.second_point ≡ 33 → m.records ≡ []
    → IsMessage (message.ChannelReady m)
ready_said m id point none =
    said_plain channel_ready_form (channel_ready_wire m) refl (omega arith) (id, (point, tt)) none refl (omega arith)

pub shutdown_said : (m : Shutdown) → length m.channel_id ≡ 32 → length m.script ≤ 65499 → m.records ≡ []
    → IsMessage (message.Shutdown m)
shutdown_said m id short none =
    said_plain shutdown_form (shutdown_wire m) refl (omega arith) (id, (omega (arith, short), tt)) none refl
    (omega (arith, short))

pub signature_said : (m : CommitmentSigned) → length m.channel_id ≡ 32 → length m.signature ≡ 64
    → length m.htlc_signatures ≤ 966 → AllByRecursion (λ s. length s ≡ 64) m.htlc_signatures → m.records ≡ []
    → IsMessage (message.CommitmentSigned m)
signature_said m id signature few each none =
    said_plain commitment_signed_form (commitment_signed_wire m) refl (omega arith)
    (id, (signature, ((omega (arith, few), each), tt))) none refl (omega (arith, few))

pub revocation_said : (m : RevokeAndAck) → length m.channel_id ≡ 32 → length m.secret ≡ 32
    → length m.next_point ≡ 33 → m.records ≡ [] → IsMessage (message.RevokeAndAck m)
revocation_said m id secret point none =
    said_plain revoke_and_ack_form (revoke_and_ack_wire m) refl (omega arith) (id, (secret, (point, tt))) none refl
    (omega arith)

pub reestablish_said : (m : ChannelReestablish) → length m.channel_id ≡ 32 → m.next_commitment_number < 2 ^ 64
    → m.next_revocation_number < 2 ^ 64 → length m.last_secret ≡ 32 → length m.current_point ≡ 33 → m.records ≡ []
    → IsMessage (message.ChannelReestablish m)
reestablish_said m id next revoked secret point none =
    said_plain channel_reestablish_form (channel_reestablish_wire m) refl (omega arith)
    (id, (next, (revoked, (secret, (point, tt))))) none refl (omega arith)

pub created_said : (m : FundingCreated) → length m.temporary_id ≡ 32 → length m.funding_txid ≡ 32
    → m.output_index < 2 ^ 16 → length m.signature ≡ 64 → m.records ≡ [] → IsMessage (message.FundingCreated m)
created_said m id txid output signature none =
    said_plain funding_created_form (funding_created_wire m) refl (omega arith)
    (id, (txid, (output, (signature, tt)))) none refl (omega arith)

pub signed_said : (m : FundingSigned) → length m.channel_id ≡ 32 → length m.signature ≡ 64 → m.records ≡ []
    → IsMessage (message.FundingSigned m)
signed_said m id signature none =
    said_plain funding_signed_form (funding_signed_wire m) refl (omega arith) (id, (signature, tt)) none refl
    (omega arith)

-- ---- closing_signed, with its range of fees

pub range_short : (least greatest : ℕ) → length (big_bytes 8 least ++ big_bytes 8 greatest) ≡ 16
range_short least greatest =
    omega (
      arith,
      length-append (big_bytes 8 least) (big_bytes 8 greatest),
      length-number 8 least,
      length-number 8 greatest,
    )

range_record : (v : List ℕ) → length v ≡ 16 → length (stream_bytes (record { typ = 1; value = v } ∷ [])) ≡ 18
range_record v len =
    let one : length (record_bytes (record { typ = 1; value = v })) ≡ 18 =
    subst (λ n. length (bigsize 1 ++ bigsize n ++ v) ≡ 18) (sym len) (omega (arith, len)) in
    omega (arith, length-append (record_bytes (record { typ = 1; value = v })) [], one)

pub closing_said : (m : ClosingSigned) (v : List ℕ) → length m.channel_id ≡ 32 → m.fee_satoshis < 2 ^ 64
    → length m.signature ≡ 64 → length v ≡ 16 → m.records ≡ record { typ = 1; value = v } ∷ []
    → IsMessage (message.ClosingSigned m)
closing_said m v id fee signature len is =
    let w : Wire = record (closing_signed_wire m) { records = record { typ = 1; value = v } ∷ [] } in
    let size = range_record v len in
    subst (λ rs. IsMessage (message.ClosingSigned (record m { records = rs }))) (sym is)
    (said closing_signed_form w refl (record {
      typ = omega arith;
      values = (id, (fee, (signature, tt)));
      valid = (refl, refl, tt);
      fit = (record { typ = omega arith; len = omega (arith, len) }, tt);
      lengths = ap (λ n. (n == 16 && true) && true) len;
    }) (omega (arith, size)))

-- ---- the opening

pub open_said : (m : OpenChannel) → AreOf (kinds_of open_form) (open_wire m).values → MayFollow open_form m.records
    → AreFit m.records → length (stream_bytes m.records) ≤ 65214 → IsMessage (message.OpenChannel m)
open_said m values may fit short =
    said open_form (open_wire m) refl (record {
      typ = omega arith;
      values = values;
      valid = may.valid;
      fit = fit;
      lengths = may.lengths;
    }) (omega (arith, short))

typed_by : (m : AcceptChannel) (o : Option (List ℕ)) → AreOf (kinds_of accept_form) (accept_wire m).values
    → m.records ≡ typed o → WhereShort o → has_no_more o 1 65214 → IsMessage (message.AcceptChannel m)
typed_by m None values is short few =
    said_plain accept_form (accept_wire m) refl (omega arith) values is refl (omega arith)
typed_by m (Some v) values is short few =
    let r : Record = record { typ = 1; value = v } in
    subst (λ rs. IsMessage (message.AcceptChannel (record m { records = rs }))) (sym is)
    (said accept_form (record (accept_wire m) { records = r ∷ [] }) refl (record {
      typ = omega arith;
      values = values;
      valid = (refl, refl, tt);
      fit = (record { typ = omega arith; len = short }, tt);
      lengths = refl;
    }) (omega (arith, few, length-append (record_bytes r) [])))

-- the channel type of an open_channel that is said is repeated
pub accept_said : (m : OpenChannel) (a : AcceptChannel) → IsMessage (message.OpenChannel m)
    → AreOf (kinds_of accept_form) (accept_wire a).values → a.records ≡ typed (value_of 1 m.records)
    → IsMessage (message.AcceptChannel a)
accept_said m a h values is =
    let w = what open_form (open_wire m) refl h in
    let few = w.few in
    let most : length (stream_bytes m.records) ≤ 65214 = omega (arith, few) in
    typed_by a (value_of 1 m.records) values is (value_short 1 m.records w.formed.fit)
    (longer (value_of 1 m.records) 1 (length (stream_bytes m.records)) 65214 most (found_short 1 m.records))
