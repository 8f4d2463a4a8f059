-- The table of messages (BOLT 1, "Setup Messages" and "Control Messages"; BOLT 2, "Channel
-- Establishment", "Channel Close", "Normal Operation" and "Message Retransmission"): what each type has.
use Rattle.std.specs.Prelude.{ℕ, List, [], ◌∷◌, Option, Some, None, ◌==◌, if◌then◌else◌, codes, map}
use Rattle.ln_msgs.specs.Codec.Field.{Kind, Number, Fixed, Sized, Listed}

-- A type of message: its number and its name; the names and kinds of its fields in order; the even types of
-- record that it may carry; and the types of record whose value has one length, with that length.
pub record Form : Type 0 where
  pub typ : ℕ
  pub name : List ℕ
  pub fields : List (List ℕ × Kind)
  pub known_even : List ℕ
  pub lengths : List (ℕ × ℕ)

-- the kinds of the fields in order
abbrev pub kinds_of : Form → List Kind
kinds_of form = map (λ f. f.1) form.fields

-- their names
abbrev pub names_of : Form → List (List ℕ)
names_of form = map (λ f. f.0) form.fields

abbrev pub warning_form : Form
warning_form = record {
  typ = 1;
  name = codes "warning";
  fields =
      (codes "channel_id", Fixed 32) ∷
      (codes "data", Sized) ∷ [];
  known_even = [];
  lengths = [];
}

abbrev pub init_form : Form
init_form = record {
  typ = 16;
  name = codes "init";
  fields =
      (codes "global_features", Sized) ∷
      (codes "features", Sized) ∷ [];
  known_even = [];
  lengths = [];
}

abbrev pub error_form : Form
error_form = record {
  typ = 17;
  name = codes "error";
  fields =
      (codes "channel_id", Fixed 32) ∷
      (codes "data", Sized) ∷ [];
  known_even = [];
  lengths = [];
}

abbrev pub ping_form : Form
ping_form = record {
  typ = 18;
  name = codes "ping";
  fields =
      (codes "num_pong_bytes", Number 2) ∷
      (codes "ignored", Sized) ∷ [];
  known_even = [];
  lengths = [];
}

abbrev pub pong_form : Form
pong_form = record {
  typ = 19;
  name = codes "pong";
  fields =
      (codes "ignored", Sized) ∷ [];
  known_even = [];
  lengths = [];
}

abbrev pub open_form : Form
open_form = record {
  typ = 32;
  name = codes "open_channel";
  fields =
      (codes "chain_hash", Fixed 32) ∷
      (codes "temporary_id", Fixed 32) ∷
      (codes "funding_satoshis", Number 8) ∷
      (codes "push_msat", Number 8) ∷
      (codes "dust_limit_satoshis", Number 8) ∷
      (codes "max_htlc_value_in_flight_msat", Number 8) ∷
      (codes "channel_reserve_satoshis", Number 8) ∷
      (codes "htlc_minimum_msat", Number 8) ∷
      (codes "feerate_per_kw", Number 4) ∷
      (codes "to_self_delay", Number 2) ∷
      (codes "max_accepted_htlcs", Number 2) ∷
      (codes "funding_pubkey", Fixed 33) ∷
      (codes "revocation_basepoint", Fixed 33) ∷
      (codes "payment_basepoint", Fixed 33) ∷
      (codes "delayed_payment_basepoint", Fixed 33) ∷
      (codes "htlc_basepoint", Fixed 33) ∷
      (codes "first_per_commitment_point", Fixed 33) ∷
      (codes "channel_flags", Number 1) ∷ [];
  known_even = 0 ∷ [];
  lengths = [];
}

abbrev pub accept_form : Form
accept_form = record {
  typ = 33;
  name = codes "accept_channel";
  fields =
      (codes "temporary_id", Fixed 32) ∷
      (codes "dust_limit_satoshis", Number 8) ∷
      (codes "max_htlc_value_in_flight_msat", Number 8) ∷
      (codes "channel_reserve_satoshis", Number 8) ∷
      (codes "htlc_minimum_msat", Number 8) ∷
      (codes "minimum_depth", Number 4) ∷
      (codes "to_self_delay", Number 2) ∷
      (codes "max_accepted_htlcs", Number 2) ∷
      (codes "funding_pubkey", Fixed 33) ∷
      (codes "revocation_basepoint", Fixed 33) ∷
      (codes "payment_basepoint", Fixed 33) ∷
      (codes "delayed_payment_basepoint", Fixed 33) ∷
      (codes "htlc_basepoint", Fixed 33) ∷
      (codes "first_per_commitment_point", Fixed 33) ∷ [];
  known_even = 0 ∷ [];
  lengths = [];
}

abbrev pub funding_created_form : Form
funding_created_form = record {
  typ = 34;
  name = codes "funding_created";
  fields =
      (codes "temporary_id", Fixed 32) ∷
      (codes "funding_txid", Fixed 32) ∷
      (codes "output_index", Number 2) ∷
      (codes "signature", Fixed 64) ∷ [];
  known_even = [];
  lengths = [];
}

abbrev pub funding_signed_form : Form
funding_signed_form = record {
  typ = 35;
  name = codes "funding_signed";
  fields =
      (codes "channel_id", Fixed 32) ∷
      (codes "signature", Fixed 64) ∷ [];
  known_even = [];
  lengths = [];
}

abbrev pub channel_ready_form : Form
channel_ready_form = record {
  typ = 36;
  name = codes "channel_ready";
  fields =
      (codes "channel_id", Fixed 32) ∷
      (codes "second_point", Fixed 33) ∷ [];
  known_even = [];
  lengths = (1, 8) ∷ [];
}

abbrev pub shutdown_form : Form
shutdown_form = record {
  typ = 38;
  name = codes "shutdown";
  fields =
      (codes "channel_id", Fixed 32) ∷
      (codes "script", Sized) ∷ [];
  known_even = [];
  lengths = [];
}

abbrev pub closing_signed_form : Form
closing_signed_form = record {
  typ = 39;
  name = codes "closing_signed";
  fields =
      (codes "channel_id", Fixed 32) ∷
      (codes "fee_satoshis", Number 8) ∷
      (codes "signature", Fixed 64) ∷ [];
  known_even = [];
  lengths = (1, 16) ∷ [];
}

abbrev pub add_form : Form
add_form = record {
  typ = 128;
  name = codes "update_add_htlc";
  fields =
      (codes "channel_id", Fixed 32) ∷
      (codes "id", Number 8) ∷
      (codes "amount_msat", Number 8) ∷
      (codes "payment_hash", Fixed 32) ∷
      (codes "cltv_expiry", Number 4) ∷
      (codes "onion", Fixed 1366) ∷ [];
  known_even = [];
  lengths = [];
}

abbrev pub fulfill_form : Form
fulfill_form = record {
  typ = 130;
  name = codes "update_fulfill_htlc";
  fields =
      (codes "channel_id", Fixed 32) ∷
      (codes "id", Number 8) ∷
      (codes "preimage", Fixed 32) ∷ [];
  known_even = [];
  lengths = [];
}

abbrev pub fail_form : Form
fail_form = record {
  typ = 131;
  name = codes "update_fail_htlc";
  fields =
      (codes "channel_id", Fixed 32) ∷
      (codes "id", Number 8) ∷
      (codes "reason", Sized) ∷ [];
  known_even = [];
  lengths = [];
}

abbrev pub commitment_signed_form : Form
commitment_signed_form = record {
  typ = 132;
  name = codes "commitment_signed";
  fields =
      (codes "channel_id", Fixed 32) ∷
      (codes "signature", Fixed 64) ∷
      (codes "htlc_signatures", Listed 64) ∷ [];
  known_even = [];
  lengths = [];
}

abbrev pub revoke_and_ack_form : Form
revoke_and_ack_form = record {
  typ = 133;
  name = codes "revoke_and_ack";
  fields =
      (codes "channel_id", Fixed 32) ∷
      (codes "secret", Fixed 32) ∷
      (codes "next_point", Fixed 33) ∷ [];
  known_even = [];
  lengths = [];
}

abbrev pub fee_form : Form
fee_form = record {
  typ = 134;
  name = codes "update_fee";
  fields =
      (codes "channel_id", Fixed 32) ∷
      (codes "feerate_per_kw", Number 4) ∷ [];
  known_even = [];
  lengths = [];
}

abbrev pub malformed_form : Form
malformed_form = record {
  typ = 135;
  name = codes "update_fail_malformed_htlc";
  fields =
      (codes "channel_id", Fixed 32) ∷
      (codes "id", Number 8) ∷
      (codes "sha256_of_onion", Fixed 32) ∷
      (codes "failure_code", Number 2) ∷ [];
  known_even = [];
  lengths = [];
}

abbrev pub channel_reestablish_form : Form
channel_reestablish_form = record {
  typ = 136;
  name = codes "channel_reestablish";
  fields =
      (codes "channel_id", Fixed 32) ∷
      (codes "next_commitment_number", Number 8) ∷
      (codes "next_revocation_number", Number 8) ∷
      (codes "last_secret", Fixed 32) ∷
      (codes "current_point", Fixed 33) ∷ [];
  known_even = [];
  lengths = [];
}

-- all types of message that are known
abbrev pub table : List Form
table =
    warning_form ∷
    init_form ∷
    error_form ∷
    ping_form ∷
    pong_form ∷
    open_form ∷
    accept_form ∷
    funding_created_form ∷
    funding_signed_form ∷
    channel_ready_form ∷
    shutdown_form ∷
    closing_signed_form ∷
    add_form ∷
    fulfill_form ∷
    fail_form ∷
    commitment_signed_form ∷
    revoke_and_ack_form ∷
    fee_form ∷
    malformed_form ∷
    channel_reestablish_form ∷ []

abbrev pub form_in : List Form → ℕ → Option Form
form_in [] typ = None
form_in (form ∷ forms) typ = if typ == form.typ then Some form else form_in forms typ

-- the form of a type, where it is known
abbrev pub form_of : ℕ → Option Form
form_of typ = form_in table typ

abbrev pub name_in : Option Form → List ℕ
name_in None = []
name_in (Some form) = form.name

-- the name of a type; nothing for one that isn't known
abbrev pub name_of : ℕ → List ℕ
name_of typ = name_in (form_of typ)
