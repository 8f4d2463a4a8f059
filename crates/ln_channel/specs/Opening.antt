-- The four messages that open a channel: what each end sends, what it refuses, and what it then has (BOLT 2,
-- "Channel Establishment v1"). For each message taken: what is wrong with it first, and what then.
use Rattle.std.specs.Prelude.{◌≡◌, ◌⊎◌, ℕ, List, [], ◌∷◌, replicate, Bool, true, false, ◌&&◌, if◌then◌else◌}
use Rattle.std.specs.Prelude.{Option, Some, None, Result, Ok, Err}
use Rattle.ln_bytes.specs.Answers as answers
use Rattle.ln_bytes.specs.Same.{are_same}
use Rattle.ln_bytes.specs.Tlv.{value_of}
use Rattle.ln_bytes.specs.declared.record.Record.{Record}
use Rattle.ln_msgs.specs.Messages.Channel.{id_of_channel}
use Rattle.ln_msgs.specs.declared.messages.opening.OpenChannel.{OpenChannel}
use Rattle.ln_msgs.specs.declared.messages.opening.AcceptChannel.{AcceptChannel}
use Rattle.ln_msgs.specs.declared.messages.opening.FundingCreated.{FundingCreated}
use Rattle.ln_msgs.specs.declared.messages.opening.FundingSigned.{FundingSigned}
use Rattle.ln_refusals.specs.declared.refusal.Refusal.{Refusal}
use Rattle.ln_refusals.specs.declared.refusal.Refusal.TheVariants as refusal
use Rattle.ln_keys.specs.declared.role.Role.{Role}
use Rattle.ln_keys.specs.declared.role.Role.TheVariants.{Funder, Fundee}
use Rattle.ln_keys.specs.Role.{other_role}
use Rattle.ln_keys.specs.Signer.{Signer}
use Rattle.ln_log.specs.declared.opening.Limits.{Limits}
use Rattle.ln_log.specs.declared.opening.Opening.{Opening}
use Rattle.ln_log.specs.declared.log.Pair.TheVariants as pair
use Rattle.ln_log.specs.declared.log.Side.TheVariants as side
use Rattle.ln_log.specs.Opening.{IsFit, is_fit}
use Rattle.ln_log.specs.Log as log
use Rattle.ln_dance.specs.declared.dance.Later.TheVariants.{Signature}
use Rattle.ln_dance.specs.Dance.{Dancer, view_at}
use Rattle.ln_close.specs.declared.closing.Fees.{Fees}
use Rattle.ln_close.specs.Closing.{opened, AreOrdered}
use Rattle.ln_channel.specs.declared.config.Config.{Config}
use Rattle.ln_channel.specs.declared.config.OpenSpec.{OpenSpec}
use Rattle.ln_channel.specs.declared.opening.Opened.{Opened}
use Rattle.ln_channel.specs.declared.opening.Terms.{Terms}
use Rattle.ln_channel.specs.Config.{fees_of, offered}

-- ---- what both ends know

-- what each message asks of the HTLCs that its sender is offered
abbrev pub asked_by_open : OpenChannel → Limits
asked_by_open m = record {
  minimum = m.htlc_minimum_msat;
  accepted = m.max_accepted_htlcs;
  in_flight = m.max_htlc_value_in_flight_msat;
  reserve = m.channel_reserve_satoshis;
}

abbrev pub asked_by_accept : AcceptChannel → Limits
asked_by_accept m = record {
  minimum = m.htlc_minimum_msat;
  accepted = m.max_accepted_htlcs;
  in_flight = m.max_htlc_value_in_flight_msat;
  reserve = m.channel_reserve_satoshis;
}

-- what an open_channel comes to, with a fundee that asks for this
abbrev pub asked_with : OpenChannel → Limits → Opening
asked_with m fundee = record {
  satoshis = m.funding_satoshis;
  push = m.push_msat;
  feerate = m.feerate_per_kw;
  funder = asked_by_open m;
  fundee = fundee;
}

-- each limit binds the other side
abbrev pub opening_of : Terms → Opening
opening_of t = asked_with t.open_channel (asked_by_accept t.accept_channel)

-- a side's point of commitment 0
abbrev pub first_point : Role → Terms → List ℕ
first_point Funder t = t.open_channel.first_per_commitment_point
first_point Fundee t = t.accept_channel.first_per_commitment_point

-- An end before any update: both commitments have the number 0 and are the opening state. The peer's point of
-- commitment 1 comes with its channel_ready, and is zeros until then.
abbrev pub first_dance : Role → List ℕ → Terms → Dancer
first_dance role channel t = record {
  channel = channel;
  log = log.opened (opening_of t) role;
  numbers = record { commitment = 0; signed = 0; revoked = 0 };
  peer = record { point = first_point (other_role role) t; next_point = replicate 33 0; secret = None };
  later = Signature;
}

-- an end of the channel with this id, which takes these closing fees
abbrev pub opened_by : Role → List ℕ → Fees → Terms → Opened
opened_by role channel fees t = record { dance = first_dance role channel t; closing = opened role fees; terms = t }

-- ---- answers

-- refused where there is a fault
abbrev pub unless : {A : Type 0} → Option Refusal → A → Result A Refusal
unless None x = Ok x
unless (Some r) x = Err r

-- want of memory may stand in place of what isn't refused, and, where a view is made before a signature is looked at,
-- of a wrong one; else only of itself
abbrev pub MayLackBy : Bool → Option Refusal → Type 0
MayLackBy views fault =
    (fault ≡ None) ⊎ ((fault ≡ Some refusal.Memory) ⊎ ((views ≡ true) × (fault ≡ Some refusal.SignatureWrong)))

abbrev pub LacksBy : Bool → Refusal → Option Refusal → Type 0
LacksBy views e fault = (e ≡ refusal.Memory) × MayLackBy views fault

-- where no view is made
abbrev pub Lacks : Refusal → Option Refusal → Type 0
Lacks e fault = LacksBy false e fault

-- refused exactly by the fault that there is, but for want of memory
abbrev pub AnswersFault : {A : Type 0} → Option Refusal → Result A Refusal → Type 0
AnswersFault fault answer = answers.Refuses Lacks fault answer

-- the same, where the fault may be a wrong signature, and a view is made to look at it
abbrev pub AnswersSignature : {A : Type 0} → Option Refusal → Result A Refusal → Type 0
AnswersSignature fault answer = answers.Refuses (LacksBy true) fault answer

-- what a row says is answered, but for want of memory
abbrev pub Gives : {A : Type 0} → Bool → Result A Refusal → Result A Refusal → Type 0
Gives views row answer = answers.Gives (LacksBy views) (λ x. x) row answer

-- ---- signatures over commitment 0, which has no HTLCs

-- an end signs the peer's, at the peer's point
abbrev pub first_signature : Signer → Dancer → List ℕ
first_signature keys d = keys.signature 0 d.peer.point (view_at (pair.Current side.Peer) d)

-- and checks the peer's signature over its own, at its own point
abbrev pub first_fault : Signer → Dancer → List ℕ → Option Refusal
first_fault keys d signature =
    if keys.accepts 0 (keys.point_of 0) (view_at (pair.Current side.Own) d) signature [] then None
    else Some refusal.SignatureWrong

-- ---- open_channel (BOLT 2, "The open_channel Message")

-- a funder asks for a channel
abbrev pub open_message : Signer → OpenSpec → OpenChannel
open_message keys s = record {
  chain_hash = s.config.chain_hash;
  temporary_id = s.temporary_id;
  funding_satoshis = s.funding;
  push_msat = s.push;
  dust_limit_satoshis = s.config.dust_limit;
  max_htlc_value_in_flight_msat = s.config.limits.in_flight;
  channel_reserve_satoshis = s.config.limits.reserve;
  htlc_minimum_msat = s.config.limits.minimum;
  feerate_per_kw = s.feerate;
  to_self_delay = s.config.to_self_delay;
  max_accepted_htlcs = s.config.limits.accepted;
  funding_pubkey = s.config.points.funding_pubkey;
  revocation_basepoint = s.config.points.revocation_basepoint;
  payment_basepoint = s.config.points.payment_basepoint;
  delayed_payment_basepoint = s.config.points.delayed_payment_basepoint;
  htlc_basepoint = s.config.points.htlc_basepoint;
  first_per_commitment_point = keys.point_of 0;
  channel_flags = s.flags;
  records = s.records;
}

-- 21: another chain than the fundee's, more pushed than funded, a funding out of its range, or more than 483 HTLCs
abbrev pub open_fault : Config → OpenChannel → Option Refusal
open_fault c m =
    if are_same m.chain_hash c.chain_hash && is_fit (asked_with m c.limits) then None
    else Some refusal.OutOfPlace

abbrev pub typed : Option (List ℕ) → List Record
typed None = []
typed (Some value) = record { typ = 1; value = value } ∷ []

-- a channel type that was asked for is repeated unchanged
abbrev pub accept_message : Signer → Config → OpenChannel → AcceptChannel
accept_message keys c m = record {
  temporary_id = m.temporary_id;
  dust_limit_satoshis = c.dust_limit;
  max_htlc_value_in_flight_msat = c.limits.in_flight;
  channel_reserve_satoshis = c.limits.reserve;
  htlc_minimum_msat = c.limits.minimum;
  minimum_depth = c.minimum_depth;
  to_self_delay = c.to_self_delay;
  max_accepted_htlcs = c.limits.accepted;
  funding_pubkey = c.points.funding_pubkey;
  revocation_basepoint = c.points.revocation_basepoint;
  payment_basepoint = c.points.payment_basepoint;
  delayed_payment_basepoint = c.points.delayed_payment_basepoint;
  htlc_basepoint = c.points.htlc_basepoint;
  first_per_commitment_point = keys.point_of 0;
  records = typed (value_of 1 m.records);
}

-- what a fundee has until the funding is named: the closing fees that it takes, and the terms
pub record Agreement : Type 0 where
  pub fees : Fees
  pub terms : Terms

abbrev pub agreement : Signer → Config → OpenChannel → Agreement
agreement keys c m = record {
  fees = fees_of c;
  terms = record {
    open_channel = m;
    accept_channel = accept_message keys c m;
    script = c.script;
    peer_script = None;
  };
}

-- the fundee agrees
abbrev pub open_taken : Signer → Config → OpenChannel → Result (Agreement × AcceptChannel) Refusal
open_taken keys c m = unless (open_fault c m) (agreement keys c m, accept_message keys c m)

-- ---- accept_channel (BOLT 2, "The accept_channel Message")

abbrev pub repeats : Option (List ℕ) → Option (List ℕ) → Bool
repeats None told = true
repeats (Some asked) None = false
repeats (Some asked) (Some told) = are_same asked told

-- 21: another temporary id, more than 483 HTLCs, or without the channel type that was asked for
abbrev pub accept_fault : OpenSpec → AcceptChannel → Option Refusal
accept_fault s m =
    if are_same m.temporary_id s.temporary_id
    && (is_fit (offered s (asked_by_accept m)) && repeats (value_of 1 s.records) (value_of 1 m.records))
    then None else Some refusal.OutOfPlace

abbrev pub funder_terms : Signer → OpenSpec → AcceptChannel → Terms
funder_terms keys s m = record {
  open_channel = open_message keys s;
  accept_channel = m;
  script = s.config.script;
  peer_script = None;
}

abbrev pub funder_end : Signer → OpenSpec → AcceptChannel → Opened
funder_end keys s m = opened_by Funder (id_of_channel s.txid s.output) (fees_of s.config) (funder_terms keys s m)

-- it names the funding, and signs the fundee's commitment 0
abbrev pub created_message : Signer → OpenSpec → AcceptChannel → FundingCreated
created_message keys s m = record {
  temporary_id = s.temporary_id;
  funding_txid = s.txid;
  output_index = s.output;
  signature = first_signature keys (funder_end keys s m).dance;
  records = [];
}

-- the funder has its end
abbrev pub accept_taken : Signer → OpenSpec → AcceptChannel → Result (Opened × FundingCreated) Refusal
accept_taken keys s m = unless (accept_fault s m) (funder_end keys s m, created_message keys s m)

-- ---- funding_created (BOLT 2, "The funding_created Message")

abbrev pub fundee_end : Agreement → FundingCreated → Opened
fundee_end a m = opened_by Fundee (id_of_channel m.funding_txid m.output_index) a.fees a.terms

-- 21: another temporary id; 31: a wrong signature
abbrev pub created_fault : Signer → Agreement → FundingCreated → Option Refusal
created_fault keys a m =
    if are_same m.temporary_id a.terms.open_channel.temporary_id
    then first_fault keys (fundee_end a m).dance m.signature
    else Some refusal.OutOfPlace

-- it signs the funder's commitment 0
abbrev pub signed_message : Signer → List ℕ → Opened → FundingSigned
signed_message keys channel o = record {
  channel_id = channel;
  signature = first_signature keys o.dance;
  records = [];
}

abbrev pub funding_message : Signer → Agreement → FundingCreated → FundingSigned
funding_message keys a m = signed_message keys (id_of_channel m.funding_txid m.output_index) (fundee_end a m)

-- an end of this channel, where the funder's signature is right
abbrev pub signed_end : Signer → List ℕ → Opened → List ℕ → Result (Opened × FundingSigned) Refusal
signed_end keys channel o signature = unless (first_fault keys o.dance signature) (o, signed_message keys channel o)

-- the fundee has its end
abbrev pub created_taken : Signer → Agreement → FundingCreated → Result (Opened × FundingSigned) Refusal
created_taken keys a m = unless (created_fault keys a m) (fundee_end a m, funding_message keys a m)

-- ---- funding_signed (BOLT 2, "The funding_signed Message")

-- 31: a wrong signature; the funder's end stays as it is
abbrev pub signed_taken : Signer → Dancer → FundingSigned → Result (Unit {0}) Refusal
signed_taken keys d m = unless (first_fault keys d m.signature) tt

-- ---- what is kept

-- the opening is one that may be, and the side takes its own first closing fee
pub record IsAgreed (a : Agreement) : Type 0 where
  pub opening : IsFit (opening_of a.terms)
  pub fees : AreOrdered a.fees
  pub no_script : a.terms.peer_script ≡ None

-- an end as it begins
pub record HasBegun (o : Opened) : Type 0 where
  pub role : o.closing.role ≡ o.dance.log.role
  pub opening : o.dance.log.opening ≡ opening_of o.terms
  pub fees : AreOrdered o.closing.fees
  pub not_shut : o.closing.peer_shut ≡ false
  pub no_script : o.terms.peer_script ≡ None
