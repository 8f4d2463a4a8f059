-- What a link keeps over all its calls and restarts.
use Rattle.std.proofs.Common.{◌≡◌, ℕ, ◌<◌, ◌≤◌, ◌^◌, List, [], ◌∷◌, length, take, refl}
use Rattle.std.proofs.Common.{ap}
use Rattle.std.proofs.Common.{arith, Bool, true, false, cond, ◌==◌, ◌&&◌, Option, Some}
use Rattle.std.proofs.Common.{None, if◌then◌else◌, Result, Ok, Err, ◌/◌, ◌%◌}
use Rattle.std.specs.Prelude.{slice_index, bit_xor}
use Rattle.std.proofs.lemmas.Bool.{and_parts}
use Rattle.std.proofs.lemmas.List.{length-append, length-take-le}
use Rattle.ln_bytes.specs.Same.{are_same}
use Rattle.ln_bytes.specs.Tlv.{value_of}
use Rattle.ln_msgs.specs.Messages.Channel.{id_of_channel}
use Rattle.ln_msgs.specs.Messages.Table.{open_form, accept_form, funding_created_form}
use Rattle.ln_msgs.specs.Messages.Typed.{open_wire, accept_wire, funding_created_wire}
use Rattle.ln_msgs.specs.declared.messages.message.Message.{Message}
use Rattle.ln_msgs.specs.declared.messages.message.Message.TheVariants as message
use Rattle.ln_msgs.specs.declared.messages.opening.AcceptChannel.{AcceptChannel}
use Rattle.ln_msgs.specs.declared.messages.opening.FundingCreated.{FundingCreated}
use Rattle.ln_msgs.specs.declared.messages.opening.FundingSigned.{FundingSigned}
use Rattle.ln_msgs.specs.declared.messages.opening.OpenChannel.{OpenChannel}
use Rattle.ln_refusals.specs.declared.refusal.Refusal.{Refusal}
use Rattle.ln_refusals.specs.declared.refusal.Refusal.TheVariants as refusal
use Rattle.ln_keys.specs.declared.role.Role.{Role}
use Rattle.ln_keys.specs.declared.role.Role.TheVariants.{Funder, Fundee}
use Rattle.ln_keys.specs.Role.{other_role}
use Rattle.ln_keys.specs.Signer.{Signer}
use Rattle.ln_log.specs.Opening.{IsFit, is_fit}
use Rattle.ln_log.proofs.Fits.{fit_is}
use Rattle.ln_dance.specs.Resume.{reestablish_message, secret_or_zeros}
use Rattle.ln_close.specs.declared.closing.Fees.{Fees}
use Rattle.ln_channel.specs.declared.command.Command.{Command}
use Rattle.ln_channel.specs.declared.config.Config.{Config}
use Rattle.ln_channel.specs.declared.config.OpenSpec.{OpenSpec}
use Rattle.ln_channel.specs.declared.opening.Terms.{Terms}
use Rattle.ln_channel.specs.declared.machine.ConnectionState.{ConnectionState}
use Rattle.ln_channel.specs.declared.machine.ConnectionState.TheVariants.{Down, Connected}
use Rattle.ln_channel.specs.declared.machine.Stage.{Stage}
use Rattle.ln_channel.specs.declared.machine.Stage.TheVariants as stage
use Rattle.ln_channel.specs.Config.{IsFitConfig, fees_of, offered}
use Rattle.ln_channel.specs.Opening.{agreement, opening_of, asked_with, asked_by_accept, opened_by, unless}
use Rattle.ln_channel.specs.Opening.{first_point, open_message, open_fault, accept_message, accept_fault}
use Rattle.ln_channel.specs.Opening.{funder_end, created_message, created_fault, fundee_end, repeats}
use Rattle.ln_channel.specs.Opening.{funding_message, first_fault}
use Rattle.ln_channel.specs.Base.{based, based_stage, based_link}
use Rattle.ln_channel.specs.Ledger.{Ledger}
use Rattle.ln_channel.specs.End.{End, Turn, end_of, end_dropped}
use Rattle.ln_channel.specs.Taking.{message_row, taken}
use Rattle.ln_channel.specs.Resume.{resume_row}
use Rattle.ln_channel.specs.Commands.{ledgered, with_ledger, note_row, command_row, unready_fault}
use Rattle.ln_channel.specs.Failing.{fails}
use Rattle.ln_channel.specs.State.{State, is_down, is_connected, lost, failed, fails_by, unless_failed, refused, cut}
use Rattle.ln_channel.specs.State.{drops}
use Rattle.ln_channel.specs.Step.{Done, replied, open_at, accept_at, created_at, signed_at, opening_at, turned}
use Rattle.ln_channel.specs.Step.{awaiting_at, stage_row, is_passed_over, message_fault, faulted, at_hand}
use Rattle.ln_channel.specs.Step.{handled, is_of_records, line_fault, obeyed_open, obeyed, noted, commanded}
use Rattle.ln_channel.specs.Step.{connects, connected}
use Rattle.ln_channel_laws.specs.Ends.{ledger_behind}
use Rattle.ln_channel_laws.specs.Widths.{IsCommand}
use Rattle.ln_channel_laws.proofs.Offered.{All, all-append, all-take, Where, noted as noted_behind, IsNotReady}
use Rattle.ln_channel_laws.proofs.Offered.{not_ready, Steady, first_steady, noted_steady, based_steady, Origin, Fits}
use Rattle.ln_channel_laws.proofs.Offered.{based_fits, dropped_fits}
use Rattle.ln_channel_laws.proofs.Offered.{noted_fits, AnswerFits, row_fits, completes, meets_fits, command_fits}
use Rattle.ln_channel_laws.proofs.Offered.{where_true}
use Rattle.ln_refusals.specs.Refusal.{refusal_number}
use Rattle.ln_link_laws.specs.Handed.{IsMessage, AreKeys, IsConfig, IsSpec}
use Rattle.ln_link_laws.specs.Course.{IsSendable}
use Rattle.ln_link_laws.proofs.Said.{what}
use Rattle.ln_link_laws.proofs.Sent.{IsShort, open_said, accept_said, created_said, signed_said, reestablish_said}
use Rattle.ln_link_laws.proofs.Heard.{carries}
use Rattle.ln_link_laws.proofs.Other.{IsOther, OtherFault, open_other, agreed_other, created_other, wrong_other}
use Rattle.ln_link_laws.proofs.Other.{message_other, unready_other, line_other}
use Rattle.ln_link_laws.proofs.Few.{dropped}
use Rattle.ln_link_laws.proofs.Failures.{IsFailure, failing}
use Rattle.ln_link_laws.proofs.Kept.{AreFees, IsOrigin, HasMore, with_fewer, base_covered, base_dropped, base_moved}
use Rattle.ln_link_laws.proofs.Turns.{terms_of, AnswerKeeps, completes_keeps, row_keeps, resume_keeps}
use Rattle.ln_link_laws.proofs.Turns.{command_keeps}

-- ---- an end, an agreement and a stage

pub record Lasts (e : End) : Type 0 where
  pub origin : Origin
  pub is : IsOrigin origin
  pub fits : Fits origin e
  pub more : HasMore e

pub record AreTerms (f : Fees) (t : Terms) : Type 0 where
  pub fees : AreFees f
  pub fit : IsFit (opening_of t)
  pub open_channel : IsMessage (message.OpenChannel t.open_channel)
  pub accept_channel : IsMessage (message.AcceptChannel t.accept_channel)
  pub script : length t.script ≤ 65499
  pub peer_script : t.peer_script ≡ None

abbrev pub StageLasts : Signer → Stage → Type 0
StageLasts keys (stage.AwaitsOpen c) = IsConfig keys c
StageLasts keys (stage.AwaitsAccept s) = IsSpec keys s
StageLasts keys (stage.AwaitsCreated a) = AreTerms a.fees a.terms
StageLasts keys (stage.AwaitsSigned e) = Lasts e
StageLasts keys (stage.Funded e) = Lasts e
StageLasts keys stage.Gone = Unit {0}

-- ---- as it begins

open_point : (m : OpenChannel) → IsMessage (message.OpenChannel m) → length m.first_per_commitment_point ≡ 33
open_point m is = (what open_form (open_wire m) refl is).formed.values.1.1.1.1.1.1.1.1.1.1.1.1.1.1.1.1.0

accept_point : (m : AcceptChannel) → IsMessage (message.AcceptChannel m) → length m.first_per_commitment_point ≡ 33
accept_point m is = (what accept_form (accept_wire m) refl is).formed.values.1.1.1.1.1.1.1.1.1.1.1.1.1.0

peer_point : (r : Role) (f : Fees) (t : Terms) → AreTerms f t → length (first_point (other_role r) t) ≡ 33
peer_point Funder f t h = accept_point t.accept_channel h.accept_channel
peer_point Fundee f t h = open_point t.open_channel h.open_channel

first_more : (r : Role) (c : List ℕ) (f : Fees) (t : Terms) → AreTerms f t → HasMore (end_of (opened_by r c f t))
first_more r c f t h = record {
  steady = first_steady r c f t;
  ordered = record {
    commitment = omega arith;
    signed = omega arith;
    revoked = omega arith;
    one_unrevoked = omega arith;
    acknowledged = λ e. refl;
    own_current = omega arith;
    own_acknowledged = omega arith;
    own_signed = omega arith;
    peer_acknowledged = omega arith;
    peer_signed = omega arith;
    peer_current = omega arith;
    point = peer_point r f t h;
    next_point = refl;
    secret = tt;
    own_fee = tt;
    closed = tt;
  };
  short = tt;
  few = record { own = omega arith; peer = omega arith; signed_own = omega arith; signed_peer = omega arith };
  base = record { own_new = λ id le. refl; peer_new = λ id le. refl; paid = (omega arith, omega arith) };
}

short_if : (o : Option (List ℕ)) → o ≡ None → Where (λ s. length s ≤ 65499) o
short_if None e = tt
short_if (Some s) e = absurd (cc)

pub first_lasts : (r : Role) (c : List ℕ) (f : Fees) (t : Terms) → length c ≡ 32 → AreTerms f t
    → Lasts (end_of (opened_by r c f t))
first_lasts r c f t id h = record {
  origin = record {
    channel = c;
    opening = opening_of t;
    role = r;
    fees = f;
    closing_role = r;
    open_channel = t.open_channel;
    accept_channel = t.accept_channel;
  };
  is = record {
    channel = id;
    fees = h.fees;
    fit = h.fit;
    open_channel = h.open_channel;
    accept_channel = h.accept_channel;
    opening = refl;
    role = refl;
  };
  fits = record {
    origin = refl;
    own = tt;
    own_room = omega arith;
    received = tt;
    received_room = omega arith;
    script = h.script;
    peer_script = short_if t.peer_script h.peer_script;
    decisions = tt;
    results = tt;
  };
  more = first_more r c f t h;
}

-- ---- without what no signature covers

dropped_more : (e : End) → HasMore e → HasMore (end_dropped e)
dropped_more e h =
    let l = e.dance.log in
    let o = h.ordered in
    let within = base_covered e h in
    let own = length-take-le l.signed.own l.own o.own_signed in
    let peer = length-take-le l.current.peer l.received o.peer_current in
    record {
      steady = h.steady;
      ordered = with_fewer _ _ _ _ _ _ _ _ _ o (length (take l.signed.own l.own))
          (length (take l.current.peer l.received)) (omega (arith, own)) (omega (arith, peer));
      short = all-take IsShort l.signed.own l.own h.short;
      few = dropped l.own l.received l.signed l.acknowledged l.current h.few o.own_acknowledged o.peer_signed;
      base = base_dropped l h.base within.own within.peer;
    }

pub dropped_lasts : (e : End) → Lasts e → Lasts (end_dropped e)
dropped_lasts e h = record {
  origin = h.origin;
  is = h.is;
  fits = dropped_fits h.origin e h.fits;
  more = dropped_more e h.more;
}

pub cut_lasts : (keys : Signer) (s : Stage) → StageLasts keys s → StageLasts keys (cut s)
cut_lasts keys (stage.Funded e) h = dropped_lasts e h
cut_lasts keys (stage.AwaitsOpen c) h = tt
cut_lasts keys (stage.AwaitsAccept c) h = tt
cut_lasts keys (stage.AwaitsCreated c) h = tt
cut_lasts keys (stage.AwaitsSigned c) h = tt
cut_lasts keys stage.Gone h = tt

lost_lasts : (keys : Signer) (s : Stage) → StageLasts keys s → StageLasts keys (lost s)
lost_lasts keys (stage.Funded e) h = h
lost_lasts keys (stage.AwaitsOpen c) h = tt
lost_lasts keys (stage.AwaitsAccept c) h = tt
lost_lasts keys (stage.AwaitsCreated c) h = tt
lost_lasts keys (stage.AwaitsSigned c) h = tt
lost_lasts keys stage.Gone h = tt

-- ---- as it is saved

based_more : (e : End) → HasMore e → HasMore (based e)
based_more e h = record {
  steady = based_steady e h.steady;
  ordered = h.ordered;
  short = h.short;
  few = h.few;
  base = base_moved e h.base;
}

pub based_lasts : (keys : Signer) (s : Stage) → StageLasts keys s → StageLasts keys (based_stage s)
based_lasts keys (stage.Funded e) h = record {
  origin = h.origin;
  is = h.is;
  fits = based_fits h.origin e h.fits;
  more = based_more e h.more;
}
based_lasts keys (stage.AwaitsOpen c) h = h
based_lasts keys (stage.AwaitsAccept c) h = h
based_lasts keys (stage.AwaitsCreated c) h = h
based_lasts keys (stage.AwaitsSigned c) h = h
based_lasts keys stage.Gone h = tt

-- ---- rows

module _ (k : Signer) (keys : AreKeys k) where
  abbrev pub DoneLasts : Result Done Refusal → Type 0
  DoneLasts (Ok d) = StageLasts k d.stage × All IsSendable d.outputs
  DoneLasts (Err r) = IsOther r

  faulted_lasts : (f : Option Refusal) (r : Result Done Refusal) → OtherFault f → DoneLasts r → DoneLasts (faulted f r)
  faulted_lasts None r h g = g
  faulted_lasts (Some x) r h g = h

  either : (b : Bool) (p q : Result Done Refusal) → DoneLasts p → DoneLasts q → DoneLasts (cond b p q)
  either true p q h g = h
  either false p q h g = g

  -- ---- the opening

  replied_lasts : {A M : Type 0} (l : ConnectionState) (to : A → Stage) (by : M
      → Message) (f : Option Refusal) (x : A × M)
      → OtherFault f → (f ≡ None → StageLasts k (to x.0) × IsMessage (by x.1))
      → DoneLasts (replied l to by (unless f x))
  replied_lasts l to by None x other h = let both = h refl in (both.0, (both.1, tt))
  replied_lasts l to by (Some r) x other h = other

  all_fees : (c : Config) → IsFitConfig c → c.greatest < 2 ^ 64 → AreFees (fees_of c)
  all_fees c h most =
      let low = h.fees.0 in
      let high = h.fees.1 in
      record { first = omega (arith, high, most); least = omega (arith, low, high, most); greatest = most }

  agrees : (c : Config) (m : OpenChannel) → IsConfig k c → IsMessage (message.OpenChannel m) → open_fault c m ≡ None
      → AreTerms (agreement k c m).fees (agreement k c m).terms
  agrees c m h is none =
      let id = (what open_form (open_wire m) refl is).formed.values.1.0 in
      let may = where_true (are_same m.chain_hash c.chain_hash && is_fit (asked_with m c.limits)) None
      refusal.OutOfPlace none in
      record {
        fees = all_fees c h.fits h.greatest;
        fit = fit_is (asked_with m c.limits)
            (and_parts (are_same m.chain_hash c.chain_hash) (is_fit (asked_with m c.limits)) may.0).1;
        open_channel = is;
        accept_channel = accept_said m (accept_message k c m) is (h.accept_channel m id) refl;
        script = h.fits.script;
        peer_script = refl;
      }

  open_lasts : (l : ConnectionState) (m : OpenChannel) (s : Stage) → IsMessage (message.OpenChannel m) → StageLasts k s
      → DoneLasts (open_at k l m s)
  open_lasts l m (stage.AwaitsOpen c) is h =
      replied_lasts l stage.AwaitsCreated message.AcceptChannel (open_fault c m) (agreement k c m, accept_message k c m)
      (open_other c m) (λ none. let a = agrees c m h is none in (a, a.accept_channel))
  open_lasts l m (stage.AwaitsAccept c) is h = refl
  open_lasts l m (stage.AwaitsCreated c) is h = refl
  open_lasts l m (stage.AwaitsSigned c) is h = refl
  open_lasts l m (stage.Funded c) is h = refl
  open_lasts l m stage.Gone is h = refl

  id_length : (txid : List ℕ) (n : ℕ) → length txid ≡ 32 → length (id_of_channel txid n) ≡ 32
  id_length txid n len =
      let front = length-take-le 30 txid (omega (arith, len)) in
      let last = bit_xor (slice_index txid 30) (n / 256) ∷ bit_xor (slice_index txid 31) (n % 256) ∷ [] in
      omega (arith, length-append (take 30 txid) last, front)

  asks : (s : OpenSpec) → IsSpec k s → IsMessage (message.OpenChannel (open_message k s))
  asks s h = open_said (open_message k s) h.open_channel h.fits.records h.records h.fits.length

  settles : (s : OpenSpec) (m : AcceptChannel) → IsSpec k s → IsMessage (message.AcceptChannel m)
      → accept_fault s m ≡ None → AreTerms (funder_end k s m).closing.fees (funder_end k s m).terms
  settles s m h is none =
      let limits = is_fit (offered s (asked_by_accept m)) in
      let type_ = repeats (value_of 1 s.records) (value_of 1 m.records) in
      let may = where_true (are_same m.temporary_id s.temporary_id && (limits && type_)) None refusal.OutOfPlace none in
      let both = and_parts (are_same m.temporary_id s.temporary_id) (limits && type_) may.0 in
      record {
        fees = all_fees s.config h.fits.config h.greatest;
        fit = fit_is (offered s (asked_by_accept m)) (and_parts limits type_ both.1).0;
        open_channel = asks s h;
        accept_channel = is;
        script = h.fits.config.script;
        peer_script = refl;
      }

  accept_lasts : (l : ConnectionState) (m : AcceptChannel) (s : Stage) → IsMessage (message.AcceptChannel m)
      → StageLasts k s
      → DoneLasts (accept_at k l m s)
  accept_lasts l m (stage.AwaitsAccept s) is h =
      replied_lasts l (λ o. stage.AwaitsSigned (end_of o)) message.FundingCreated (accept_fault s m)
      (funder_end k s m, created_message k s m) (agreed_other s m) (λ none.
      let t = settles s m h is none in (
        first_lasts Funder (id_of_channel s.txid s.output) (fees_of s.config) _ (id_length s.txid s.output h.txid) t,
        created_said (created_message k s m) h.open_channel.1.0 h.txid h.output
            (keys.signatures 0 m.first_per_commitment_point _ (omega arith) (accept_point m is)) refl,
      ))
  accept_lasts l m (stage.AwaitsOpen c) is h = refl
  accept_lasts l m (stage.AwaitsCreated c) is h = refl
  accept_lasts l m (stage.AwaitsSigned c) is h = refl
  accept_lasts l m (stage.Funded c) is h = refl
  accept_lasts l m stage.Gone is h = refl

  created_lasts : (l : ConnectionState) (m : FundingCreated) (s : Stage) → IsMessage (message.FundingCreated m)
      → StageLasts k s → DoneLasts (created_at k l m s)
  created_lasts l m (stage.AwaitsCreated a) is h =
      let txid = (what funding_created_form (funding_created_wire m) refl is).formed.values.1.0 in
      let id = id_length m.funding_txid m.output_index txid in
      replied_lasts l (λ o. stage.Funded (end_of o)) message.FundingSigned (created_fault k a m)
      (fundee_end a m, funding_message k a m) (created_other k a m) (λ none. (
        first_lasts Fundee (id_of_channel m.funding_txid m.output_index) a.fees a.terms id h,
        signed_said (funding_message k a m) id
            (keys.signatures 0 a.terms.open_channel.first_per_commitment_point _ (omega arith)
            (open_point a.terms.open_channel h.open_channel)) refl,
      ))
  created_lasts l m (stage.AwaitsOpen c) is h = refl
  created_lasts l m (stage.AwaitsAccept c) is h = refl
  created_lasts l m (stage.AwaitsSigned c) is h = refl
  created_lasts l m (stage.Funded c) is h = refl
  created_lasts l m stage.Gone is h = refl

  unless_lasts : (f : Option Refusal) (d : Done) → OtherFault f → StageLasts k d.stage → All IsSendable d.outputs
      → DoneLasts (unless f d)
  unless_lasts None d other h g = (h, g)
  unless_lasts (Some r) d other h g = other

  signed_lasts : (l : ConnectionState) (m : FundingSigned) (s : Stage) → StageLasts k s → DoneLasts (signed_at k l m s)
  signed_lasts l m (stage.AwaitsSigned e) h =
      unless_lasts (first_fault k e.dance m.signature) (record { connection = l; stage = stage.Funded e; outputs = [] })
      (wrong_other k e.dance m.signature) h tt
  signed_lasts l m (stage.AwaitsOpen c) h = refl
  signed_lasts l m (stage.AwaitsAccept c) h = refl
  signed_lasts l m (stage.AwaitsCreated c) h = refl
  signed_lasts l m (stage.Funded c) h = refl
  signed_lasts l m stage.Gone h = refl

  opening_lasts : (l : ConnectionState) (m : Message) (s : Stage) → IsMessage m → StageLasts k s
      → DoneLasts (opening_at k l m s)
  opening_lasts l (message.OpenChannel m) s is h = open_lasts l m s is h
  opening_lasts l (message.AcceptChannel m) s is h = accept_lasts l m s is h
  opening_lasts l (message.FundingCreated m) s is h = created_lasts l m s is h
  opening_lasts l (message.FundingSigned m) s is h = signed_lasts l m s h
  opening_lasts l (message.Warning m) s is h = refl
  opening_lasts l (message.Init m) s is h = refl
  opening_lasts l (message.Error m) s is h = refl
  opening_lasts l (message.Ping m) s is h = refl
  opening_lasts l (message.Pong m) s is h = refl
  opening_lasts l (message.ChannelReady m) s is h = refl
  opening_lasts l (message.Shutdown m) s is h = refl
  opening_lasts l (message.ClosingSigned m) s is h = refl
  opening_lasts l (message.UpdateAddHtlc m) s is h = refl
  opening_lasts l (message.UpdateFulfillHtlc m) s is h = refl
  opening_lasts l (message.UpdateFailHtlc m) s is h = refl
  opening_lasts l (message.CommitmentSigned m) s is h = refl
  opening_lasts l (message.RevokeAndAck m) s is h = refl
  opening_lasts l (message.UpdateFee m) s is h = refl
  opening_lasts l (message.UpdateFailMalformedHtlc m) s is h = refl
  opening_lasts l (message.ChannelReestablish m) s is h = refl

  -- ---- an open channel

  turned_lasts : (o : Origin) (l : ConnectionState) (r : Result Turn Refusal) → IsOrigin o → AnswerFits k o r
      → AnswerKeeps k keys r → DoneLasts (turned l r)
  turned_lasts o l (Ok t) is fits h = (
    record { origin = o; is = is; fits = fits.0; more = h.0 },
    all-append IsSendable t.handed.sent t.handed.told h.1 h.2,
  )
  turned_lasts o l (Err r) is fits h = h

  again_lasts : (m : Message) (e : End) → Lasts e → DoneLasts (awaiting_at k m e)
  again_lasts (message.ChannelReestablish m) e h =
      turned_lasts h.origin Connected (resume_row k m e) h.is
      (meets_fits k h.origin (message.ChannelReestablish m) e h.fits)
      (resume_keeps k keys m e h.fits.own (terms_of h.origin e h.is h.fits) h.more)
  again_lasts (message.Warning m) e h = refl
  again_lasts (message.Init m) e h = refl
  again_lasts (message.Error m) e h = refl
  again_lasts (message.Ping m) e h = refl
  again_lasts (message.Pong m) e h = refl
  again_lasts (message.OpenChannel m) e h = refl
  again_lasts (message.AcceptChannel m) e h = refl
  again_lasts (message.FundingCreated m) e h = refl
  again_lasts (message.FundingSigned m) e h = refl
  again_lasts (message.ChannelReady m) e h = refl
  again_lasts (message.Shutdown m) e h = refl
  again_lasts (message.ClosingSigned m) e h = refl
  again_lasts (message.UpdateAddHtlc m) e h = refl
  again_lasts (message.UpdateFulfillHtlc m) e h = refl
  again_lasts (message.UpdateFailHtlc m) e h = refl
  again_lasts (message.CommitmentSigned m) e h = refl
  again_lasts (message.RevokeAndAck m) e h = refl
  again_lasts (message.UpdateFee m) e h = refl
  again_lasts (message.UpdateFailMalformedHtlc m) e h = refl

  taken_lasts : (l : ConnectionState) (m : Message) (e : End) → IsMessage m → Lasts e
      → DoneLasts (turned l (taken k m e))
  taken_lasts l m e is h =
      let fits = row_fits k h.origin m e (carries m is) h.fits in
      let row = message_row k m e in
      turned_lasts h.origin l (taken k m e) h.is (completes k h.origin row fits)
      (completes_keeps k keys h.origin row h.is fits
      (row_keeps k keys m e is (terms_of h.origin e h.is h.fits) h.more))

  stage_lasts : (l : ConnectionState) (m : Message) (s : Stage) → IsMessage m → StageLasts k s
      → DoneLasts (stage_row k l m s)
  stage_lasts l m (stage.Funded e) is h =
      either (is_connected l) (turned l (taken k m e)) (awaiting_at k m e) (taken_lasts l m e is h) (again_lasts m e h)
  stage_lasts l m (stage.AwaitsOpen c) is h = opening_lasts l m (stage.AwaitsOpen c) is h
  stage_lasts l m (stage.AwaitsAccept c) is h = opening_lasts l m (stage.AwaitsAccept c) is h
  stage_lasts l m (stage.AwaitsCreated c) is h = opening_lasts l m (stage.AwaitsCreated c) is h
  stage_lasts l m (stage.AwaitsSigned c) is h = opening_lasts l m (stage.AwaitsSigned c) is h
  stage_lasts l m stage.Gone is h = opening_lasts l m stage.Gone is h

  hand_lasts : (l : ConnectionState) (m : Message) (s : Stage) → IsMessage m → StageLasts k s
      → DoneLasts (at_hand k l m s)
  hand_lasts l m s is h =
      either (is_passed_over s m) (Ok (record { connection = l; stage = s; outputs = [] })) _ (h, tt)
      (faulted_lasts (message_fault l s m) (stage_row k l m s) (message_other l s m) (stage_lasts l m s is h))

  other_failure : (f : Option Refusal) → IsFailure f → OtherFault f
  other_failure None h = tt
  other_failure (Some r) h = h.1

  pub record Good {K : Type 0} (l : State K) : Type 0 where
    pub failure : IsFailure l.failure
    pub stage : StageLasts k l.stage

  pub handled_lasts : {K : Type 0} (l : State K) (m : Message) → IsMessage m → Good l → DoneLasts (handled k l m)
  handled_lasts l m is h =
      either l.halted (Err refusal.Halted) _ refl
      (faulted_lasts l.failure (at_hand k l.connection m l.stage) (other_failure l.failure h.failure)
      (hand_lasts l.connection m l.stage is h.stage))

  -- ---- commands

  note_lasts : (l : ConnectionState) (c : Command) (e : End) → IsCommand c → Lasts e
      → DoneLasts (turned l (note_row c e))
  note_lasts l c e wide h =
      by (ledgered c e) (not_ready c e) (noted_fits h.origin c e wide h.fits)
      (noted_steady e (ledger_behind (ledgered c e) e.ledger) (noted_behind c e) h.more.steady)
    where
      by : (row : Result Ledger Refusal) → IsNotReady row
          → Fits h.origin (record e { ledger = ledger_behind row e.ledger })
          → Steady (record e { ledger = ledger_behind row e.ledger }) → DoneLasts (turned l (with_ledger row e))
      by (Ok n) other fits steady = (
        record {
          origin = h.origin;
          is = h.is;
          fits = fits;
          more = record {
            steady = steady;
            ordered = h.more.ordered;
            short = h.more.short;
            few = h.more.few;
            base = h.more.base;
          };
        },
        tt,
      )
      by (Err r) other fits steady = ap (λ x. refusal_number x == 70) other

  obeyed_lasts : (l : ConnectionState) (c : Command) (e : End) → IsCommand c → Lasts e → DoneLasts (obeyed_open k l c e)
  obeyed_lasts l c e wide h =
      faulted_lasts (unready_fault c e) _ (unready_other c e) (faulted_lasts (line_fault l) _ (line_other l)
      (turned_lasts h.origin l (command_row k c e) h.is (command_fits k h.origin c e wide h.fits)
      (command_keeps k keys c e wide (terms_of h.origin e h.is h.fits) h.more)))

  obeys : (l : ConnectionState) (c : Command) (s : Stage) → IsCommand c → StageLasts k s → DoneLasts (obeyed k l c s)
  obeys l c (stage.Funded e) wide h = obeyed_lasts l c e wide h
  obeys l c (stage.AwaitsOpen x) wide h = refl
  obeys l c (stage.AwaitsAccept x) wide h = refl
  obeys l c (stage.AwaitsCreated x) wide h = refl
  obeys l c (stage.AwaitsSigned x) wide h = refl
  obeys l c stage.Gone wide h = refl

  notes : (l : ConnectionState) (c : Command) (s : Stage) → IsCommand c → StageLasts k s → DoneLasts (noted l c s)
  notes l c (stage.Funded e) wide h = note_lasts l c e wide h
  notes l c (stage.AwaitsOpen x) wide h = refl
  notes l c (stage.AwaitsAccept x) wide h = refl
  notes l c (stage.AwaitsCreated x) wide h = refl
  notes l c (stage.AwaitsSigned x) wide h = refl
  notes l c stage.Gone wide h = refl

  pub commanded_lasts : {K : Type 0} (l : State K) (c : Command) → IsCommand c → Good l → DoneLasts (commanded k l c)
  commanded_lasts l c wide h =
      either l.halted (Err refusal.Halted) _ refl
      (either (is_of_records c) (noted l.connection c l.stage) _ (notes l.connection c l.stage wide h.stage)
      (faulted_lasts l.failure (obeyed k l.connection c l.stage) (other_failure l.failure h.failure)
      (obeys l.connection c l.stage wide h.stage)))

  -- ---- a connection

  secret_said : (o : Option (List ℕ)) → Where (λ s. length s ≡ 32) o → length (secret_or_zeros o) ≡ 32
  secret_said None h = refl
  secret_said (Some s) h = h

  connects_lasts : (s : Stage) → StageLasts k s → DoneLasts (connects k s)
  connects_lasts (stage.Funded e) h =
      let n = h.more.ordered.commitment in
      let s = h.more.ordered.signed in
      let r = h.more.ordered.revoked in
      let t = terms_of h.origin e h.is h.fits in (
        h,
        (
          reestablish_said (reestablish_message k e.dance) t.channel (omega (arith, n)) (omega (arith, s, r))
              (secret_said e.dance.peer.secret h.more.ordered.secret)
              (keys.points e.dance.numbers.commitment (omega (arith, n))) refl,
          tt,
        ),
      )
  connects_lasts (stage.AwaitsOpen c) h = (h, tt)
  connects_lasts (stage.AwaitsAccept s) h = (h, (asks s h, tt))
  connects_lasts (stage.AwaitsCreated c) h = refl
  connects_lasts (stage.AwaitsSigned c) h = refl
  connects_lasts stage.Gone h = refl

  pub connected_lasts : {K : Type 0} (l : State K) → Good l → DoneLasts (connected k l)
  connected_lasts l h =
      either l.halted (Err refusal.Halted) _ refl
      (either (is_down l.connection) (connects k l.stage) (Err refusal.NotReady) (connects_lasts l.stage h.stage) refl)

  -- ---- a link

  pub refused_lasts : {K : Type 0} (l : State K) (r : Refusal) → Good l → Good (refused r l)
  refused_lasts l r h = by l.halted l.failure refl h.failure
    where
      fresh : (b : Bool) → fails r ≡ b → Good (if b then failed r l else l)
      fresh true e = record { failure = failing r e; stage = lost_lasts k l.stage h.stage }
      fresh false e = h

      by : (b : Bool) (f : Option Refusal) → l.failure ≡ f → IsFailure f
          → Good (if b then l else unless_failed f l (fails_by r l))
      by true f e g = h
      by false (Some x) e g = h
      by false None e g = fresh (fails r) refl

  pub drops_lasts : {K : Type 0} (l : State K) → Good l → Good (drops l)
  drops_lasts l h = by (is_down l.connection)
    where
      by : (b : Bool) → Good (if b then l else record l { connection = Down; stage = cut l.stage })
      by true = h
      by false = record { failure = h.failure; stage = cut_lasts k l.stage h.stage }

  pub settled_lasts : {K : Type 0} (l : State K) → Good l → Good (based_link l)
  settled_lasts l h = record { failure = h.failure; stage = based_lasts k l.stage h.stage }
