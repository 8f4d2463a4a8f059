-- What of an end the walk over what is in flight goes by.
use Rattle.std.proofs.Common.{◌≡◌, ℕ, zero, suc, ◌+◌, ◌-◌, ◌≤◌, List, [], ◌∷◌, ◌++◌, length, take, refl, sym, ap, ◌∙◌}
use Rattle.std.proofs.Common.{arith, drop, Bool, true, false}
use Rattle.std.proofs.lemmas.List.{map-append, length-map, take-append-le, take-take}
use Rattle.ln_msgs.specs.declared.messages.message.Message.{Message}
use Rattle.ln_msgs.specs.declared.messages.message.Message.TheVariants as message
use Rattle.ln_msgs.specs.declared.messages.commitments.CommitmentSigned.{CommitmentSigned}
use Rattle.ln_msgs.specs.declared.messages.commitments.RevokeAndAck.{RevokeAndAck}
use Rattle.ln_keys.specs.Signer.{Signer}
use Rattle.ln_log.specs.declared.update.Update.{Update as Change}
use Rattle.ln_log.specs.declared.update.Update.TheVariants as update
use Rattle.ln_log.specs.Updates.{as_sent, all_sent}
use Rattle.ln_log.specs.Machine.{Covered}
use Rattle.ln_log.specs.Log.{view_for}
use Rattle.ln_dance.specs.declared.dance.Later.{Later}
use Rattle.ln_dance.specs.declared.dance.Later.TheVariants.{Signature, Revocation}
use Rattle.ln_dance.specs.Dance.{Dancer, signed_message, revoked_message}
use Rattle.ln_dance.specs.Messages.{update_message}
use Rattle.ln_dance.specs.Resume.{reestablish_message, signature_again, revocation_again}
use Rattle.ln_channel.specs.End.{End, end_dropped, shutdown_message}
use Rattle.ln_channel.specs.Commands.{ready_message, proposes, signs_next}
use Rattle.ln_channel.specs.Taking.{takes, accepts}
use Rattle.std.specs.Prelude.{is_some, option_map}
use Rattle.ln_channel.specs.End.{closing_message}
use Rattle.ln_channel_laws.proofs.Flight.Sides.{Close, Notice, Update, Sign, Revoke, Ready, Shutdown, Again, Side}
use Rattle.ln_channel_laws.proofs.Flight.Sides.{proposed}
use Rattle.ln_channel_laws.proofs.Flight.Sides.{received}
use Rattle.ln_channel_laws.proofs.Flight.Sides.{signed_all, accepted_all, dropped}

-- the message that a notice is, in the channel of this id
abbrev pub message_of : List ℕ → Notice → Message
message_of channel (Update u) = update_message channel u
message_of channel (Sign m) = message.CommitmentSigned m
message_of channel (Revoke m) = message.RevokeAndAck m
message_of channel (Ready m) = message.ChannelReady m
message_of channel (Shutdown m) = message.Shutdown m
message_of channel (Close m) = message.ClosingSigned m
message_of channel (Again m) = message.ChannelReestablish m

abbrev pub messages_of : List ℕ → List Notice → List Message
messages_of channel [] = []
messages_of channel (n ∷ ns) = message_of channel n ∷ messages_of channel ns

pub messages-append : (channel : List ℕ) (ns os : List Notice)
    → messages_of channel (ns ++ os) ≡ messages_of channel ns ++ messages_of channel os
messages-append channel [] os = refl
messages-append channel (n ∷ ns) os = ap (λ ms. message_of channel n ∷ ms) (messages-append channel ns os)

abbrev pub is_late : Later → Bool
is_late Signature = false
is_late Revocation = true

abbrev pub side_of : Signer → End → Side
side_of k e = record {
  opening = e.dance.log.opening;
  role = e.dance.log.role;
  own = all_sent e.dance.log.own;
  got = all_sent e.dance.log.received;
  signed = e.dance.log.signed;
  acked = e.dance.log.acknowledged;
  current = e.dance.log.current;
  number = e.dance.numbers.commitment;
  signatures = e.dance.numbers.signed;
  revocations = e.dance.numbers.revoked;
  ready = e.readiness.ready_sent;
  peer_ready = e.readiness.ready_received;
  shut = e.closing.shut;
  peer_shut = e.closing.peer_shut;
  closed = is_some e.closing.closed;
  close_message = option_map (closing_message k e) e.closing.own_fee;
  late = is_late e.dance.later;
  signature = signature_again k e.dance;
  revocation = revocation_again k e.dance;
  ready_message = ready_message k e;
  shut_message = shutdown_message e;
  reestablish = reestablish_message k e.dance;
}

-- ---- updates as they are sent

pub sent-twice : (u : Change) → as_sent (as_sent u) ≡ as_sent u
sent-twice (update.Add a) = refl
sent-twice (update.Fulfil f) = refl
sent-twice (update.Fail f) = refl
sent-twice (update.Malformed m) = refl
sent-twice (update.Fee f) = refl

pub length-sent : (us : List Change) → length (all_sent us) ≡ length us
length-sent us = length-map us as_sent

pub take-sent : (n : ℕ) (us : List Change) → take n (all_sent us) ≡ all_sent (take n us)
take-sent zero us = refl
take-sent (suc n) [] = refl
take-sent (suc n) (u ∷ us) = ap (λ ws. as_sent u ∷ ws) (take-sent n us)

pub drop-sent : (n : ℕ) (us : List Change) → drop n (all_sent us) ≡ all_sent (drop n us)
drop-sent zero us = refl
drop-sent (suc n) [] = refl
drop-sent (suc n) (u ∷ us) = drop-sent n us

-- ---- what is signed

abbrev signed_over : Signer → Dancer → Covered → CommitmentSigned
signed_over k d c = record {
  channel_id = d.channel;
  signature = k.signature d.numbers.signed d.peer.next_point (view_for d.log.opening d.log.role c);
  htlc_signatures = k.htlc_signatures d.numbers.signed d.peer.next_point (view_for d.log.opening d.log.role c);
  records = [];
}

-- ---- steps of an end

pub proposes_so : (k : Signer) (e : End) (u : Change) → e.dance.log.signed.own ≤ length e.dance.log.own
    → side_of k (proposes u e) ≡ proposed (as_sent u) (side_of k e)
proposes_so k e u le =
    let l = e.dance.log in
    let at : List Change → CommitmentSigned → Side = λ us m. record (side_of k e) { own = us; signature = m } in
    ap (λ us. at us (signature_again k (proposes u e).dance)) (map-append as_sent l.own (u ∷ []))
    ∙ ap (λ us. at (all_sent l.own ++ as_sent u ∷ [])
    (signed_over k e.dance (record { own = us; peer = take l.signed.peer l.received })))
    (take-append-le l.signed.own l.own (u ∷ []) le)

pub takes_so : (k : Signer) (e : End) (u : Change) → as_sent u ≡ u
    → e.dance.log.signed.peer ≤ length e.dance.log.received → side_of k (takes u e) ≡ received u (side_of k e)
takes_so k e u s le =
    let l = e.dance.log in
    let at : List Change → CommitmentSigned → Side = λ us m. record (side_of k e) { got = us; signature = m } in
    ap (λ us. at us (signature_again k (takes u e).dance)) (map-append as_sent l.received (u ∷ [])
    ∙ ap (λ v. all_sent l.received ++ v ∷ []) s)
    ∙ ap (λ us. at (all_sent l.received ++ u ∷ [])
    (signed_over k e.dance (record { own = take l.signed.own l.own; peer = us })))
    (take-append-le l.signed.peer l.received (u ∷ []) le)

pub signs_so : (k : Signer) (e : End) → side_of k (signs_next e) ≡ signed_all (signed_message k e.dance) (side_of k e)
signs_so k e = ap (λ n. record (side_of k (signs_next e))
    { signed = record { own = n; peer = e.dance.log.current.peer } }) (sym (length-sent e.dance.log.own))

pub accepts_so : (k : Signer) (e : End) → side_of k (accepts e)
    ≡ accepted_all (revoked_message k e.dance) (reestablish_message k (accepts e).dance) (side_of k e)
accepts_so k e =
    let at : ℕ → RevokeAndAck → Side = λ n m. record (side_of k (accepts e))
    { current = record { own = e.dance.log.acknowledged.own; peer = n }; revocation = m } in
    let c = e.dance.numbers.commitment in
    let back : c + 1 - 1 ≡ c = omega arith in
    let on : c + 1 + 1 ≡ c + 2 = omega arith in
    ap (λ n. at n (revocation_again k (accepts e).dance)) (sym (length-sent e.dance.log.received))
    ∙ ap (λ n. at (length (all_sent e.dance.log.received))
    (record {
      channel_id = e.dance.channel;
      secret = k.secret_of n;
      next_point = k.point_of (c + 1 + 1);
      records = [];
    })) back
    ∙ ap (λ n. at (length (all_sent e.dance.log.received))
    (record { channel_id = e.dance.channel; secret = k.secret_of c; next_point = k.point_of n; records = [] })) on

pub dropped_so : (k : Signer) (e : End) → e.dance.log.signed.peer ≤ e.dance.log.current.peer
    → side_of k (end_dropped e) ≡ dropped (side_of k e)
dropped_so k e le =
    let l = e.dance.log in
    let at : List Change → List Change → CommitmentSigned
    → Side = λ us vs m. record (side_of k e) { own = us; got = vs; signature = m } in
    let m = signature_again k (end_dropped e).dance in
    let own = take l.signed.own (all_sent l.own) in
    let got = take l.current.peer (all_sent l.received) in
    ap (λ us. at us (all_sent (take l.current.peer l.received)) m) (sym (take-sent l.signed.own l.own))
    ∙ ap (λ vs. at own vs m) (sym (take-sent l.current.peer l.received))
    ∙ ap (λ us. at own got (signed_over k e.dance
    (record { own = us; peer = take l.signed.peer (take l.current.peer l.received) })))
    (take-take l.signed.own l.signed.own l.own (omega arith))
    ∙ ap (λ us. at own got (signed_over k e.dance (record { own = take l.signed.own l.own; peer = us })))
    (take-take l.signed.peer l.current.peer l.received le)
