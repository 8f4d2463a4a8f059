-- Outputs, with keys' answers in them: of the end that a turn leaves, its dance alone tells what is blank.
use Rattle.std.proofs.Common.{◌≡◌, refl, ap, ◌∙◌, ℕ, ◌+◌, ◌-◌, List, [], ◌∷◌, ◌++◌, map, Bool, true, false}
use Rattle.std.proofs.Common.{Option, Some, None, Result, Ok, Err, if◌then◌else◌}
use Rattle.std.proofs.lemmas.List.{map-append}
use Rattle.ln_refusals.specs.declared.refusal.Refusal.{Refusal}
use Rattle.ln_keys.specs.Signer.{Signer}
use Rattle.ln_msgs.specs.declared.messages.message.Message.{Message}
use Rattle.ln_msgs.specs.declared.messages.message.Message.TheVariants as message
use Rattle.ln_msgs.specs.declared.messages.closing.Shutdown.{Shutdown}
use Rattle.ln_log.specs.declared.log.Pair.TheVariants as pair
use Rattle.ln_log.specs.declared.log.Side.TheVariants as side
use Rattle.ln_hooks.specs.declared.event.ChannelEvent.{ChannelEvent}
use Rattle.ln_dance.specs.Dance.{Dancer, view_at}
use Rattle.ln_channel.specs.declared.machine.ConnectionState.{ConnectionState}
use Rattle.ln_channel.specs.declared.machine.Stage.TheVariants as stage
use Rattle.ln_channel.specs.declared.output.Output.{Output}
use Rattle.ln_channel.specs.declared.output.Output.TheVariants as output
use Rattle.ln_channel.specs.Outputs.{all_of, numbered}
use Rattle.ln_channel.specs.Opening.{unless}
use Rattle.ln_channel.specs.End.{End, Turn, settled, completed, fee_sent, due_sent, has_begun, answers_shutdown}
use Rattle.ln_channel.specs.End.{owes_shutdown, shutdown_message, shutdown_sent, due_fee}
use Rattle.ln_close.specs.Closing.{after_shut, started}
use Rattle.ln_channel.specs.Taking.{completed_row}
use Rattle.ln_channel.specs.Step.{turned}
use Rattle.ln_host.specs.declared.keys.HostKeys.{HostKeys}
use Rattle.ln_host.specs.Keys.{host_signer}
use Rattle.ln_host.specs.Blank.{blank_in, answered_by}
use Rattle.ln_host_laws.specs.Filled.{filled_output, filled_row}

-- a host that knows the point of these keys, and told this
abbrev pub told : Signer → Bool → List ℕ → HostKeys
told k y z = record { first_point = k.point_of 0; is_right = y; secret = z }

abbrev pub host : Signer → Bool → List ℕ → Signer
host k y z = host_signer (told k y z)

-- ---- a message, filled by the dance

abbrev pub signed_by : Signer → Dancer → List ℕ
signed_by k d = k.signature 0 d.peer.point (view_at (pair.Current side.Peer) d)

abbrev pub filled_by : Signer → Dancer → Message → Message
filled_by k d (message.FundingCreated m) = message.FundingCreated (record m { signature = signed_by k d })
filled_by k d (message.FundingSigned m) = message.FundingSigned (record m { signature = signed_by k d })
filled_by k d (message.ChannelReady m) = message.ChannelReady (record m { second_point = k.point_of 1 })
filled_by k d (message.CommitmentSigned m) = message.CommitmentSigned (record m {
  signature = k.signature d.numbers.signed d.peer.next_point (view_at pair.Signed d);
  htlc_signatures = k.htlc_signatures d.numbers.signed d.peer.next_point (view_at pair.Signed d);
})
filled_by k d (message.RevokeAndAck m) = message.RevokeAndAck (record m {
  secret = k.secret_of (d.numbers.commitment - 1);
  next_point = k.point_of (d.numbers.commitment + 1);
})
filled_by k d (message.ChannelReestablish m) =
    message.ChannelReestablish (record m { current_point = k.point_of d.numbers.commitment })
filled_by k d (message.ClosingSigned m) =
    message.ClosingSigned (record m { signature = k.close_signature m.fee_satoshis })
filled_by k d m = m

by_dance : (k : Signer) (e : End) (m : Message) → answered_by k (blank_in e m) m ≡ filled_by k e.dance m
by_dance k e (message.FundingCreated m) = refl
by_dance k e m = refl

abbrev pub fill : Signer → Dancer → Output → Output
fill k d (output.Send m) = output.Send (filled_by k d m)
fill k d o = o

as_filled : (k : Signer) (e : End) (o : Output) → filled_output k (stage.Funded e) o ≡ fill k e.dance o
as_filled k e (output.Send m) = ap output.Send (by_dance k e m)
as_filled k e o = refl

pub all_filled : (k : Signer) (e : End) (os : List Output)
    → map (filled_output k (stage.Funded e)) os ≡ map (fill k e.dance) os
all_filled k e os = ap (λ (f : Output → Output). map f os) (λ i o. as_filled k e o i)

-- events are no messages
pub numbered_filled : (k : Signer) (d : Dancer) (n : ℕ) (es : List ChannelEvent)
    → map (fill k d) (numbered n es) ≡ numbered n es
numbered_filled k d n [] = refl
numbered_filled k d n (e ∷ es) = ap (λ os. output.Event n e ∷ os) (numbered_filled k d (n + 1) es)

pub fee_filled : (k : Signer) (y : Bool) (z : List ℕ) (d : Dancer) (e : End) (fee : Option ℕ)
    → map (fill k d) (fee_sent (host k y z) e fee) ≡ fee_sent k e fee
fee_filled k y z d e None = refl
fee_filled k y z d e (Some fee) = refl

pub shutdown_filled : (k : Signer) (d : Dancer) (b : Bool) (m : Shutdown)
    → map (fill k d) (if b then output.Send (message.Shutdown m) ∷ [] else [])
    ≡ (if b then output.Send (message.Shutdown m) ∷ [] else [])
shutdown_filled k d true m = refl
shutdown_filled k d false m = refl

-- ---- a turn

abbrev pub filled_turn : Signer → Turn → Turn
filled_turn k t = record {
  end = t.end;
  handed = record {
    sent = map (fill k t.end.dance) t.handed.sent;
    told = map (fill k t.end.dance) t.handed.told;
  };
}

abbrev pub filled_turns : Signer → Result Turn Refusal → Result Turn Refusal
filled_turns k (Ok t) = Ok (filled_turn k t)
filled_turns k (Err r) = Err r

pub turned_filled : (k : Signer) (c : ConnectionState) (r : Result Turn Refusal)
    → filled_row k (turned c r) ≡ turned c (filled_turns k r)
turned_filled k c (Ok t) =
    ap (λ (os : List Output). Ok (record { connection = c; stage = stage.Funded t.end; outputs = os }))
    (all_filled k t.end (all_of t.handed) ∙ map-append (fill k t.end.dance) t.handed.sent t.handed.told)
turned_filled k c (Err r) = refl

-- refused by one fault or by the same, or turned so
pub unless_filled : (k : Signer) (f g : Option Refusal) (s t : Turn) → f ≡ g → filled_turn k s ≡ t
    → filled_turns k (unless f s) ≡ unless g t
unless_filled k f g s t p e = ap (λ o. filled_turns k (unless o s)) p ∙ there g
  where
    there : (o : Option Refusal) → filled_turns k (unless o s) ≡ unless o t
    there None = ap Ok e
    there (Some r) = refl

-- ---- what is due at the end of a turn changes no dance

same_dance : (b : Bool) (e f : End) → f.dance ≡ e.dance → (if b then f else e).dance ≡ e.dance
same_dance true e f p = p
same_dance false e f p = refl

settled_dance : (e : End) → (settled e).dance ≡ e.dance
settled_dance e =
    let a = answers_shutdown e in
    same_dance (has_begun a) a (record a { closing = started a.closing }) refl
    ∙ same_dance (owes_shutdown e) e (record e { closing = after_shut e.closing }) refl

due_filled : (k : Signer) (y : Bool) (z : List ℕ) (e : End)
    → map (fill k e.dance) (due_sent (host k y z) e) ≡ due_sent k e
due_filled k y z e =
    let a = answers_shutdown e in
    map-append (fill k e.dance) (shutdown_sent e) (fee_sent (host k y z) a (due_fee a))
    ∙ ap (λ os. os ++ map (fill k e.dance) (fee_sent (host k y z) a (due_fee a)))
    (shutdown_filled k e.dance (owes_shutdown e) (shutdown_message e))
    ∙ ap (λ os. shutdown_sent e ++ os) (fee_filled k y z e.dance a (due_fee a))

pub completed_filled : (k : Signer) (y : Bool) (z : List ℕ) (t : Turn)
    → filled_turn k (completed (host k y z) t) ≡ completed k (filled_turn k t)
completed_filled k y z t =
    let sent = t.handed.sent ++ due_sent (host k y z) t.end in
    ap (λ (d : Dancer). turn (map (fill k d) sent) (map (fill k d) t.handed.told)) (settled_dance t.end)
    ∙ ap (λ (os : List Output). turn os (map (fill k t.end.dance) t.handed.told))
    (map-append (fill k t.end.dance) t.handed.sent (due_sent (host k y z) t.end)
    ∙ ap (λ os. map (fill k t.end.dance) t.handed.sent ++ os) (due_filled k y z t.end))
  where
    turn : List Output → List Output → Turn
    turn sent told = record { end = settled t.end; handed = record { sent = sent; told = told } }

pub completed_rows : (k : Signer) (y : Bool) (z : List ℕ) (r : Result Turn Refusal)
    → filled_turns k (completed_row (host k y z) r) ≡ completed_row k (filled_turns k r)
completed_rows k y z (Ok t) = ap Ok (completed_filled k y z t)
completed_rows k y z (Err r) = refl
