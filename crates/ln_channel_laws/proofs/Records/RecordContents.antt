-- What of an end goes into its record beside numbers and counts, and what messages bring to it.
use Rattle.std.proofs.Common.{◌≡◌, ℕ, zero, suc, ◌≤◌, List, [], ◌∷◌, map, length, take}
use Rattle.std.proofs.Common.{arith}
use Rattle.std.proofs.Common.{Option}
use Rattle.ln_msgs.specs.declared.messages.message.Message.{Message}
use Rattle.ln_msgs.specs.declared.messages.message.Message.TheVariants as message
use Rattle.ln_msgs.specs.declared.messages.opening.AcceptChannel.{AcceptChannel}
use Rattle.ln_msgs.specs.declared.messages.opening.OpenChannel.{OpenChannel}
use Rattle.ln_keys.specs.declared.role.Role.{Role}
use Rattle.ln_log.specs.Limits.{most_updates}
use Rattle.ln_log.specs.declared.opening.Opening.{Opening}
use Rattle.ln_log.specs.declared.mark.Decision.{Decision}
use Rattle.ln_log.specs.declared.mark.Settlement.{Settlement}
use Rattle.ln_log.specs.declared.update.Update.{Update as Change}
use Rattle.ln_log.specs.declared.update.Update.TheVariants as update
use Rattle.ln_dance.specs.Messages.{update_message, add_of, fulfil_of, fail_of, malformed_of, fee_of}
use Rattle.ln_close.specs.declared.closing.Fees.{Fees}
use Rattle.ln_channel.specs.declared.output.Output.{Output}
use Rattle.ln_channel.specs.declared.output.Output.TheVariants as output
use Rattle.ln_channel.specs.End.{End}
use Rattle.ln_channel_laws.specs.Widths.{IsAdd, IsFulfil, IsFail, IsMalformed, IsUpdate}
use Rattle.ln_channel_laws.specs.Ends.{messages_in}
use Rattle.ln_channel_laws.proofs.All.{All, all-take}
use Rattle.ln_channel_laws.proofs.Records.RecordFits.{Where, longest_script, IsDecision, IsSettlement, IsWide}

-- ---- what a message carries

abbrev pub CarriesWide : Message → Type 0
CarriesWide (message.UpdateAddHtlc m) = IsAdd (add_of m)
CarriesWide (message.UpdateFulfillHtlc m) = IsFulfil (fulfil_of m)
CarriesWide (message.UpdateFailHtlc m) = IsFail (fail_of m)
CarriesWide (message.UpdateFailMalformedHtlc m) = IsMalformed (malformed_of m)
CarriesWide (message.UpdateFee m) = IsUpdate (update.Fee (fee_of m))
CarriesWide (message.Shutdown m) = length m.script ≤ longest_script
CarriesWide m = Unit {0}

abbrev pub SendsWide : Output → Type 0
SendsWide (output.Send m) = CarriesWide m
SendsWide o = Unit {0}

pub messages_wide : (os : List Output) → All SendsWide os → All CarriesWide (messages_in os)
messages_wide [] h = tt
messages_wide (output.Send m ∷ os) h = (h.0, messages_wide os h.1)
messages_wide (output.Signed n ∷ os) h = messages_wide os h.1
messages_wide (output.Committed own peer ∷ os) h = messages_wide os h.1
messages_wide (output.Event n e ∷ os) h = messages_wide os h.1
messages_wide (output.Closed fee ∷ os) h = messages_wide os h.1

-- where an add came from isn't told
pub update_wide : (channel : List ℕ) (u : Change) → IsUpdate u → CarriesWide (update_message channel u)
update_wide channel (update.Add a) h = record {
  id = h.id;
  amount = h.amount;
  hash = h.hash;
  expiry = h.expiry;
  onion = h.onion;
  origin = tt;
}
update_wide channel (update.Fulfil f) h = h
update_wide channel (update.Fail f) h = h
update_wide channel (update.Malformed m) h = h
update_wide channel (update.Fee f) h = h

pub updates_wide : (channel : List ℕ) (us : List Change) → All IsUpdate us
    → All SendsWide (map output.Send (map (update_message channel) us))
updates_wide channel [] h = tt
updates_wide channel (u ∷ us) h = (update_wide channel u h.0, updates_wide channel us h.1)

-- ---- what of an end goes into its record

-- what it keeps of how it was opened
pub record Origin : Type 0 where
  pub channel : List ℕ
  pub opening : Opening
  pub role : Role
  pub fees : Fees
  pub closing_role : Role
  pub open_channel : OpenChannel
  pub accept_channel : AcceptChannel

pub record Contents : Type 0 where
  pub origin : Origin
  pub own : List Change
  pub received : List Change
  pub script : List ℕ
  pub peer_script : Option (List ℕ)
  pub decisions : List Decision
  pub results : List Settlement

abbrev pub contents_of : End → Contents
contents_of e = record {
  origin = record {
    channel = e.dance.channel;
    opening = e.dance.log.opening;
    role = e.dance.log.role;
    fees = e.closing.fees;
    closing_role = e.closing.role;
    open_channel = e.terms.open_channel;
    accept_channel = e.terms.accept_channel;
  };
  own = e.dance.log.own;
  received = e.dance.log.received;
  script = e.terms.script;
  peer_script = e.terms.peer_script;
  decisions = e.ledger.decisions;
  results = e.ledger.results;
}

pub record AreWide (o : Origin) (c : Contents) : Type 0 where
  pub origin : c.origin ≡ o
  pub own : All IsUpdate c.own
  pub own_room : length c.own ≤ most_updates
  pub received : All IsUpdate c.received
  pub received_room : length c.received ≤ most_updates
  pub script : length c.script ≤ longest_script
  pub peer_script : Where (λ s. length s ≤ longest_script) c.peer_script
  pub decisions : All IsDecision c.decisions
  pub results : All IsSettlement c.results

abbrev pub Fits : Origin → End → Type 0
Fits o e = AreWide o (contents_of e)

pub length-front : {A : Type 0} (n : ℕ) (xs : List A) → length (take n xs) ≤ length xs
length-front zero xs = omega arith
length-front (suc n) [] = omega arith
length-front (suc n) (x ∷ xs) = let h = length-front n xs in omega (arith, h)

pub wide_of : (o : Origin) (e : End) → Fits o e → IsWide e
wide_of o e h =
    let front = length-front e.dance.log.current.peer e.dance.log.received in
    let most = h.received_room in
    record {
      own = h.own;
      received = all-take IsUpdate e.dance.log.current.peer e.dance.log.received h.received;
      own_room = h.own_room;
      received_room = omega (arith, front, most);
      script = h.script;
      peer_script = h.peer_script;
      decisions = h.decisions;
      results = h.results;
    }
