-- What of an end goes into its record: how its numbers, its counts and its events fit together, and how wide its
-- updates, decisions and results are.
use Rattle.std.specs.Prelude.{◌≡◌, ◌+◌, ◌<◌, ◌≤◌, ◌^◌, ℕ, length, take, true, Option, Some, None}
use Rattle.ln_log.specs.Limits.{most_updates}
use Rattle.ln_log.specs.Log.{IsWithin}
use Rattle.ln_dance.specs.Dance.{AreInStep}
use Rattle.ln_log.specs.declared.mark.EventRef.{EventRef}
use Rattle.ln_log.specs.declared.mark.EventRef.TheVariants as ref
use Rattle.ln_channel.specs.declared.opening.Opened.{Opened}
use Rattle.ln_channel.specs.End.{End}
use Rattle.ln_log.specs.declared.mark.Decision.{Decision}
use Rattle.ln_log.specs.declared.mark.Mark.{Mark}
use Rattle.ln_log.specs.declared.mark.Mark.TheVariants as mark
use Rattle.ln_log.specs.declared.mark.Settlement.{Settlement}
use Rattle.ln_log.specs.Updates.{removed, is_some}
use Rattle.ln_channel_laws.specs.Widths.{IsOrigin, IsUpdate, IsForward}
use Rattle.ln_channel_laws.proofs.All.{All}
use Rattle.ln_channel_laws.proofs.Bases.BaseStands.{IsAt}

abbrev pub Where : {A : Type 0} → (A → Type 0) → Option A → Type 0
Where P None = Unit {0}
Where P (Some x) = P x

-- an event of the own side's updates below own, of the peer's below peer, or the close
abbrev pub IsHeld : ℕ → ℕ → EventRef → Type 0
IsHeld own peer (ref.Own n) = n < own
IsHeld own peer (ref.Peer n) = n < peer
IsHeld own peer ref.Close = Unit {0}

-- numbers, counts and events
pub record IsCounted (e : End) : Type 0 where
  pub step : AreInStep e.dance.numbers e.dance.log
  pub within : IsWithin e.dance.log
  pub first_own : e.dance.log.first.own ≤ e.dance.log.current.own
  pub first_peer : e.dance.log.first.peer ≤ e.dance.log.acknowledged.peer
  pub undecided : All (IsHeld e.dance.log.current.own e.dance.log.acknowledged.peer) e.ledger.undecided
  pub there : All (IsAt e.dance.log.first) e.ledger.undecided
  pub events : e.ledger.decided + length e.ledger.undecided
      ≤ e.dance.log.current.own + e.dance.log.acknowledged.peer + 1
  pub decisions : length e.ledger.decisions ≤ e.ledger.decided
  pub results : length e.ledger.results ≤ e.dance.log.acknowledged.peer
  pub point : length e.dance.peer.point ≡ 33
  pub next_point : length e.dance.peer.next_point ≡ 33
  pub secret : Where (λ s. length s ≡ 32) e.dance.peer.secret
  pub own_fee : Where (λ n. n < 2 ^ 64) e.closing.own_fee
  pub peer_fee : Where (λ n. n < 2 ^ 64) e.closing.peer_fee
  pub closed : Where (λ n. n < 2 ^ 64) e.closing.closed

-- the most bytes that a script has in a shutdown
abbrev pub longest_script : ℕ
longest_script = 65499

-- a decision does something about its HTLC
abbrev pub Does : Mark → Type 0
Does mark.None = ⊥
Does (mark.Forward channel amount expiry) = IsForward channel amount expiry
Does (mark.Fail reason) = length reason < 2 ^ 64
Does (mark.Malformed failure_code) = failure_code < 2 ^ 16
Does (mark.Fulfil preimage) = length preimage ≡ 32
Does (mark.Held event) = event < 2 ^ 64

pub record IsDecision (d : Decision) : Type 0 where
  pub id : d.id < 2 ^ 64
  pub mark : Does d.mark

pub record IsSettlement (s : Settlement) : Type 0 where
  pub id : s.id < 2 ^ 64
  pub origin : IsOrigin (Some s.origin)
  pub update : IsUpdate s.removal
  pub removal : is_some (removed s.removal) ≡ true

-- updates, scripts, decisions and results
pub record IsWide (e : End) : Type 0 where
  pub own : All IsUpdate e.dance.log.own
  pub received : All IsUpdate (take e.dance.log.current.peer e.dance.log.received)
  pub own_room : length e.dance.log.own ≤ most_updates
  pub received_room : length (take e.dance.log.current.peer e.dance.log.received) ≤ most_updates
  pub script : length e.terms.script ≤ longest_script
  pub peer_script : Where (λ s. length s ≤ longest_script) e.terms.peer_script
  pub decisions : All IsDecision e.ledger.decisions
  pub results : All IsSettlement e.ledger.results

-- what an end keeps of how it was opened
pub record IsOf (o : Opened) (e : End) : Type 0 where
  pub channel : e.dance.channel ≡ o.dance.channel
  pub opening : e.dance.log.opening ≡ o.dance.log.opening
  pub role : e.dance.log.role ≡ o.dance.log.role
  pub fees : e.closing.fees ≡ o.closing.fees
  pub closing_role : e.closing.role ≡ o.closing.role
  pub open_channel : e.terms.open_channel ≡ o.terms.open_channel
  pub accept_channel : e.terms.accept_channel ≡ o.terms.accept_channel
