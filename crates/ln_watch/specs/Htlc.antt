-- The live HTLCs of a channel, as its summary tells them (BOLT 2, "Normal Operation").
use Rattle.std.specs.Prelude.{ℕ, List, [], ◌∷◌, Bool, true, false, Option, Some, None, if◌then◌else◌}
use Rattle.std.specs.List.{cons_option}
use Rattle.ln_keys.specs.declared.role.Role.{Role}
use Rattle.ln_keys.specs.declared.role.Role.TheVariants.{Funder, Fundee}
use Rattle.ln_keys.specs.declared.view.Htlc.{Htlc}
use Rattle.ln_log.specs.declared.outcome.Outcome.{Outcome}
use Rattle.ln_log.specs.declared.outcome.Outcome.TheVariants as outcome
use Rattle.ln_log.specs.declared.update.Update.{Update}
use Rattle.ln_log.specs.Updates.{add_with, outcome, is_some}
use Rattle.ln_watch.specs.declared.htlc.HtlcStage.{HtlcStage}
use Rattle.ln_watch.specs.declared.htlc.HtlcStage.TheVariants as stage
use Rattle.ln_watch.specs.declared.htlc.LiveHtlc.{LiveHtlc}

-- an HTLC whose offer is held as irrevocably committed
abbrev pub stage_by : Outcome → HtlcStage
stage_by outcome.Live = stage.Committed
stage_by outcome.Fulfilled = stage.Fulfilled
stage_by outcome.Failed = stage.Failed

-- any, by the updates that aren't held yet: those of its side, and those of the other one
abbrev pub stage_of : List Update → List Update → ℕ → HtlcStage
stage_of adds removals id = if is_some (add_with id adds) then stage.Offered else stage_by (outcome id removals)

abbrev pub live_htlc : Bool → List Update → List Update → Htlc → LiveHtlc
live_htlc own adds removals h = record {
  own = own;
  id = h.id;
  amount = h.amount;
  hash = h.hash;
  expiry = h.expiry;
  stage = stage_of adds removals h.id;
}

abbrev pub is_role : Role → Role → Bool
is_role Funder Funder = true
is_role Funder Fundee = false
is_role Fundee Funder = false
is_role Fundee Fundee = true

abbrev pub is_of : Role → Htlc → Bool
is_of owner h = is_role owner h.owner

abbrev pub live_by : Role → Bool → List Update → List Update → Htlc → Option LiveHtlc
live_by owner own adds removals h = if is_of owner h then Some (live_htlc own adds removals h) else None

-- of a commitment's HTLCs those that this side has offered
abbrev pub live_htlcs : Role → Bool → List Update → List Update → List Htlc → List LiveHtlc
live_htlcs owner own adds removals [] = []
live_htlcs owner own adds removals (h ∷ hs) =
    cons_option (live_by owner own adds removals h) (live_htlcs owner own adds removals hs)
