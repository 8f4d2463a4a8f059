-- What two lists of updates are worth: the outputs of the commitment that covers them (BOLT 2, "Normal
-- Operation"; BOLT 3, "Commitment Transaction Outputs").
use Rattle.std.specs.Prelude.{◌≡◌, ℕ, ◌+◌, ◌-◌, ◌*◌, ◌≤◌, List, [], ◌∷◌, ◌++◌, map, sum_by, Option, Some, None}
use Rattle.std.specs.Prelude.{if◌then◌else◌}
use Rattle.std.specs.List.{cons_option}
use Rattle.ln_keys.specs.declared.role.Role.{Role}
use Rattle.ln_keys.specs.declared.role.Role.TheVariants.{Funder, Fundee}
use Rattle.ln_keys.specs.declared.view.Htlc.{Htlc}
use Rattle.ln_keys.specs.declared.view.View.{View}
use Rattle.ln_log.specs.declared.opening.Opening.{Opening}
use Rattle.ln_log.specs.declared.update.Add.{Add}
use Rattle.ln_log.specs.declared.update.Update.{Update}
use Rattle.ln_log.specs.Opening.{first_balance}
use Rattle.ln_log.specs.Updates.{offered, outcome, is_live, is_fulfilled, is_failed, is_any, total, last_feerate}

-- the balance of the side that offered own: what it had, less what it offered, with what came back and
-- what it got by fulfilling
abbrev pub balance : ℕ → List Update → List Update → ℕ
balance first own peer = first + total is_failed own peer + total is_fulfilled peer own - total is_any own peer

abbrev pub live_of : Option Add → List Update → Option Add
live_of None removals = None
live_of (Some a) removals = if is_live (outcome a.id removals) then Some a else None

-- the HTLCs of one side that the other hasn't removed, by id
abbrev pub live_adds : List Update → List Update → List Add
live_adds [] removals = []
live_adds (u ∷ us) removals = cons_option (live_of (offered u) removals) (live_adds us removals)

abbrev pub htlc_of : Role → Add → Htlc
htlc_of owner a = record { owner = owner; id = a.id; amount = a.amount; hash = a.hash; expiry = a.expiry }

-- the view of a pair of lists
abbrev pub view_of : Opening → List Update → List Update → View
view_of o funder fundee = record {
  funder = balance (first_balance o Funder) funder fundee;
  fundee = balance (first_balance o Fundee) fundee funder;
  feerate = last_feerate o.feerate funder;
  htlcs = map (htlc_of Funder) (live_adds funder fundee) ++ map (htlc_of Fundee) (live_adds fundee funder);
}

-- the side that offered own hasn't spent more than it had
abbrev pub Pays : ℕ → List Update → List Update → Type 0
Pays first own peer = total is_any own peer ≤ first + total is_failed own peer + total is_fulfilled peer own

-- no side has spent more than it had
pub record IsFunded (o : Opening) (funder fundee : List Update) : Type 0 where
  pub funder_pays : Pays (first_balance o Funder) funder fundee
  pub fundee_pays : Pays (first_balance o Fundee) fundee funder

abbrev pub htlc_amount : Htlc → ℕ
htlc_amount h = h.amount

-- balances and live HTLCs are together what was paid in
abbrev pub AddsUp : Opening → View → Type 0
AddsUp o v = v.funder + v.fundee + sum_by htlc_amount v.htlcs ≡ 1000 * o.satoshis
