-- Which bases updates lead to: what two lists of updates can be worth, with which live HTLCs and how many updates; and
-- of the lists that are worth so one pair, written down (BOLT 2, "Normal Operation").
use Rattle.std.specs.Prelude.{◌≡◌, ℕ, zero, suc, ◌+◌, ◌-◌, ◌*◌, ◌≤◌, ◌<◌, List, [], ◌∷◌, ◌++◌, length, sum_by}
use Rattle.std.specs.Prelude.{replicate, None}
use Rattle.ln_keys.specs.declared.role.Role.{Role}
use Rattle.ln_keys.specs.declared.role.Role.TheVariants.{Funder, Fundee}
use Rattle.ln_keys.specs.Role.{other_role}
use Rattle.ln_log.specs.declared.opening.Opening.{Opening}
use Rattle.ln_log.specs.declared.update.Add.{Add}
use Rattle.ln_log.specs.declared.update.Update.{Update}
use Rattle.ln_log.specs.declared.update.Update.TheVariants as update
use Rattle.ln_log.specs.Opening.{first_balance}
use Rattle.ln_log.specs.View.{live_adds}
use Rattle.ln_log.specs.Log.{Counts, AreNumbered, AreRemovals, AreWithin}
use Rattle.ln_log.specs.Window.{Balances, balances_of, IsClosed}

-- ---- what two lists can be worth

-- live HTLCs by rising id, of ids from one up to another
abbrev pub AreBetween : ℕ → ℕ → List Add → Type 0
AreBetween from to [] = from ≤ to
AreBetween from to (a ∷ adds) = (from ≤ a.id) × (a.id < to) × AreBetween (a.id + 1) to adds

abbrev pub add_amount : Add → ℕ
add_amount a = a.amount

-- what live HTLCs amount to
abbrev pub in_flight : List Add → ℕ
in_flight adds = sum_by add_amount adds

-- how many HTLCs of a side aren't live any more, of all below its next id
abbrev pub gone : ℕ → List Add → ℕ
gone next live_htlcs = next - length live_htlcs

-- what a side has lost for good: what it had at first, less what is in flight and what it has left
abbrev pub lost : ℕ → List Add → ℕ → ℕ
lost first live_htlcs left = first - (in_flight live_htlcs + left)

-- the fewest updates of a side: one for each HTLC that it offered, and one for each of the other side's that is gone
abbrev pub fewest : ℕ → ℕ → List Add → ℕ
fewest next next_peer live_htlcs_peer = next + gone next_peer live_htlcs_peer

-- how many of a side's updates are left for changes of the fee
abbrev pub own_fees : Counts → Balances → List Add → ℕ
own_fees count w peer = count.own - fewest w.next_own w.next_peer peer

abbrev pub peer_fees : Counts → Balances → List Add → ℕ
peer_fees count w own = count.peer - fewest w.next_peer w.next_own own

-- of the funder's updates, who alone pays the fee
abbrev pub fee_changes : Role → Counts → Balances → List Add → List Add → ℕ
fee_changes Funder count w own peer = own_fees count w peer
fee_changes Fundee count w own peer = peer_fees count w own

-- So many updates of either side can be worth this, with these HTLCs live: each HTLC that isn't live was removed by
-- the other side, the fee has changed only if the funder has an update for it, all funds are there, and what a side has
-- lost it has lost by an HTLC that isn't live.
pub record MayBeLedTo (o : Opening) (x : Role) (count : Counts) (w : Balances) (own peer : List Add) : Type 0 where
  pub own_live : AreBetween 0 w.next_own own
  pub peer_live : AreBetween 0 w.next_peer peer
  pub own_count : fewest w.next_own w.next_peer peer ≤ count.own
  pub peer_count : fewest w.next_peer w.next_own own ≤ count.peer
  pub feerate : fee_changes x count w own peer ≡ 0 → w.feerate ≡ o.feerate
  pub all_funds : w.own + in_flight own + (w.peer + in_flight peer) ≡ 1000 * o.satoshis
  pub own_lost : 1 ≤ lost (first_balance o x) own w.own → 1 ≤ gone w.next_own own
  pub peer_lost : 1 ≤ lost (first_balance o (other_role x)) peer w.peer → 1 ≤ gone w.next_peer peer

-- Beginnings of both lists that have so many updates, are worth this, with these HTLCs live, and can be a base: ids
-- rise by one from 0, each side removes HTLCs of the other's, each once, no HTLC is of more than all funds, and both
-- sides can pay.
pub record LeadTo (o : Opening) (x : Role) (count : Counts) (w : Balances) (live_htlcs_own live_htlcs_peer : List Add)
    (own peer : List Update) : Type 0 where
  pub own_count : length own ≡ count.own
  pub peer_count : length peer ≡ count.peer
  pub balances : balances_of o x own peer ≡ w
  pub own_live : live_adds own peer ≡ live_htlcs_own
  pub peer_live : live_adds peer own ≡ live_htlcs_peer
  pub own_ids : AreNumbered 0 own
  pub peer_ids : AreNumbered 0 peer
  pub own_removals : AreRemovals peer [] own
  pub peer_removals : AreRemovals own [] peer
  pub own_amounts : AreWithin (1000 * o.satoshis) own
  pub peer_amounts : AreWithin (1000 * o.satoshis) peer
  pub closed : IsClosed o x own peer

-- ---- lists that are worth it

unfoldable pub zeros : ℕ → List ℕ
zeros n = replicate n 0

-- an HTLC that isn't live any more: of it nothing is known but this
abbrev pub gone_add : ℕ → ℕ → Add
gone_add id amount = record {
  id = id;
  amount = amount;
  hash = zeros 32;
  expiry = 0;
  onion = zeros 1366;
  origin = None;
}

-- so many of them from an id on, the first of this amount and the others of none
abbrev pub gone_adds : ℕ → ℕ → ℕ → List Update
gone_adds from zero amount = []
gone_adds from (suc n) amount = update.Add (gone_add from amount) ∷ gone_adds (from + 1) n 0

-- what of an amount so many of them leave to a later one
abbrev pub left_by : ℕ → ℕ → ℕ
left_by zero amount = amount
left_by (suc n) amount = 0

-- all HTLCs of ids from one up to another: the live ones, and between them those that aren't
abbrev pub all_adds : ℕ → ℕ → ℕ → List Add → List Update
all_adds from to amount [] = gone_adds from (to - from) amount
all_adds from to amount (a ∷ live_htlcs) = gone_adds from (a.id - from) amount
    ++ update.Add a ∷ all_adds (a.id + 1) to (left_by (a.id - from) amount) live_htlcs

-- the removals of so many HTLCs from an id on
abbrev pub removals_from : ℕ → ℕ → List Update
removals_from from zero = []
removals_from from (suc n) = update.Fulfil (record { id = from; preimage = zeros 32 }) ∷ removals_from (from + 1) n

-- the removals of all HTLCs of ids from one up to another that aren't live
abbrev pub all_removals : ℕ → ℕ → List Add → List Update
all_removals from to [] = removals_from from (to - from)
all_removals from to (a ∷ live_htlcs) = removals_from from (a.id - from) ++ all_removals (a.id + 1) to live_htlcs

-- so many changes of the fee to this feerate
abbrev pub fees_to : ℕ → ℕ → List Update
fees_to rate zero = []
fees_to rate (suc n) = update.Fee (record { feerate = rate }) ∷ fees_to rate n

-- the updates of a side: its HTLCs, then changes of the fee, then the removals of the other side's HTLCs
abbrev pub updates_to : ℕ → ℕ → List Add → ℕ → ℕ → ℕ → List Add → List Update
updates_to next lost_amount live_htlcs rate fees next_peer live_htlcs_peer = all_adds 0 next lost_amount live_htlcs
    ++ (fees_to rate fees ++ all_removals 0 next_peer live_htlcs_peer)

abbrev pub led_own : Opening → Role → Counts → Balances → List Add → List Add → List Update
led_own o x count w own peer = updates_to w.next_own (lost (first_balance o x) own w.own) own w.feerate
    (own_fees count w peer) w.next_peer peer

abbrev pub led_peer : Opening → Role → Counts → Balances → List Add → List Add → List Update
led_peer o x count w own peer = updates_to w.next_peer (lost (first_balance o (other_role x)) peer w.peer) peer
    w.feerate (peer_fees count w own) w.next_own own
