-- What a log may be loaded from: what the record of a channel tells of its updates. A record has the updates that
-- signatures cover and no others, as a lost connection leaves them (BOLT 2, "Message Retransmission").
use Rattle.std.specs.Prelude.{◌≡◌, ◌≤◌, ◌*◌, List, [], length}
use Rattle.ln_keys.specs.declared.role.Role.{Role}
use Rattle.ln_log.specs.declared.opening.Opening.{Opening}
use Rattle.ln_log.specs.declared.log.Pair.{Pair}
use Rattle.ln_log.specs.Limits.{most_updates}
use Rattle.ln_log.specs.declared.loading.Coverage.{Coverage}
use Rattle.ln_log.specs.declared.update.Update.{Update}
use Rattle.ln_log.specs.Opening.{HasFunds}
use Rattle.ln_log.specs.Machine.{Covered}
use Rattle.ln_log.specs.Log.{Log, IsWithin, none, covered, counts_of, AreNumbered, AreRemovals, AreWithin, BothPay}

-- the lists and counts that a record tells
abbrev pub stored : Opening → Role → List Update → List Update → Coverage → Log
stored o x own received c = record {
  opening = o;
  role = x;
  own = own;
  received = received;
  first = none;
  signed = c.signed;
  acknowledged = c.acknowledged;
  current = c.current;
}

-- a view in which each removal names an HTLC that is offered and that none before it removes, and in which neither
-- side has spent more than it had
pub record IsLawful (o : Opening) (x : Role) (c : Covered) : Type 0 where
  pub own_removals : AreRemovals c.peer [] c.own
  pub peer_removals : AreRemovals c.own [] c.peer
  pub paid : BothPay o x c

-- ids rise by one from 0, and no HTLC is of more than all the funds (a record of a further HTLC, which came back
-- before any view had it live, would be told by no side that keeps the limits)
pub record AreOffered (o : Opening) (us : List Update) : Type 0 where
  pub few : length us ≤ most_updates
  pub ids : AreNumbered 0 us
  pub amounts : AreWithin (1000 * o.satoshis) us

-- the counts lie within the lists, and the last signatures of both sides cover all of these
pub record CoverAll (l : Log) : Type 0 where
  pub within : IsWithin l
  pub own : l.signed.own ≡ length l.own
  pub peer : l.current.peer ≡ length l.received

-- ids, amounts and counts are as a channel with these funds can have them
pub record AreInOrder (l : Log) : Type 0 where
  pub funds : HasFunds l.opening
  pub covered_all : CoverAll l
  pub own_offered : AreOffered l.opening l.own
  pub peer_offered : AreOffered l.opening l.received

-- each view is lawful: those of the commitments that stand or were signed last, that of the next signature and that
-- of the next one taken
abbrev pub AreLawful : Log → Type 0
AreLawful l = (p : Pair) → IsLawful l.opening l.role (covered l (counts_of p l))

-- a log can be made of it
pub record IsReadable (l : Log) : Type 0 where
  pub lists : AreInOrder l
  pub views : AreLawful l
