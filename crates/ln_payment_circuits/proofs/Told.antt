-- What an end tells a book of what it has kept, once it has lost its connection.
use Rattle.std.proofs.Common.{◌≡◌, ℕ, ◌<◌, List, take, drop, refl, sym, ap, ◌∙◌}
use Rattle.std.proofs.Common.{arith, Bool, true, false, cond, not, ◌&&◌, ◌||◌, nat_lt, nat_le, None}
use Rattle.std.proofs.lemmas.Bool.{ltb-true, ltb-false, leb-true, le-leb}
use Rattle.std.proofs.lemmas.List.{take-append-drop, take_rest}
use Rattle.ln_log.specs.declared.log.Side.TheVariants as side
use Rattle.ln_log.specs.declared.outcome.Outcome.{Outcome}
use Rattle.ln_log.specs.declared.outcome.Outcome.TheVariants.{Live, Fulfilled, Failed}
use Rattle.ln_log.specs.Updates.{add_with, outcome, is_live, is_some}
use Rattle.ln_log.specs.Log.{Log}
use Rattle.ln_log.specs.Log as log
use Rattle.ln_log.specs.Window.{first_live_htlcs, first_balances}
use Rattle.ln_log.proofs.Behind.{found, offered_below}
use Rattle.ln_log.proofs.Removing.{numbered-take, outcome-append}
use Rattle.ln_channel.specs.End.{End, end_dropped}
use Rattle.ln_book.specs.Kept.{next_own_id, has_own_removal, own_window}
use Rattle.ln_book.specs.Kept as kept
use Rattle.ln_payment.specs.Parts.{NoRemoval}
use Rattle.ln_payment.specs.Rebuild.{is_uncovered}
use Rattle.ln_payment_circuits.specs.Snapshot.{IsFit}
use Rattle.ln_payment_circuits.proofs.Updates.{live_is}
use Rattle.ln_payment_circuits.proofs.Parts.{HasAdd, course_of, course_by, some_of, ended_by, has_result, removal_of}
use Rattle.ln_payment_circuits.proofs.Logs.{no_removal}

module _ (e : End) (fit : IsFit e) where
  abbrev l : Log
  l = e.dance.log

  -- below the next id each own add is covered by a signature
  ended : (o : Outcome) (r : Bool) → is_uncovered (ended_by o r) ≡ false
  ended Live r = refl
  ended Fulfilled r = refl
  ended Failed r = refl

  less : (n i : ℕ) → nat_le n i ≡ false → i < n
  less n i h = cases (nat_lt i n) refl
    where
      cases : (b : Bool) → nat_lt i n ≡ b → i < n
      cases true k = ltb-true i n k
      cases false k = absurd (let le = ltb-false i n k in let yes = le-leb n i le in let no : true ≡ false = sym yes
          ∙ h in cc)

  pub covered : (i : ℕ) → nat_le (next_own_id (end_dropped e)) i ≡ false
      → is_uncovered (course_of i l e.ledger.results) ≡ false
  covered i h =
      let there : is_some (add_with i (take l.signed.own l.own)) ≡ true =
      (offered_below i (take l.signed.own l.own) (numbered-take 0 l.signed.own l.own fit.sound.own_ids)).1
      (less (next_own_id (end_dropped e)) i h) in
      ap (λ b. is_uncovered (course_by b (ended_by (outcome i (take l.acknowledged.peer l.received))
      (has_result i e.ledger.results)))) there ∙ ended (outcome i (take l.acknowledged.peer l.received))
      (has_result i e.ledger.results)

  pub gone : (o : List ℕ × ℕ) (i : ℕ) → nat_le (next_own_id (end_dropped e)) i ≡ true
      → HasAdd o i (log.after_drop l) → ⊥
  gone o i h a =
      let below = (offered_below i (take l.signed.own l.own) (numbered-take 0 l.signed.own l.own fit.sound.own_ids)).0
      (some_of o (add_with i (take l.signed.own l.own)) a) in
      let le = leb-true (next_own_id (end_dropped e)) i h in
      absurd (omega (arith, below, le))

  -- ---- a removal that isn't kept

  base_live : (id : ℕ) → kept.is_gone id l ≡ false → outcome id (take l.first.own l.own) ≡ Live
  base_live id h = cases (nat_lt id (first_balances l).next_peer) refl h
    where
      seen : (o : Outcome) → is_some (cond (is_live o) (add_with id (take l.first.peer l.received)) None) ≡ true
          → o ≡ Live
      seen Live k = refl
      seen Fulfilled k = absurd (cc)
      seen Failed k = absurd (cc)

      there : (b : Bool) → is_some (add_with id (first_live_htlcs side.Peer l)) ≡ b → not b ≡ false
          → outcome id (take l.first.own l.own) ≡ Live
      there false k m = absurd (cc)
      there true k m = seen (outcome id (take l.first.own l.own))
          (sym (ap is_some (found id (take l.first.peer l.received) (take l.first.own l.own))) ∙ k)

      cases : (b : Bool) → nat_lt id (first_balances l).next_peer ≡ b
          → (b && not (is_some (add_with id (first_live_htlcs side.Peer l)))) ≡ false
          → outcome id (take l.first.own l.own) ≡ Live
      cases false k m = fit.closed id (ltb-false id (first_balances l).next_peer k)
      cases true k m = there (is_some (add_with id (first_live_htlcs side.Peer l))) refl m

  pub none_removed : (id : ℕ) → has_own_removal id l ≡ false → removal_of id l ≡ NoRemoval
  none_removed id h = cases (is_live (outcome id (own_window l))) refl h
    where
      cases : (b : Bool) → is_live (outcome id (own_window l)) ≡ b → (not b || kept.is_gone id l) ≡ false
          → removal_of id l ≡ NoRemoval
      cases false k m = absurd (cc)
      cases true k m = no_removal l id (
          ap (outcome id) (sym (take-append-drop l.first.own l.own))
          ∙ outcome-append id (take l.first.own l.own) (drop l.first.own l.own)
          ∙ ap (λ o. cond (is_live o) (outcome id (drop l.first.own l.own)) o) (base_live id m)
          ∙ ap (outcome id) (sym (take_rest l.own l.first.own)) ∙ live_is (outcome id (own_window l)) k)
