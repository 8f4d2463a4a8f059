-- A base is one that updates may lead to exactly where there are lists that lead to it.
use Rattle.std.proofs.Common.{◌≡◌, ℕ, ◌+◌, ◌*◌, List, [], refl, sym, ap, ◌∙◌}
use Rattle.std.proofs.Common.{subst, arith}
use Rattle.ln_keys.specs.declared.role.Role.{Role}
use Rattle.ln_keys.specs.declared.role.Role.TheVariants.{Funder, Fundee}
use Rattle.ln_keys.specs.Role.{other_role}
use Rattle.ln_log.specs.declared.opening.Opening.{Opening}
use Rattle.ln_log.specs.declared.update.Add.{Add}
use Rattle.ln_log.specs.declared.update.Update.{Update}
use Rattle.ln_log.specs.Opening.{HasFunds, first_balance}
use Rattle.ln_log.specs.Updates.{next_id, is_live, is_failed, is_fulfilled, total}
use Rattle.ln_log.specs.View.{balance, live_adds, Pays}
use Rattle.ln_log.specs.Log.{Counts, none, AreNumbered}
use Rattle.ln_log.specs.Window.{Balances, balances_of, feerate_of}
use Rattle.ln_log.specs.Explained.{in_flight, lost, own_fees, peer_fees, fee_changes, MayBeLedTo, LeadTo}
use Rattle.ln_log.specs.Explained.{led_own, led_peer}
use Rattle.ln_log.proofs.Tallies.{total_is}
use Rattle.ln_log.proofs.Totals.{total_splits, first_sum}
use Rattle.ln_log.proofs.Behind.{there}
use Rattle.ln_log.proofs.Advancing.{same_balances}
use Rattle.ln_log.proofs.Explained.{flies_all, lists_lead}
use Rattle.ln_log.proofs.Written.{AreFound, record_form, high_all, ids_are, are_numbered, are_within, length_is}
use Rattle.ln_log.proofs.Written.{rate_is}
use Rattle.ln_log.proofs.Written.{outcome_is, are_removals, live_htlcs_are, none_failed, paid_is}

-- what a side has left, and that it can pay
left_is : (f g b : ℕ) (p q : List Update) (live_htlcs : List Add) → live_adds p q ≡ live_htlcs → total is_failed p q ≡ 0
    → total is_fulfilled p q ≡ lost f live_htlcs b → total is_fulfilled q p ≡ g
    → b + in_flight live_htlcs + lost f live_htlcs b ≡ f + g → (balance f p q ≡ b) × Pays f p q
left_is f g b p q live_htlcs live failed paid got all =
    let flies : in_flight live_htlcs ≡ total is_live p q = ap in_flight (sym live) ∙ flies_all p q in (
      omega (arith, flies, failed, paid, got, total_splits p q, all),
      omega (arith, flies, failed, paid, got, total_splits p q, all),
    )

-- each HTLC that is offered is found
all_found : (n : ℕ) (us : List Update) → AreNumbered 0 us → next_id us ≡ n → AreFound us 0 n
all_found n us ids e = λ id le lt. there 0 id us ids le (omega (arith, lt, e))

rate_by : (o : Opening) (x : Role) (c : Counts) (w : Balances) (own peer : List Add)
    → (fee_changes x c w own peer ≡ 0 → w.feerate ≡ o.feerate)
    → feerate_of o.feerate x (led_own o x c w own peer) (led_peer o x c w own peer) ≡ w.feerate
rate_by o Funder c w own peer h = rate_is w.next_own (lost (first_balance o Funder) own w.own) own w.feerate
    (own_fees c w peer) w.next_peer peer o.feerate h
rate_by o Fundee c w own peer h = rate_is w.next_peer (lost (first_balance o (other_role Fundee)) peer w.peer) peer
    w.feerate (peer_fees c w own) w.next_own own o.feerate h

-- the lists that are written down lead to it
pub leads : (o : Opening) (x : Role) (c : Counts) (w : Balances) (own peer : List Add) → HasFunds o
    → MayBeLedTo o x c w own peer → LeadTo o x c w own peer (led_own o x c w own peer) (led_peer o x c w own peer)
leads o x c w own peer funds h =
    let f = first_balance o x in
    let g = first_balance o (other_role x) in
    let most = 1000 * o.satoshis in
    let a = lost f own w.own in
    let b = lost g peer w.peer in
    let m = own_fees c w peer in
    let n = peer_fees c w own in
    let p = led_own o x c w own peer in
    let q = led_peer o x c w own peer in
    let all = first_sum o x funds in
    let own_told = record_form q 0 w.next_own own h.own_live
    (λ id le lt. outcome_is w.next_peer b peer w.feerate n w.next_own own id) in
    let peer_told = record_form p 0 w.next_peer peer h.peer_live
    (λ id le lt. outcome_is w.next_own a own w.feerate m w.next_peer peer id) in
    let own_ids = are_numbered w.next_own a own w.feerate m w.next_peer peer h.own_live in
    let peer_ids = are_numbered w.next_peer b peer w.feerate n w.next_own own h.peer_live in
    let own_next = ids_are w.next_own a own w.feerate m w.next_peer peer h.own_live in
    let peer_next = ids_are w.next_peer b peer w.feerate n w.next_own own h.peer_live in
    let own_live_htlcs = live_htlcs_are w.next_own a own w.feerate m w.next_peer peer q own_told in
    let peer_live_htlcs = live_htlcs_are w.next_peer b peer w.feerate n w.next_own own p peer_told in
    let own_failed = none_failed w.next_own a own w.feerate m w.next_peer peer q own_told in
    let peer_failed = none_failed w.next_peer b peer w.feerate n w.next_own own p peer_told in
    let own_paid = total_is is_fulfilled p q
    ∙ paid_is w.next_own a own w.feerate m w.next_peer peer q h.own_live own_told h.own_lost in
    let peer_paid = total_is is_fulfilled q p
    ∙ paid_is w.next_peer b peer w.feerate n w.next_own own p h.peer_live peer_told h.peer_lost in
    let own_left = left_is f b w.own p q own own_live_htlcs (total_is is_failed p q ∙ own_failed) own_paid peer_paid
    (omega (arith, all, h.all_funds)) in
    let peer_left = left_is g a w.peer q p peer peer_live_htlcs (total_is is_failed q p
    ∙ peer_failed) peer_paid own_paid
    (omega (arith, all, h.all_funds)) in
    record {
      own_count = omega (
        arith,
        length_is w.next_own a own w.feerate m w.next_peer peer h.own_live h.peer_live,
        h.own_count,
      );
      peer_count = omega (
        arith,
        length_is w.next_peer b peer w.feerate n w.next_own own h.peer_live h.own_live,
        h.peer_count,
      );
      balances = same_balances (balances_of o x p q) w own_next peer_next own_left.0 peer_left.0
          (rate_by o x c w own peer h.feerate);
      own_live = own_live_htlcs;
      peer_live = peer_live_htlcs;
      own_ids = own_ids;
      peer_ids = peer_ids;
      own_removals = are_removals w.next_own a own w.feerate m w.next_peer peer q h.peer_live
          (all_found w.next_peer q peer_ids peer_next);
      peer_removals = are_removals w.next_peer b peer w.feerate n w.next_own own p h.own_live
          (all_found w.next_own p own_ids own_next);
      own_amounts = are_within w.next_own a own w.feerate m w.next_peer peer most (omega (arith, all))
          (omega (arith, h.all_funds));
      peer_amounts = are_within w.next_peer b peer w.feerate n w.next_own own most (omega (arith, all))
          (omega (arith, h.all_funds));
      closed = record {
        own_new = λ id le. outcome_is w.next_peer b peer w.feerate n w.next_own own id
            ∙ high_all 0 w.next_own own id h.own_live (omega (arith, le, own_next));
        peer_new = λ id le. outcome_is w.next_own a own w.feerate m w.next_peer peer id
            ∙ high_all 0 w.next_peer peer id h.peer_live (omega (arith, le, peer_next));
        paid = (own_left.1, peer_left.1);
      };
    }

-- and so do no lists where it may not be led to
pub led_by : (o : Opening) (x : Role) (c : Counts) (w : Balances) (own peer : List Add) (p q : List Update) → HasFunds o
    → LeadTo o x c w own peer p q → MayBeLedTo o x c w own peer
led_by o x c w own peer p q funds h =
    subst (λ y. MayBeLedTo o x c y own peer) h.balances
    (subst (λ y. MayBeLedTo o x c (balances_of o x p q) y peer) h.own_live
    (subst (MayBeLedTo o x c (balances_of o x p q) (live_adds p q)) h.peer_live
    (lists_lead o x p q c funds h.own_ids h.peer_ids h.own_removals h.peer_removals h.closed.paid (sym h.own_count)
    (sym h.peer_count))))

-- no updates lead to the opening
pub opens : (o : Opening) (x : Role) → HasFunds o → MayBeLedTo o x none (balances_of o x [] []) [] []
opens o x funds = lists_lead o x [] [] none funds tt tt tt tt (omega arith, omega arith) refl refl
