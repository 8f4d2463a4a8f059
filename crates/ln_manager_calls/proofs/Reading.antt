-- What a book reads off an end that was loaded is what it reads off the one that was saved.
use Rattle.std.proofs.Common.{◌≡◌, ℕ, ◌-◌, List, [], ◌∷◌, ◌++◌, take, refl, sym, ap, ◌∙◌, Bool, not, ◌||◌}
use Rattle.std.proofs.Common.{◌&&◌, is_some}
use Rattle.std.specs.Prelude.{nat_lt}
use Rattle.std.specs.List.{cons_option}
use Rattle.std.proofs.lemmas.List.{take_rest}
use Rattle.ln_log.specs.declared.log.Side.TheVariants as side
use Rattle.ln_log.specs.declared.mark.Decision.{Decision}
use Rattle.ln_log.specs.Log.{Log, after_drop}
use Rattle.ln_log.specs.RecordForm.{RecordForm, as_offered, record_form_of}
use Rattle.ln_log.specs.Updates.{add_with, is_live, outcome}
use Rattle.ln_log.specs.Window.{first_live_htlcs}
use Rattle.ln_dance.specs.Dance.{with_log}
use Rattle.ln_channel.specs.End.{End, end_dropped, with_dance}
use Rattle.ln_link.specs.Loading.{IsReadAgain}
use Rattle.ln_book.specs.Kept.{has_own_removal, is_gone}
use Rattle.ln_book.specs.Rebuild.{ChannelSnapshot, channel_snapshot_of, decided_by, decided_in, holds_removal}
use Rattle.ln_book.specs.Rebuild.{incoming_by, legs_offered, legs_resolved, peer_window}
use Rattle.ln_book_tables.specs.declared.htlc.Htlc.{Htlc}

-- ---- what a record tells of updates

abbrev told : Log → RecordForm
told l = record_form_of l.first l

abbrev gone_in : ℕ → RecordForm → Bool
gone_in id t = nat_lt id t.balances.next_peer && not (is_some (add_with id (as_offered t.peer_live_htlcs)))

abbrev removed_in : ℕ → RecordForm → Bool
removed_in id t = not (is_live (outcome id t.own)) || gone_in id t

abbrev held_in : ℕ → RecordForm → Bool
held_in id t = not (is_live (outcome id (take (t.current.own - t.first.own) t.own)))

abbrev decided_from : List ℕ → RecordForm → List Decision → List Htlc
decided_from c t [] = []
decided_from c t (d ∷ ds) =
    cons_option (decided_by c d.mark (incoming_by (held_in d.id t) (removed_in d.id t))
    (add_with d.id (as_offered t.peer_live_htlcs ++ t.received))) (decided_from c t ds)

-- ---- is all that is read of them

removed_so : (id : ℕ) (l : Log) → has_own_removal id l ≡ removed_in id (told l)
removed_so id l = ap (λ us. not (is_live (outcome id us)) || is_gone id l) (take_rest l.own l.first.own)

decided_so : (c : List ℕ) (l : Log) (ds : List Decision) → decided_in c l ds ≡ decided_from c (told l) ds
decided_so c l [] = refl
decided_so c l (d ∷ ds) =
    ap (λ b. cons_option (decided_by c d.mark (incoming_by (holds_removal d.id l) b)
    (add_with d.id (first_live_htlcs side.Peer l ++ peer_window l))) (decided_in c l ds)) (removed_so d.id l)
    ∙ ap (λ us. cons_option (decided_by c d.mark (incoming_by (holds_removal d.id l) (removed_in d.id (told l)))
    (add_with d.id (first_live_htlcs side.Peer l ++ us))) (decided_in c l ds)) (take_rest l.received l.first.peer)
    ∙ ap (cons_option (decided_by c d.mark (incoming_by (held_in d.id (told l)) (removed_in d.id (told l)))
    (add_with d.id (as_offered (told l).peer_live_htlcs ++ (told l).received)))) (decided_so c l ds)

-- ---- of an end

abbrev with_updates : Log → End → End
with_updates l e = with_dance (with_log l e.dance) e

abbrev read_of : RecordForm → End → ChannelSnapshot
read_of t e = record {
  offered = legs_offered e.dance.channel (as_offered t.own_live_htlcs ++ t.own);
  results = legs_resolved e.dance.channel e.ledger.results;
  decided = decided_from e.dance.channel t e.ledger.decisions;
}

read_so : (l : Log) (e : End) → channel_snapshot_of (with_updates l e) ≡ read_of (told l) e
read_so l e =
    ap (λ us. record {
      offered = legs_offered e.dance.channel (first_live_htlcs side.Own l ++ us);
      results = legs_resolved e.dance.channel e.ledger.results;
      decided = decided_in e.dance.channel l e.ledger.decisions;
    }) (take_rest l.own l.first.own)
    ∙ ap (λ hs. record {
      offered = legs_offered e.dance.channel (as_offered (told l).own_live_htlcs ++ (told l).own);
      results = legs_resolved e.dance.channel e.ledger.results;
      decided = hs;
    }) (decided_so e.dance.channel l e.ledger.decisions)

pub read_again : (x e : End) → IsReadAgain x e → channel_snapshot_of x ≡ channel_snapshot_of (end_dropped e)
read_again x e r =
    ap channel_snapshot_of r.same_end ∙ read_so x.dance.log e
    ∙ ap (λ t. read_of t e) (r.log.same_record
    ∙ ap (λ n. record_form_of n (after_drop e.dance.log)) r.log.first)
    ∙ sym (read_so (after_drop e.dance.log) e)
