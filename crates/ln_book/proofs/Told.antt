-- What is read of an end, by what a record tells of its updates.
use Rattle.std.specs.Prelude.{◌≡◌, ℕ, ◌+◌, ◌-◌, List, [], ◌∷◌, ◌++◌, map, take, drop, Bool, not, ◌&&◌, ◌||◌}
use Rattle.std.specs.Prelude.{nat_lt}
use Rattle.std.specs.List.{cons_option}
use Rattle.std.proofs.Common.{refl, ap, ◌∙◌, sym}
use Rattle.std.proofs.lemmas.List.{take_rest, take-append-drop}
use Rattle.ln_log.specs.declared.log.Side.TheVariants as side
use Rattle.ln_log.specs.declared.mark.Decision.{Decision}
use Rattle.ln_log.specs.declared.update.Add.{Add}
use Rattle.ln_log.specs.declared.update.Update.{Update}
use Rattle.ln_log.specs.declared.update.Update.TheVariants as update
use Rattle.ln_log.specs.Log.{Log}
use Rattle.ln_log.specs.RecordForm.{RecordForm, record_form_of}
use Rattle.ln_log.specs.Updates.{next_id, add_with, outcome, is_live, is_some}
use Rattle.ln_log.specs.Window.{first_live_htlcs}
use Rattle.ln_log.proofs.Behind.{next-append}
use Rattle.ln_channel.specs.End.{End}
use Rattle.ln_channel.specs.Ledger.{Ledger}
use Rattle.std.specs.List.{list_any}
use Rattle.std.specs.Prelude.{if◌then◌else◌}
use Rattle.ln_log.specs.declared.mark.Mark.{Mark}
use Rattle.ln_log.specs.Mark.{is_held}
use Rattle.ln_channel.specs.Ledger.{is_held_at}
use Rattle.ln_book.specs.Kept.{own_updates, next_own_id, is_gone, has_own_removal, has_decided}
use Rattle.ln_book.specs.Rebuild.{ChannelSnapshot, peer_updates, held_updates, incoming_by, incoming_in}
use Rattle.ln_book.specs.Rebuild.{decided_by, decided_in}
use Rattle.ln_book.specs.Rebuild.{legs_offered, legs_resolved, channel_snapshot_of}
use Rattle.ln_book.specs.Told.{AreToldAlike}

abbrev told : Log → RecordForm
told l = record_form_of l.first l

-- ---- of what is told

abbrev live_htlcs_of : List Add → List Update
live_htlcs_of adds = map (λ a. update.Add a) adds

abbrev own_in : RecordForm → List Update
own_in t = live_htlcs_of t.own_live_htlcs ++ t.own

abbrev peer_in : RecordForm → List Update
peer_in t = live_htlcs_of t.peer_live_htlcs ++ t.received

abbrev held_in : RecordForm → List Update
held_in t = take (t.current.own - t.first.own) t.own

abbrev gone_in : ℕ → RecordForm → Bool
gone_in id t = nat_lt id t.balances.next_peer && not (is_some (add_with id (live_htlcs_of t.peer_live_htlcs)))

abbrev removal_in : ℕ → RecordForm → Bool
removal_in id t = not (is_live (outcome id t.own)) || gone_in id t

own_told : (l : Log) → own_updates l ≡ own_in (told l)
own_told l = ap (λ us. first_live_htlcs side.Own l ++ us) (take_rest l.own l.first.own)

peer_told : (l : Log) → peer_updates l ≡ peer_in (told l)
peer_told l = ap (λ us. first_live_htlcs side.Peer l ++ us) (take_rest l.received l.first.peer)

removal_told : (id : ℕ) (l : Log) → has_own_removal id l ≡ removal_in id (told l)
removal_told id l = ap (λ us. not (is_live (outcome id us)) || is_gone id l) (take_rest l.own l.first.own)

next_told : (l : Log) → next_id l.own ≡ (told l).balances.next_own + next_id (told l).own
next_told l = ap next_id (sym (take-append-drop l.first.own l.own)) ∙ next-append (take l.first.own l.own)
    (drop l.first.own l.own)

-- ---- the same of two logs

module _ (l m : Log) (e : told l ≡ told m) where
  pub own_same : own_updates l ≡ own_updates m
  own_same = own_told l ∙ ap own_in e ∙ sym (own_told m)

  peer_same : peer_updates l ≡ peer_updates m
  peer_same = peer_told l ∙ ap peer_in e ∙ sym (peer_told m)

  held_same : held_updates l ≡ held_updates m
  held_same = ap held_in e

  pub removal_same : (id : ℕ) → has_own_removal id l ≡ has_own_removal id m
  removal_same id = removal_told id l ∙ ap (removal_in id) e ∙ sym (removal_told id m)

  pub next_same : next_id l.own ≡ next_id m.own
  next_same = next_told l ∙ ap (λ t. t.balances.next_own + next_id t.own) e ∙ sym (next_told m)

  back_same : (id : ℕ) → incoming_in id l ≡ incoming_in id m
  back_same id = ap (λ us. incoming_by (not (is_live (outcome id us))) (has_own_removal id l)) held_same
      ∙ ap (incoming_by (not (is_live (outcome id (held_updates m))))) (removal_same id)

  decided_same : (c : List ℕ) (ds : List Decision) → decided_in c l ds ≡ decided_in c m ds
  decided_same c [] = refl
  decided_same c (d ∷ ds) =
      ap (λ b. cons_option (decided_by c d.mark b (add_with d.id (peer_updates l))) (decided_in c l ds))
      (back_same d.id)
      ∙ ap (λ us. cons_option (decided_by c d.mark (incoming_in d.id m) (add_with d.id us))
      (decided_in c l ds)) peer_same
      ∙ ap (cons_option (decided_by c d.mark (incoming_in d.id m) (add_with d.id (peer_updates m)))) (decided_same c ds)

-- ---- of two ends

abbrev read_as : Log → List ℕ → Ledger → ChannelSnapshot
read_as l c g = record {
  offered = legs_offered c (own_updates l);
  results = legs_resolved c g.results;
  decided = decided_in c l g.decisions;
}

read_on : (l m : Log) → told l ≡ told m → (c : List ℕ) (g : Ledger) → read_as l c g ≡ read_as m c g
read_on l m e c g =
    ap (λ us. record {
      offered = legs_offered c us;
      results = legs_resolved c g.results;
      decided = decided_in c l g.decisions;
    }) (own_same l m e)
    ∙ ap (λ hs. record {
      offered = legs_offered c (own_updates m);
      results = legs_resolved c g.results;
      decided = hs;
    }) (decided_same l m e c g.decisions)

pub snapshot_same : (e x : End) → AreToldAlike e x → channel_snapshot_of e ≡ channel_snapshot_of x
snapshot_same e x a = read_on e.dance.log x.dance.log a.updates e.dance.channel e.ledger
    ∙ ap (λ c. read_as x.dance.log c e.ledger) a.channel ∙ ap (read_as x.dance.log x.dance.channel) a.ledger

pub next_ids_same : (e x : End) → AreToldAlike e x → next_own_id e ≡ next_own_id x
next_ids_same e x a = next_same e.dance.log x.dance.log a.updates

pub removals_same : (e x : End) → AreToldAlike e x
    → (id : ℕ) → has_own_removal id e.dance.log ≡ has_own_removal id x.dance.log
removals_same e x a = removal_same e.dance.log x.dance.log a.updates

pub decisions_same : (e x : End) → AreToldAlike e x → (n : ℕ) (m : Mark) → has_decided n m e ≡ has_decided n m x
decisions_same e x h n m =
    ap (λ (l : Ledger). nat_lt n l.decided && (if is_held m then list_any (is_held_at n) l.decisions
    else not (list_any (is_held_at n) l.decisions))) h.ledger
