-- What a book is read off ends that say which HTLCs they forward: no event tells of any of its HTLCs, and each came in
-- by a channel.
use Rattle.std.proofs.Common.{◌≡◌, ℕ, List, [], ◌∷◌, refl}
use Rattle.std.proofs.Common.{Bool, true, false, cond, Option, Some, None}
use Rattle.std.specs.List.{cons_option}
use Rattle.ln_log.specs.declared.mark.Decision.{Decision}
use Rattle.ln_log.specs.declared.mark.Settlement.{Settlement}
use Rattle.ln_log.specs.declared.update.Add.{Add}
use Rattle.ln_log.specs.declared.update.Update.{Update}
use Rattle.ln_log.specs.Updates.{add_with}
use Rattle.ln_log.specs.Log.{Log}
use Rattle.ln_hooks.specs.declared.event.How.{How}
use Rattle.ln_channel.specs.End.{End}
use Rattle.ln_book_tables.specs.declared.htlc.Htlc.{Htlc}
use Rattle.ln_book_tables.specs.Replay.{is_over}
use Rattle.ln_book.specs.declared.recovery.leg.Leg.{Leg}
use Rattle.ln_book.specs.Rebuild.{ChannelSnapshot, channel_snapshot_of, no_event}
use Rattle.ln_book.specs.Rebuild.{leg_resolved, legs_resolved, how_of}
use Rattle.ln_book.specs.Rebuild.{peer_updates, incoming_in}
use Rattle.ln_book.specs.Rebuild.{decided_by, decided_in, led, unfinished, all_unfinished, is_read, htlc_left}
use Rattle.ln_book.specs.Rebuild.{left}
use Rattle.ln_book.specs.Rebuild.{all_left}
use Rattle.ln_book.specs.Rebuild.{rebuilt_htlcs}
use Rattle.ln_payment_circuits.specs.Circuit.{Forwards}
use Rattle.ln_payment_circuits.specs.Snapshot.{IsIn, All, snapshots}
use Rattle.ln_payment_circuits.proofs.Results.{IsTrue}
use Rattle.ln_payment_circuits.proofs.OutgoingLegs.{of_member}
use Rattle.ln_payment_circuits.proofs.Tidy.{all_append}
use Rattle.ln_payment_circuits.proofs.Naming.{Names, AllName}

module _ (P : List ℕ → Type 0) where
  -- ---- each HTLC that is read

  abbrev pub IsReadSo : Htlc → Type 0
  IsReadSo y = (y.event ≡ no_event) × P y.key.channel

  decided_all : (ch : List ℕ) (l : Log) → P ch → (ds : List Decision)
      → All IsReadSo (decided_in ch l ds)
  decided_all ch l at [] = tt
  decided_all ch l at (d ∷ ds) = cases (add_with d.id (peer_updates l)) (decided_all ch l at ds)
    where
      cases : (o : Option Add) → All IsReadSo (decided_in ch l ds)
          → All IsReadSo (cons_option (decided_by ch d.mark (incoming_in d.id l) o) (decided_in ch l ds))
      cases None rest = rest
      cases (Some a) rest = ((refl, at), rest)

  unfinished_all : (all : List ChannelSnapshot) (hs : List Htlc) → All IsReadSo hs → All IsReadSo (unfinished all hs)
  unfinished_all all [] h = tt
  unfinished_all all (x ∷ xs) h = cases (is_over (led all x)) (unfinished_all all xs h.1)
    where
      cases : (b : Bool) → All IsReadSo (unfinished all xs)
          → All IsReadSo (cond b (unfinished all xs) (led all x ∷ unfinished all xs))
      cases true rest = rest
      cases false rest = (h.0, rest)

  legs_all : (ch : List ℕ) (ss : List Settlement) → All (λ (s : Settlement). P s.origin.0) ss
      → All (λ (g : Leg). P g.origin.channel) (legs_resolved ch ss)
  legs_all ch [] h = tt
  legs_all ch (s ∷ ss) h = cases (how_of s.removal) (legs_all ch ss h.1)
    where
      cases : (o : Option How) → All (λ (g : Leg). P g.origin.channel) (legs_resolved ch ss)
          → All (λ (g : Leg). P g.origin.channel) (cons_option (leg_resolved ch s o) (legs_resolved ch ss))
      cases None rest = rest
      cases (Some w) rest = (h.0, rest)

  left_each : (all : List ChannelSnapshot) (ls : List Leg) → All (λ (g : Leg). P g.origin.channel) ls
      → All IsReadSo (left all ls)
  left_each all [] h = tt
  left_each all (g ∷ ls) h = cases (is_read g.origin all) (left_each all ls h.1)
    where
      cases : (b : Bool) → All IsReadSo (left all ls) → All IsReadSo (cond b (left all ls) (htlc_left g ∷ left all ls))
      cases true rest = rest
      cases false rest = ((refl, h.0), rest)

  -- of each end
  abbrev pub IsEndSo : ℕ × End → Type 0
  IsEndSo x = P x.1.dance.channel × All (λ (s : Settlement). P s.origin.0) x.1.ledger.results

  all_unfinished_so : (all : List ChannelSnapshot) (es : List (ℕ × End)) → All IsEndSo es
      → All IsReadSo (all_unfinished all (snapshots es))
  all_unfinished_so all [] h = tt
  all_unfinished_so all (x ∷ es) h =
      all_append IsReadSo (unfinished all (channel_snapshot_of x.1).decided) (all_unfinished all (snapshots es))
      (unfinished_all all (channel_snapshot_of x.1).decided (decided_all x.1.dance.channel x.1.dance.log h.0.0
      x.1.ledger.decisions))
      (all_unfinished_so all es h.1)

  all_left_so : (all : List ChannelSnapshot) (es : List (ℕ × End)) → All IsEndSo es
      → All IsReadSo (all_left all (snapshots es))
  all_left_so all [] h = tt
  all_left_so all (x ∷ es) h =
      all_append IsReadSo (left all (channel_snapshot_of x.1).results) (all_left all (snapshots es))
      (left_each all (channel_snapshot_of x.1).results (legs_all x.1.dance.channel x.1.ledger.results h.0.1))
      (all_left_so all es h.1)

  pub read_so : (es : List (ℕ × End)) → All IsEndSo es → (y : Htlc) → IsIn y (rebuilt_htlcs (snapshots es))
      → IsReadSo y
  read_so es h y m = of_member IsReadSo (rebuilt_htlcs (snapshots es)) y
      (all_append IsReadSo (all_unfinished (snapshots es) (snapshots es)) (all_left (snapshots es) (snapshots es))
      (all_unfinished_so (snapshots es) es h) (all_left_so (snapshots es) es h)) m

  -- its results are of adds that say what they forward
  forwarded_so : (o : Option Add) (p : List ℕ × ℕ) → Names P o → Forwards p o → P p.0
  forwarded_so None p h f = absurd f
  forwarded_so (Some a) p h f = h p f

  pub results_so : (own held : List Update) → AllName P own → (ss : List Settlement) → All (IsTrue own held) ss
      → All (λ (s : Settlement). P s.origin.0) ss
  results_so own held h [] k = tt
  results_so own held h (s ∷ ss) k = (
    forwarded_so (add_with s.id own) s.origin (h s.id) k.0.forwards,
    results_so own held h ss k.1,
  )
