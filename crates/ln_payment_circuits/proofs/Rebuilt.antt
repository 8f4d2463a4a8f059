-- A book that is read off the ends of a node has of each HTLC what the machine of a payment reads.
use Rattle.std.proofs.Common.{◌≡◌, ℕ, List, [], ◌∷◌, refl, sym, ap, subst, Bool, true, false, cond, not, ◌&&◌, Option}
use Rattle.std.proofs.Common.{Some}
use Rattle.ln_log.specs.declared.mark.Mark.{Mark as LogMark}
use Rattle.ln_log.specs.declared.mark.Mark.TheVariants as mark
use Rattle.ln_book_tables.specs.declared.htlc.OutgoingLeg.{OutgoingLeg as BookOutgoing}
use Rattle.ln_book_tables.specs.declared.htlc.OutgoingLeg.TheVariants as outgoing
use Rattle.ln_book_tables.specs.declared.htlc.IncomingLeg.{IncomingLeg as BookIncoming}
use Rattle.ln_book_tables.specs.declared.htlc.IncomingLeg.TheVariants as incoming
use Rattle.ln_book_tables.specs.declared.htlc.Htlc.{Htlc}
use Rattle.ln_book_tables.specs.Replay.{has_no_outgoing, has_nothing_offered, is_settled}
use Rattle.ln_book.specs.Rebuild.{may_go_out, outgoing_read}
use Rattle.ln_payment.specs.Parts.{Fails, Fulfils, Mark, Forward, Hold, Answer}
use Rattle.ln_payment.specs.Parts.{OutgoingLeg, Absent, Refused, Offered, Resolved, IncomingLeg, Note}
use Rattle.ln_payment.specs.Rebuild.{note_by}
use Rattle.ln_payment.specs.Rebuild as payment
use Rattle.ln_log.specs.Mark.{is_held}
use Rattle.ln_payment_circuits.proofs.Links.{mark_as}
use Rattle.ln_payment_circuits.proofs.Entries.{incoming_as, IsOutgoingOf, AreEntries, settled_some}

-- ---- what may go out

abbrev may_go : Mark → Bool
may_go Forward = true
may_go Hold = true
may_go (Answer k) = false

goes_as : (m : LogMark) (n : Mark) → mark_as m ≡ Some n → may_go_out m ≡ may_go n
goes_as mark.None n e = absurd (cc)
goes_as (mark.Forward channel amount expiry) n e = let is : Forward ≡ n = cc in ap may_go is
goes_as (mark.Fail reason) n e = let is : Answer Fails ≡ n = cc in ap may_go is
goes_as (mark.Malformed code) n e = let is : Answer Fails ≡ n = cc in ap may_go is
goes_as (mark.Fulfil preimage) n e = let is : Answer Fulfils ≡ n = cc in ap may_go is
goes_as (mark.Held event) n e = let is : Hold ≡ n = cc in ap may_go is

both_read : (w : OutgoingLeg) → payment.outgoing_read Forward w ≡ payment.outgoing_read Hold w
both_read Absent = refl
both_read Refused = refl
both_read (Offered c i) = refl
both_read (Resolved c i k) = refl

-- ---- one HTLC that is decided, and read

module _ (id_of : ℕ → List ℕ) where
  -- where it goes, if it has a removal
  forward_outgoing : (v : BookOutgoing) (w : OutgoingLeg) → IsOutgoingOf id_of v w
      → IsOutgoingOf id_of (cond (has_nothing_offered v) outgoing.Refused v) (payment.outgoing_read Forward w)
  forward_outgoing outgoing.Absent Absent is = tt
  forward_outgoing outgoing.Absent Refused is = absurd is
  forward_outgoing outgoing.Absent (Offered c i) is = absurd is
  forward_outgoing outgoing.Absent (Resolved c i k) is = absurd is
  forward_outgoing outgoing.Refused Absent is = absurd is
  forward_outgoing outgoing.Refused Refused is = tt
  forward_outgoing outgoing.Refused (Offered c i) is = absurd is
  forward_outgoing outgoing.Refused (Resolved c i k) is = absurd is
  forward_outgoing (outgoing.Offered j) Absent is = absurd is
  forward_outgoing (outgoing.Offered j) Refused is = absurd is
  forward_outgoing (outgoing.Offered j) (Offered c i) is = is
  forward_outgoing (outgoing.Offered j) (Resolved c i k) is = absurd is
  forward_outgoing (outgoing.Resolved j how) Absent is = absurd is
  forward_outgoing (outgoing.Resolved j how) Refused is = absurd is
  forward_outgoing (outgoing.Resolved j how) (Offered c i) is = absurd is
  forward_outgoing (outgoing.Resolved j how) (Resolved c i k) is = is

  removed_outgoing : (n : Mark) (v : BookOutgoing) (w : OutgoingLeg) → IsOutgoingOf id_of v w
      → IsOutgoingOf id_of (cond (may_go n && has_nothing_offered v) outgoing.Refused v) (payment.outgoing_read n w)
  removed_outgoing Forward v w is = forward_outgoing v w is
  removed_outgoing Hold v w is =
      subst (λ y. IsOutgoingOf id_of (cond (has_nothing_offered v) outgoing.Refused v) y) (both_read w)
      (forward_outgoing v w is)
  removed_outgoing (Answer k) v w is = is

  -- and as the book reads it
  outgoing_so : (m : LogMark) (n : Mark) (v : BookOutgoing) (w : OutgoingLeg) → mark_as m ≡ Some n
      → IsOutgoingOf id_of v w
      → IsOutgoingOf id_of (cond (may_go_out m && has_nothing_offered v) outgoing.Refused v) (payment.outgoing_read n w)
  outgoing_so m n v w e is =
      subst (λ t. IsOutgoingOf id_of (cond (t && has_nothing_offered v) outgoing.Refused v)
      (payment.outgoing_read n w)) (sym (goes_as m n e))
      (removed_outgoing n v w is)

  -- one with this removal
  abbrev read_by : BookOutgoing → BookIncoming → Htlc → Htlc
  read_by v b x = record x { outgoing = outgoing_read x.mark b v; incoming = b }

  abbrev found_by : BookOutgoing → BookIncoming → Htlc → List Htlc
  found_by v b x = cond (is_settled b && (has_no_outgoing (outgoing_read x.mark b v) && not (is_held x.mark))) []
      (read_by v b x ∷ [])

  turned : (t : Bool) (x : Htlc) (o : Option Note) → AreEntries id_of (cond (not t) (x ∷ []) []) o
      → AreEntries id_of (cond t [] (x ∷ [])) o
  turned true x o h = h
  turned false x o h = h

  by_back : (x : Htlc) (n : Mark) (v : BookOutgoing) (w : OutgoingLeg) → mark_as x.mark ≡ Some n
      → IsOutgoingOf id_of v w
      → x.decided ≡ true → (z : BookIncoming) → (z ≡ incoming.RemovalRefused → ⊥)
      → AreEntries id_of (found_by v z x) (note_by n w (incoming_as z))
  by_back x n v w e is d incoming.Open gone = (
    d,
    record {
      mark = e;
      outgoing = stays
          (may_go_out x.mark);
      incoming = refl;
    },
  )
    where
      stays : (t : Bool) → IsOutgoingOf id_of (cond (t && false) outgoing.Refused v) w
      stays true = is
      stays false = is
  by_back x n v w e is d incoming.RemovalSent gone =
      (d, record { mark = e; outgoing = outgoing_so x.mark n v w e is; incoming = refl })
  by_back x n v w e is d incoming.RemovalRefused gone = absurd (gone refl)
  by_back x n v w e is d incoming.Settled gone =
      turned (has_no_outgoing (outgoing_read x.mark incoming.Settled v) && not (is_held x.mark))
      (read_by v incoming.Settled x)
      (payment.settled_note n (payment.outgoing_read n w))
      (settled_some id_of (read_by v incoming.Settled x) n (payment.outgoing_read n w) d e
      (outgoing_so x.mark n v w e is))

  -- all of it
  pub read_one : (x : Htlc) (n : Mark) (v : BookOutgoing) (w : OutgoingLeg) (b : IncomingLeg)
      → mark_as x.mark ≡ Some n → IsOutgoingOf id_of v w
      → incoming_as x.incoming ≡ b → (x.incoming ≡ incoming.RemovalRefused → ⊥) → x.decided ≡ true
      → AreEntries id_of (found_by v x.incoming x) (note_by n w b)
  read_one x n v w b e is same gone d =
      subst (λ y. AreEntries id_of (found_by v x.incoming x) (note_by n w y)) same
      (by_back x n v w e is d x.incoming gone)
